use Rattle.std.proofs.Common.{rules, ◌∷◌, [], ◌++◌, length, sym, ap, ◌∙◌, subst, arith}
use Rattle.std.specs.Iterator.{Yields}
use Rattle.std.proofs.iter.Next.{Yields-more}
use Rattle.std.proofs.lemmas.List.{append_assoc, append-nil, length-append, length_push}
use Rattle.tables.specs.Listed.{listed}
use Rattle.tables.proofs.Table.extend.Goals as goal

pub loop-item-init : goal.loop-item-init
loop-item-init g c = (search rules, search rules, sym (append-nil (listed c.args.self.now)))

-- one item more has come than rows were added, and no more come than there is room for
pub push-requires : goal.push-requires
push-requires g c =
    let taken = Yields-more g.I.Iterator.next_gives _ c.loop-item.yielded _ c.in-Some.item _ c.loop-item.yielded_by c.in-Some.ensures.steps in
    let few = c.requires.few (c.loop-item.yielded ++ c.in-Some.item ∷ []) _ (subst (λ s. Yields g.I.Iterator.next_gives s (c.loop-item.yielded ++ c.in-Some.item ∷ []) c.next.new.self) c.into_iter-item-iterator.ensures.into_iter_gives taken) in
    (search rules, omega (arith, few, length_push c.loop-item.yielded c.in-Some.item, length-append (listed c.args.self.now) c.loop-item.yielded, ap length c.loop-item.invariant.2))

pub loop-item-preserved : goal.loop-item-preserved
loop-item-preserved g c =
    (search rules, search rules, c.push.ensures ∙ ap (λ q. q ++ c.in-Some.item ∷ []) c.loop-item.invariant.2 ∙ append_assoc (listed c.args.self.now) c.loop-item.yielded (c.in-Some.item ∷ []))
