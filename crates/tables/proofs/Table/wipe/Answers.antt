use Rattle.std.proofs.Common.{◌≡◌, ◌<◌, ◌≤◌, [], ◌∷◌, ◌++◌, length, replicate, sym, refl, ap, ◌∙◌, arith, length-set, take_all}
use Rattle.std.proofs.lemmas.List.{take_more_set, replicate_more}
use Rattle.tables.proofs.Table.wipe.Goals as goal

pub invariant_of-self : goal.invariant_of-self
invariant_of-self g c = record { within = omega arith; whole = c.loop-place.invariant.0 }

pub loop-place-init : goal.loop-place-init
loop-place-init g c = (c.args.self.now.whole, refl)

pub loop-place-preserved : goal.loop-place-preserved
loop-place-preserved g c =
    let items = c.loop-place.place-items in
    let i = c.loop-place.place-index in
    let blank = c.args.blank in
    let here : i < length items = omega arith in
    (length-set items i _ ∙ c.loop-place.invariant.0, take_more_set items i blank here ∙ ap (λ front. front ++ blank ∷ []) c.loop-place.invariant.1 ∙ replicate_more i blank)

pub returns : goal.returns
returns g c =
    let items = c.loop-place.place-items in
    let i = c.loop-place.place-index in
    let past : length items ≤ i = omega arith in
    let all : i ≡ g.row.N = omega arith in
    (record { empty = refl; blank = sym (take_all i items past) ∙ c.loop-place.invariant.1 ∙ ap (λ n. replicate n c.args.blank) all })
