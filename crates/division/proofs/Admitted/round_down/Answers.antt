use Rattle.std.proofs.Common.{length, get_or, sum, ap, ◌∙◌, arith}
use Rattle.std.proofs.lemmas.List.Sums.{get_or-le-sum_by}
use Rattle.tables.proofs.Writing.{written_more, written_all}
use Rattle.division.specs.Rules.{rounded_down}
use Rattle.division.proofs.Admitted.round_down.Goals as goal

pub rounded_down-requires : goal.rounded_down-requires
rounded_down-requires c =
    let a = c.args.self.now in
    record {
      some = a.some;
      small = a.small;
      light = omega (arith, get_or-le-sum_by (λ x. x) a.claims.now c.loop-i.i 0 c.loop-i-test.true, a.light);
    }

pub loop-i-preserved : goal.loop-i-preserved
loop-i-preserved c =
    let a = c.args.self.now in
    let cs = a.claims.now in
    let i = c.loop-i.i in
    written_more (rounded_down a.whole (sum cs) (length cs)) cs c.loop-i.into i 0 c.rounded_down.result c.loop-i-test.true (omega (arith, c.loop-i.auto.into, c.requires, c.loop-i-test.true))
    (c.rounded_down.ensures ∙ ap (λ t. rounded_down a.whole t (length cs) (get_or cs i 0)) a.added) c.loop-i.invariant

pub returns : goal.returns
returns c =
    let a = c.args.self.now in
    let cs = a.claims.now in
    written_all (rounded_down a.whole (sum cs) (length cs)) cs c.loop-i.into c.loop-i.i (omega (arith, c.loop-i.auto.into, c.requires)) c.loop-i-test.false c.loop-i.invariant
