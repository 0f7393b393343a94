use Rattle.std.proofs.Common.{◌≡◌, ◌+◌, ◌++◌, ◌<◌, length-take, get_or, get_or-take, set, take, drop, ap, ◌∙◌, arith}
use Rattle.std.proofs.lemmas.List.Sums.{get_or-le-sum_by}
use Rattle.division.specs.Rules.{topped}
use Rattle.division.specs.Proportions.{topped_more, get_or-topped}
use Rattle.division.proofs.Topping.{topped-front}
use Rattle.division.proofs.pro_rata.top_up.Goals as goal

pub overflow_add-part : goal.overflow_add-part
overflow_add-part c =
    let xs = take c.args.left c.args.into.now in
    let k = c.loop-part.part-index in
    let below : k < c.args.left = omega (arith, length-take c.args.left c.args.into.now, c.loop-part-test.true) in
    let e : get_or c.loop-part.part-items k 0 ≡ get_or c.args.into.now k 0 = ap (λ l. get_or l k 0) c.loop-part.invariant ∙ get_or-topped k xs ∙ get_or-take c.args.left c.args.into.now k 0 below in
    omega (arith, e, get_or-le-sum_by (λ x. x) c.args.into.now k 0 (omega (arith, c.requires.few, below)), c.requires.small, c.requires.few, below)

pub loop-part-preserved : goal.loop-part-preserved
loop-part-preserved c =
    let k = c.loop-part.part-index in
    ap (λ l. set l k (get_or l k 0 + 1)) c.loop-part.invariant ∙ topped_more k (take c.args.left c.args.into.now) c.loop-part-test.true

pub returns : goal.returns
returns c =
    let end : c.loop-part.part-index ≡ c.args.left = omega (arith, length-take c.args.left c.args.into.now, c.loop-part-test.false, c.loop-part.auto.part-index-end, c.requires.few) in
    ap (λ l. l ++ drop c.args.left c.args.into.now) (c.loop-part.invariant ∙ ap (λ n. topped n (take c.args.left c.args.into.now)) end) ∙ topped-front c.args.left c.args.into.now
