use Rattle.std.proofs.Common.{get_or, ◌∙◌, arith}
use Rattle.std.proofs.lemmas.List.{get_or_default}
use Rattle.terms.specs.declared.codes.Kind.TheVariants.{Generation}
use Rattle.terms.specs.declared.records.Contract.{Contract}
use Rattle.planning.proofs.Everyone.{done_more, done_all}
use Rattle.planning.proofs.all.correct_plans.Goals as goal

pub loop-contract-preserved : goal.loop-contract-preserved
loop-contract-preserved g c =
    let cs = c.args.contracts.now in
    let n = c.loop-contract.contract-index in
    let blank : Contract = record { number = 0; kind = Generation; multiplier = 0 } in
    let x = get_or cs n blank in
    let lg = c.loop-contract.auto.group_parts ∙ c.requires.groups in
    let ls = c.loop-contract.auto.share_plans ∙ c.requires.shares in
    done_more (g.A.DivisionRule.parts c.args.first.now) (g.B.DivisionRule.parts c.args.second.now) cs c.args.trades.now.lines.now c.args.trades.now.figures.now c.args.holdings.now.groups.now c.args.holdings.now.shares.now
    c.requires.apart c.args.holdings.now.apart n x c.loop-contract-test.true (get_or_default cs n blank x c.loop-contract-test.true)
    c.args.group_parts.now c.loop-contract.group_parts c.args.share_plans.now c.loop-contract.share_plans c.correct_contract.new.group_parts c.correct_contract.new.share_plans
    lg (c.correct_contract.auto.group_parts ∙ lg) ls (c.correct_contract.auto.share_plans ∙ ls)
    c.correct_contract.ensures c.loop-contract.invariant

pub returns : goal.returns
returns g c =
    done_all (g.A.DivisionRule.parts c.args.first.now) (g.B.DivisionRule.parts c.args.second.now) c.args.contracts.now c.args.trades.now.lines.now c.args.trades.now.figures.now c.args.holdings.now.groups.now c.args.holdings.now.shares.now
    c.loop-contract.contract-index c.args.group_parts.now c.loop-contract.group_parts c.args.share_plans.now c.loop-contract.share_plans (omega arith) c.loop-contract.invariant
