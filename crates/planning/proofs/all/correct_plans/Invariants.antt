use Rattle.planning.proofs.Everyone.{Done}
use Rattle.planning.proofs.all.correct_plans.Given as goal

abbrev pub invariant-loop-contract : goal.invariant-loop-contract
invariant-loop-contract g l =
    Done (g.A.DivisionRule.parts l.first) (g.B.DivisionRule.parts l.second) l.contracts l.trades.lines.now l.trades.figures.now l.holdings.groups.now l.holdings.shares.now
    l.contract-index l.initial.group_parts l.group_parts l.initial.share_plans l.share_plans
