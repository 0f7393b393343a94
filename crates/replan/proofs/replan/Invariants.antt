use Rattle.replan.proofs.Pairs.{AllWorkable}
use Rattle.replan.proofs.replan.Given as goal

-- the plans still to be worked out were divided among the shares of their groups
abbrev pub invariant-loop-group : goal.invariant-loop-group
invariant-loop-group l = AllWorkable l.shares l.share_plans l.group-iterator.a.rest.now l.group-iterator.b.rest.now
