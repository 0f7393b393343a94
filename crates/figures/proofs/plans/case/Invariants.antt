use Rattle.std.proofs.Common.{◌≤◌}
use Rattle.std.specs.List.{AllByRecursion}
use Rattle.terms.specs.Plans.{plan_of}
use Rattle.figures.proofs.Parted.{Small}
use Rattle.figures.proofs.plans.case.Given as goal

-- the groups and parts still to be printed are within their limits
abbrev pub invariant-loop-group : goal.invariant-loop-group
invariant-loop-group l = record { filed : AllByRecursion (λ g. plan_of g ≤ 2000000) l.group-iterator.a.rest.now; small : AllByRecursion Small l.group-iterator.b.rest.now }
