use Rattle.std.proofs.Common.{◌≡◌, take}
use Rattle.metering.specs.Readings.{kwh_of}
use Rattle.allotment.specs.Output.{outputs}
use Rattle.allotment.proofs.output.allot_output.Given as goal

abbrev pub invariant-loop-plant : goal.invariant-loop-plant
invariant-loop-plant g l =
    l.allotted ≡ outputs (g.R.DivisionRule.parts l.rule) (λ meter. kwh_of (g.S.MeterSource.read l.source meter)) (take l.plant-index l.plants) l.planned.shares.now l.planned.plans.now l.initial.allotted
