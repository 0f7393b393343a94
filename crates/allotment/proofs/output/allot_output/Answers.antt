use Rattle.std.proofs.Common.{ℕ, get_or}
use Rattle.std.proofs.lemmas.List.{get_or_default}
use Rattle.metering.specs.Readings.{kwh_of}
use Rattle.terms.specs.declared.records.Plant.{Plant}
use Rattle.allotment.proofs.Plants.{outputs-none, outputs_more}
use Rattle.allotment.proofs.output.allot_output.Goals as goal

pub loop-plant-init : goal.loop-plant-init
loop-plant-init g c =
    outputs-none (g.R.DivisionRule.parts c.args.rule.now) (λ (meter : ℕ). kwh_of (g.S.MeterSource.read c.args.source.now meter)) c.args.plants.now c.args.planned.now.shares.now c.args.planned.now.plans.now c.args.allotted.now

pub loop-plant-preserved : goal.loop-plant-preserved
loop-plant-preserved g c =
    let plants = c.args.plants.now in
    let n = c.loop-plant.plant-index in
    let none : Plant = record { meter = 0 } in
    let p = get_or plants n none in
    outputs_more (g.R.DivisionRule.parts c.args.rule.now) (λ (meter : ℕ). kwh_of (g.S.MeterSource.read c.args.source.now meter)) plants c.args.planned.now.shares.now c.args.planned.now.plans.now c.args.allotted.now
    n p c.loop-plant-test.true (get_or_default plants n none p c.loop-plant-test.true) c.kwh_of-reading.result c.kwh_of-reading.ensures.value c.loop-plant.allotted c.allot_plant.new.allotted c.loop-plant.invariant c.allot_plant.ensures
