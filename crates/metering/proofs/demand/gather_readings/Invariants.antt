use Rattle.std.proofs.Common.{◌≡◌, length, drop}
use Rattle.tables.specs.Listed.{listed}
use Rattle.metering.specs.Demand.{readings}
use Rattle.metering.proofs.Gathering.{behind}
use Rattle.metering.proofs.demand.gather_readings.Given as goal

abbrev pub invariant-loop-meter : goal.invariant-loop-meter
invariant-loop-meter g l =
    let read = readings (g.S.MeterSource.read l.source) in
    (length (listed l.gathered) ≡ l.meter-index) × (behind (listed l.gathered) (read (drop l.meter-index l.meters)) ≡ read l.meters)
