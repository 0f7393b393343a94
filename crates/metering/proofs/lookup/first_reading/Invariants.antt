use Rattle.std.proofs.Common.{◌≡◌, drop}
use Rattle.metering.specs.Lookup.{first_reading}
use Rattle.metering.proofs.lookup.first_reading.Given as goal

abbrev pub invariant-loop-row : goal.invariant-loop-row
invariant-loop-row g l =
    let first = first_reading g.R.MeterRow.numbered g.R.MeterRow.gives l.meter in
    first (drop l.row-index l.rows) ≡ first l.rows
