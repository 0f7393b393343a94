use Rattle.std.proofs.Common.{rules}
use Rattle.metering.proofs.Lookups.{first-here, first-later, first_nowhere}
use Rattle.metering.proofs.lookup.first_reading.Goals as goal

pub returns-then-number-meter : goal.returns-then-number-meter
returns-then-number-meter g c = search (rules, first-here)

pub loop-row-preserved : goal.loop-row-preserved
loop-row-preserved g c = search (rules, first-later)

pub returns : goal.returns
returns g c = search (rules, first_nowhere)
