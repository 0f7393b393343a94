use Rattle.std.proofs.Common.{arith, rules}
use Rattle.tables.specs.Listed.{listed}
use Rattle.metering.proofs.Gathering.{total_readings, demand-made}
use Rattle.metering.proofs.demand.metered_demand.Goals as goal

pub total-read-requires : goal.total-read-requires
total-read-requires g c =
    omega (arith, total_readings c.as_slice.result.now (listed c.in_ok-gathered.gathered) c.as_slice.ensures, c.in_ok-gathered.ensures.light)

pub multiply-requires : goal.multiply-requires
multiply-requires g c = record {
  light = omega (arith, c.total-read.ensures, total_readings c.as_slice.result.now (listed c.in_ok-gathered.gathered) c.as_slice.ensures, c.in_ok-gathered.ensures.light);
  small = c.requires.small;
}

pub returns : goal.returns
returns g c =
    let gathered = c.in_ok-gathered.ensures.exact in
    search (rules, demand-made)
