use Rattle.std.proofs.Common.{◌≡◌, map, take}
use Rattle.settlement.specs.Demand.{kwh_read}
use Rattle.settlement.specs.Retailers.{contract_settled}
use Rattle.settlement.proofs.retailers.settle_contracts.Given as goal

abbrev pub invariant-loop-i : goal.invariant-loop-i
invariant-loop-i g l =
    take l.i l.settled ≡ map (contract_settled (kwh_read (g.S.MeterSource.read l.area.source.now)) l.area.places.now l.trades.lines.now l.trades.figures.now l.groups.groups.now) (take l.i l.area.contracts.now)
