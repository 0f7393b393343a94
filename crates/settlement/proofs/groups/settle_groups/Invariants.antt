use Rattle.std.proofs.Common.{◌≡◌, ◌+◌, ◌≤◌, ◌++◌, length, take}
use Rattle.std.specs.Iterator.Adapters.{enumerate_count, enumerate_source, zip_first, zip_second}
use Rattle.std.specs.List.{AllByRecursion}
use Rattle.std.specs.Slice.Iter.{iter_rest}
use Rattle.settlement.specs.Demand.{kwh_read}
use Rattle.settlement.specs.Groups.{groups_settled}
use Rattle.settlement.proofs.groups.settle_groups.Given as goal

abbrev pub invariant-loop-i : goal.invariant-loop-i
invariant-loop-i g l =
    let n = enumerate_count l.i-iterator in
    let groups = iter_rest (zip_first (enumerate_source l.i-iterator)) in
    let parts = iter_rest (zip_second (enumerate_source l.i-iterator)) in
    let settled = groups_settled (kwh_read (g.S.MeterSource.read l.area.source.now)) l.area.contracts.now l.area.places.now l.allotted.shares.now l.allotted.allotted.now in
    (length parts ≡ length groups)
    × (n + length groups ≡ length l.settled)
    × (take n l.settled ++ settled groups parts ≡ settled l.groups l.parts)
    × AllByRecursion (λ s. s.supplied ≤ 153600000) (take n l.settled)
