use Rattle.std.proofs.Common.{◌≡◌, ◌+◌, ◌++◌, length, drop}
use Rattle.tables.specs.Keys.{count_if}
use Rattle.tables.specs.Listed.{listed}
use Rattle.terms.specs.Owners.{is_of}
use Rattle.settlement.specs.Demand.{meters_of}
use Rattle.settlement.proofs.demand.meters_of.Given as goal

abbrev pub invariant-loop-place : goal.invariant-loop-place
invariant-loop-place l =
    (length (listed l.meters) + count_if (is_of l.owner) (drop l.place-index l.places) ≡ count_if (is_of l.owner) l.places)
    × (listed l.meters ++ meters_of l.owner (drop l.place-index l.places) ≡ meters_of l.owner l.places)
