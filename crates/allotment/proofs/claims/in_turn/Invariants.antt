use Rattle.std.proofs.Common.{◌≡◌, ◌+◌, ◌-◌, ◌≤◌, ◌++◌, length}
use Rattle.tables.specs.Listed.{listed}
use Rattle.allotment.specs.Claims.{turns_from, in_turn}
use Rattle.allotment.proofs.claims.in_turn.Given as goal

abbrev pub invariant-loop-rank : goal.invariant-loop-rank
invariant-loop-rank l =
    (length (listed l.turns) + 1 ≤ l.rank)
    × (listed l.turns ++ turns_from l.rank (100 - l.rank) l.claims ≡ in_turn l.claims)
