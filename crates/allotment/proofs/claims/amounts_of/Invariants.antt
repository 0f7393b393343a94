use Rattle.std.proofs.Common.{◌≡◌, ◌≤◌, length, take}
use Rattle.tables.specs.Listed.{listed}
use Rattle.allotment.specs.Output.{amounts}
use Rattle.allotment.proofs.claims.amounts_of.Given as goal

abbrev pub invariant-loop-claim : goal.invariant-loop-claim
invariant-loop-claim l = (length (listed l.amounts) ≤ l.claim-index) × (listed l.amounts ≡ amounts (take l.claim-index l.turns))
