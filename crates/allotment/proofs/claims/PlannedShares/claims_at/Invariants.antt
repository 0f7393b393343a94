use Rattle.std.proofs.Common.{◌≡◌, ◌≤◌, ◌++◌, length, drop}
use Rattle.tables.specs.Listed.{listed}
use Rattle.allotment.specs.Claims.{claims_at}
use Rattle.allotment.proofs.claims.PlannedShares.claims_at.Given as goal

abbrev pub invariant-loop-share : goal.invariant-loop-share
invariant-loop-share l =
    let i = length l.yielded in
    let shares = l.self.shares.now in
    let plans = l.self.plans.now in
    (length (listed l.claims) ≤ i)
    × (listed l.claims ++ claims_at l.plant (drop i shares) (drop i plans) ≡ claims_at l.plant shares plans)
