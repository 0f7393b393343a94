use Rattle.std.proofs.Common.{◌≡◌, ◌≤◌, ◌++◌, length, drop}
use Rattle.tables.specs.Listed.{listed}
use Rattle.tables.specs.Carried.{claims_of}
use Rattle.sharing.specs.Levels.{claim_of}
use Rattle.sharing.proofs.levels.gather_heads.Given as goal

abbrev pub invariant-loop-head : goal.invariant-loop-head
invariant-loop-head g l =
    let claims = claims_of g.H.Owned.owned (claim_of g.H.Head.claimed g.H.Head.numbered g.M.Owned.owned g.M.Carries.carried l.levels.members.now) l.owner in
    (length (listed l.claims) ≤ l.head-index) × (listed l.claims ++ claims (drop l.head-index l.levels.heads.now) ≡ claims l.levels.heads.now)
