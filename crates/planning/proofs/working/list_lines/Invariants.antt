use Rattle.std.proofs.Common.{◌≡◌, ◌≤◌, ◌++◌, length, drop, sum}
use Rattle.std.specs.Slice.Iter.{iter_rest}
use Rattle.tables.specs.Listed.{listed}
use Rattle.sharing.specs.Owners.{count_of}
use Rattle.planning.specs.Workings.{working_of, workings}
use Rattle.planning.proofs.working.list_lines.Given as goal

abbrev pub invariant-loop-row : goal.invariant-loop-row
invariant-loop-row g l =
    let owned = g.T.Owned.owned in
    let f = workings owned g.T.Claimant.known l.owner (working_of l.whole (sum l.claims) (length l.claims)) in
    let k = length l.yielded in
    let claims = iter_rest l.left in
    (length (listed l.lines) ≤ k)
    × (count_of owned l.owner (drop k l.rows) ≡ length claims)
    × (length claims ≤ length l.claims)
    × (sum claims ≤ sum l.claims)
    × (listed l.lines ++ f (drop k l.rows) claims (drop k l.figures) ≡ f l.rows l.claims l.figures)
