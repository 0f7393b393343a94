use Rattle.std.proofs.Common.{◌≡◌, ◌+◌, ◌≤◌, drop}
use Rattle.tables.specs.Keys.{count_if}
use Rattle.tables.proofs.keys.count_fitting.Given as goal

abbrev pub invariant-loop-row : goal.invariant-loop-row
invariant-loop-row g l =
    let fits = g.T.Keyed.fits l.key in
    (l.count ≤ l.row-index) × (l.count + count_if fits (drop l.row-index l.rows) ≡ count_if fits l.rows)
