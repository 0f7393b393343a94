use Rattle.std.proofs.Common.{◌≡◌, ◌+◌, ◌≤◌, drop, sum}
use Rattle.tables.specs.Carried.{carried_by}
use Rattle.tables.proofs.totals.total_within.Given as goal

abbrev pub invariant-loop-row : goal.invariant-loop-row
invariant-loop-row g l =
    let carried = carried_by l.whose g.T.Owned.owned g.T.Carries.carried in
    (l.total ≤ l.most) × (l.total + sum (carried (drop l.row-index l.rows)) ≡ sum (carried l.rows))
