use Rattle.std.proofs.Common.{◌≡◌, length}
use Rattle.std.specs.List.{AllByRecursion}
use Rattle.tables.specs.Listed.{listed}
use Rattle.figures.proofs.draws.draw_rows.Given as goal

-- the rows so far are drawn, and each is fine
abbrev pub invariant-loop-place : goal.invariant-loop-place
invariant-loop-place g l = record { drawn : length (listed l.rows) ≡ l.place; fine : AllByRecursion (g.P.DrawsRows.fine l.pattern) (listed l.rows) }
