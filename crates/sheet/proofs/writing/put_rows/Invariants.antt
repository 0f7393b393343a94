use Rattle.std.proofs.Common.{◌+◌, ◌≤◌, length, take, drop}
use Rattle.sheet.specs.Put.{Put}
use Rattle.sheet.specs.Sheet.{rows_text}
use Rattle.sheet.proofs.writing.put_rows.Given as goal

-- the records so far are written, and there is room for the others
abbrev pub invariant-loop-row : goal.invariant-loop-row
invariant-loop-row l =
    Put l.initial.into l.into l.initial.at (rows_text (take l.row-index l.rows)) l.at
    × (l.at + length (rows_text (drop l.row-index l.rows)) ≤ length l.into)
