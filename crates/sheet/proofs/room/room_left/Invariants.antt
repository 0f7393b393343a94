use Rattle.std.proofs.Common.{◌≡◌, ◌+◌, length, drop}
use Rattle.sheet.specs.Sheet.{rows_text, sheet_text}
use Rattle.sheet.proofs.room.room_left.Given as goal

-- what the records ahead need, less what is left, is what the sheet needs, less the room
abbrev pub invariant-loop-row : goal.invariant-loop-row
invariant-loop-row l = length (rows_text (drop l.row-index l.rows)) + l.room ≡ length (sheet_text l.rows) + l.left
