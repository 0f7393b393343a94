use Rattle.std.proofs.Common.{◌≡◌, length, take, replicate}
use Rattle.tables.proofs.Table.wipe.Given as goal

abbrev pub invariant-loop-place : goal.invariant-loop-place
invariant-loop-place g l = (length l.place-items ≡ g.row.N) × (take l.place-index l.place-items ≡ replicate l.place-index l.blank)
