use Rattle.std.proofs.Common.{◌≡◌, take}
use Rattle.tables.specs.Listed.{listed}
use Rattle.figures.proofs.trading.correct.Given as goal

-- the figures so far stand in the table
abbrev pub invariant-loop-figure : goal.invariant-loop-figure
invariant-loop-figure l = listed l.corrected ≡ take l.figure-index l.figure-items
