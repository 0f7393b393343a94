use Rattle.std.proofs.Common.{◌≡◌, map, take}
use Rattle.trades.specs.Trades.{corrected}
use Rattle.trades.proofs.lines.correct_lines.Given as goal

abbrev pub invariant-loop-i : goal.invariant-loop-i
invariant-loop-i l = take l.i l.figures ≡ map (corrected l.lines) (take l.i l.lines)
