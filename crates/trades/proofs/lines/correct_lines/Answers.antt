use Rattle.std.proofs.Common.{arith}
use Rattle.tables.proofs.Writing.{written_more, written_all}
use Rattle.trades.specs.Trades.{corrected}
use Rattle.trades.proofs.lines.correct_lines.Goals as goal

pub loop-i-preserved : goal.loop-i-preserved
loop-i-preserved c = written_more (corrected c.args.lines.now) c.args.lines.now c.loop-i.figures c.loop-i.i _ _ (omega arith) (omega arith) c.corrected_figure.ensures c.loop-i.invariant

pub returns : goal.returns
returns c = written_all (corrected c.args.lines.now) c.args.lines.now c.loop-i.figures c.loop-i.i (omega arith) (omega arith) c.loop-i.invariant
