use Rattle.std.proofs.Common.{sym, arith}
use Rattle.sheet.proofs.Puts.{put_then, put_is}
use Rattle.sheet.proofs.Rows.{rows_more, rest_more}
use Rattle.sheet.proofs.writing.put_rows.Goals as goal

pub loop-row-preserved : goal.loop-row-preserved
loop-row-preserved c = (
  put_is (sym (rows_more c.args.rows.now c.loop-row.row-index (omega arith))) (put_then _ _ c.loop-row.invariant.0 c.put_row-at.ensures),
  omega (arith, c.put_row-at.ensures.ends, rest_more c.args.rows.now c.loop-row.row-index (omega arith)),
)
