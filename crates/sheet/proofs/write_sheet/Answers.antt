use Rattle.std.proofs.Common.{arith}
use Rattle.sheet.specs.Sheet.{header_text, rows_text}
use Rattle.sheet.proofs.Puts.{put_then, put_whole}
use Rattle.sheet.proofs.write_sheet.Goals as goal

pub returns : goal.returns
returns c =
    let whole = put_whole (put_then header_text (rows_text c.args.rows.now) c.put_header-at.ensures c.put_rows.ensures) in
    (grind arith, whole.0, whole.1)
