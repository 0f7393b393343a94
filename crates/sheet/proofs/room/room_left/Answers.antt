use Rattle.std.proofs.Common.{◌≤◌, length, arith}
use Rattle.std.proofs.lemmas.List.{length-append}
use Rattle.std.proofs.lemmas.Grind.{common_steps}
use Rattle.sheet.specs.Sheet.{header_text, rows_text, sheet_text}
use Rattle.sheet.proofs.Rows.{header_long}
use Rattle.sheet.proofs.room.room_left.Goals as goal

pub returns-in_err-left-clause-fits : goal.returns-in_err-left-clause-fits
returns-in_err-left-clause-fits c =
    let long : 45 ≤ length (sheet_text c.args.rows.now) = omega (arith, header_long, length-append header_text (rows_text c.args.rows.now)) in
    grind (arith, common_steps)

pub loop-row-init : goal.loop-row-init
loop-row-init c = omega (arith, header_long, length-append header_text (rows_text c.args.rows.now))
