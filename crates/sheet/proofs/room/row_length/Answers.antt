use Rattle.std.proofs.Common.{arith, rules}
use Rattle.sheet.proofs.Rows.{row_most}
use Rattle.sheet.proofs.room.row_length.Goals as goal

pub put_row-requires : goal.put_row-requires
put_row-requires c = omega (arith, row_most c.args.row (search rules) (search rules) (search rules) (search rules) (search rules))
