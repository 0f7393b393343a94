use Rattle.std.proofs.Common.{arith, length-take-le}
use lib.Seq.{take-set-lt}
use Rattle.tables.proofs.Table.replace.Goals as goal

pub returns : goal.returns
returns g c =
    let t = c.args.self.now in
    take-set-lt t.len t.rows c.args.i c.args.row (omega (arith, length-take-le t.len t.rows t.within))
