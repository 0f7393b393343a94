use Rattle.std.proofs.Common.{arith, length-take-le}
use Rattle.std.proofs.lemmas.List.{take_more_set}
use Rattle.tables.proofs.Table.push.Goals as goal

pub returns : goal.returns
returns g c =
    let t = c.args.self.now in
    take_more_set t.rows t.len c.args.row (omega (arith, length-take-le t.len t.rows t.within))
