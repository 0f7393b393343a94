use Rattle.std.proofs.Common.{arith}
use lib.ListN.{length-replicate}
use Rattle.tables.proofs.Table.new.Goals as goal

pub invariant_of-result : goal.invariant_of-result
invariant_of-result g c =
    let e = length-replicate g.row.N c.args.blank in
    record { within = omega arith; whole = e }
