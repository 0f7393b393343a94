use Rattle.figures.proofs.Lined.{trading}
use Rattle.figures.proofs.trading.Trades.corrected.Goals as goal

pub invariant_of-result : goal.invariant_of-result
invariant_of-result c =
    let t = c.args.self.now in
    let held = trading c.as_slice.ensures c.as_slice-2.ensures t.few t.fine t.corrected in
    record { room = held.room; small = held.small; allowed = held.allowed }
