use Rattle.trades.proofs.Cancelling.{trades_cancel}
use Rattle.trades.proofs.laws.trades_cancel.Goals as goal

pub returns : goal.returns
returns c = trades_cancel
