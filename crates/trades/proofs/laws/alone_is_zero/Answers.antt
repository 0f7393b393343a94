use Rattle.trades.proofs.Opposites.{alone_is-zero}
use Rattle.trades.proofs.laws.alone_is_zero.Goals as goal

pub returns : goal.returns
returns c = alone_is-zero
