use Rattle.trades.proofs.Opposites.{opposites_agree}
use Rattle.trades.proofs.laws.opposites_agree.Goals as goal

pub returns : goal.returns
returns c = opposites_agree
