use Rattle.planning.proofs.Sums.{shares-add_up}
use Rattle.planning.proofs.laws.shares_add_up.Goals as goal

pub returns : goal.returns
returns c = shares-add_up
