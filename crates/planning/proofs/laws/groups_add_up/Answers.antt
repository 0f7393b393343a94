use Rattle.planning.proofs.Sums.{groups-add_up}
use Rattle.planning.proofs.laws.groups_add_up.Goals as goal

pub returns : goal.returns
returns c = groups-add_up
