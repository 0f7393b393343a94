use Rattle.planning.proofs.Within.{plans_stay_within}
use Rattle.planning.proofs.laws.plans_stay_within.Goals as goal

pub returns : goal.returns
returns c = plans_stay_within
