use Rattle.allotment.proofs.Turns.{turns_stay_within}
use Rattle.allotment.proofs.laws.turns_stay_within.Goals as goal

pub returns : goal.returns
returns c = turns_stay_within
