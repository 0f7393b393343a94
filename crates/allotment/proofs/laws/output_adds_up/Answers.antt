use Rattle.allotment.proofs.Allotting.{output-adds_up}
use Rattle.allotment.proofs.laws.output_adds_up.Goals as goal

pub returns : goal.returns
returns c = output-adds_up
