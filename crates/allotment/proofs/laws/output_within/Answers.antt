use Rattle.allotment.proofs.Allotting.{output-within}
use Rattle.allotment.proofs.laws.output_within.Goals as goal

pub returns : goal.returns
returns c = output-within
