use Rattle.settlement.proofs.Area.{area_total}
use Rattle.settlement.proofs.laws.area_total.Goals as goal

pub returns : goal.returns
returns c = area_total
