use Rattle.std.proofs.Common.{arith}
use Rattle.settlement.proofs.Grouping.{supplied_light}
use Rattle.settlement.proofs.retailers.SettledGroups.supplied_to.Goals as goal

pub total-requires : goal.total-requires
total-requires c = omega (arith, supplied_light c.args.retailer c.args.self.now.groups.now c.args.self.now.few c.args.self.now.small)

pub returns-clause-within : goal.returns-clause-within
returns-clause-within c = omega (arith, supplied_light c.args.retailer c.args.self.now.groups.now c.args.self.now.few c.args.self.now.small, c.total.ensures)
