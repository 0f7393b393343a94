use Rattle.std.proofs.Common.{arith}
use Rattle.settlement.proofs.Grouping.{output_light}
use Rattle.settlement.proofs.groups.AllottedShares.of_group.Goals as goal

pub total_fitting-requires-clause-light : goal.total_fitting-requires-clause-light
total_fitting-requires-clause-light c = omega (arith, output_light c.args.group c.args.self.now.shares.now c.args.self.now.allotted.now c.args.self.now.few c.args.self.now.small)

pub returns-clause-within : goal.returns-clause-within
returns-clause-within c = omega (arith, output_light c.args.group c.args.self.now.shares.now c.args.self.now.allotted.now c.args.self.now.few c.args.self.now.small, c.total_fitting.ensures)
