use Rattle.std.proofs.Common.{◌≡◌, arith, rules}
use Rattle.settlement.specs.Demand.{loss_of}
use Rattle.settlement.proofs.Metering.{loss_small}
use Rattle.settlement.proofs.demand.Area.multiplier_of.Goals as goal

pub returns-clause-within : goal.returns-clause-within
returns-clause-within g c =
    let is : c.map_or.result ≡ loss_of c.args.number c.args.self.now.contracts.now = search rules in
    omega (arith, is, loss_small c.args.number c.args.self.now.contracts.now c.args.self.now.multipliers)
