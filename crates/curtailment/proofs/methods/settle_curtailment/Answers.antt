use Rattle.std.proofs.Common.{rules}
use Rattle.terms.specs.declared.codes.Method.TheVariants.{One}
use Rattle.curtailment.proofs.Sums.{settled-together}
use Rattle.curtailment.proofs.methods.settle_curtailment.Goals as goal

pub returns-in-One-clause-sum : goal.returns-in-One-clause-sum
returns-in-One-clause-sum c = search (rules, settled-together One)
