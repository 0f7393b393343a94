use Rattle.std.proofs.Common.{rules}
use Rattle.metering.specs.Bounds.{steps_fit}
use Rattle.metering.proofs.register.used.Goals as goal

pub overflow_mul-result : goal.overflow_mul-result
overflow_mul-result c = search (rules, steps_fit)
