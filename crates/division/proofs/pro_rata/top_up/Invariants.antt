use Rattle.std.proofs.Common.{◌≡◌}
use Rattle.division.specs.Rules.{topped}
use Rattle.division.proofs.pro_rata.top_up.Given as goal

abbrev pub invariant-loop-part : goal.invariant-loop-part
invariant-loop-part l = l.part-items ≡ topped l.part-index l.initial.part-items
