use Rattle.std.proofs.Common.{◌≡◌, take}
use Rattle.tables.specs.Figures.{figured_if}
use Rattle.terms.specs.declared.records.Share.{Share}
use Rattle.allotment.specs.Output.{part_of, is_at}
use Rattle.allotment.proofs.output.Parts.hand_out.Given as goal

abbrev pub invariant-loop-i : goal.invariant-loop-i
invariant-loop-i l = l.allotted ≡ figured_if (is_at l.plant) (λ (s : Share). part_of s.rank l.self.turns.now l.self.parts.now) (take l.i l.shares) l.initial.allotted
