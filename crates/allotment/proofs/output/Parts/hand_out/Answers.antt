use Rattle.std.proofs.Common.{get_or, ◌∙◌}
use Rattle.std.proofs.lemmas.List.{get_or_default}
use Rattle.std.proofs.lemmas.Bool.{eq-eqb, ne_eqb}
use Rattle.tables.proofs.Writing.{figured_yes, figured_no}
use Rattle.terms.specs.declared.records.Share.{Share}
use Rattle.allotment.specs.Output.{part_of, is_at}
use Rattle.allotment.proofs.Claiming.{blank}
use Rattle.allotment.proofs.output.Parts.hand_out.Goals as goal
use Rattle.allotment.proofs.output.Parts.hand_out.Goals.{then-share-plant, else-share-plant}

pub loop-i-preserved : goal.loop-i-preserved
loop-i-preserved c =
    let shares = c.args.shares.now in
    let i = c.loop-i.i in
    let s = get_or shares i blank in
    let read = get_or_default shares i blank s c.loop-i-test.true in
    elim c.if-share-plant.branch [
      | then-share-plant w ↦
          w.allotted-is ∙ figured_yes (is_at c.args.plant) (λ (s : Share). part_of s.rank c.args.self.now.turns.now c.args.self.now.parts.now) shares c.args.allotted.now c.loop-i.allotted i s c.loop-i-test.true c.requires read c.loop-i.invariant
          w.of_rank.result (eq-eqb _ _ w.if-share-plant.true) w.of_rank.ensures
      | else-share-plant w ↦
          w.allotted-is ∙ figured_no (is_at c.args.plant) (λ (s : Share). part_of s.rank c.args.self.now.turns.now c.args.self.now.parts.now) shares c.args.allotted.now c.loop-i.allotted i s c.loop-i-test.true c.requires read c.loop-i.invariant
          (ne_eqb _ _ w.if-share-plant.false)
    ]
