use Rattle.std.proofs.Common.{sum, ap, ◌∙◌, arith}
use Rattle.allotment.specs.Output.{amounts}
use Rattle.allotment.proofs.Turns.{turns_stay_within}
use Rattle.allotment.proofs.output.allot_plant.Goals as goal

pub divide_among-requires-clause-light : goal.divide_among-requires-clause-light
divide_among-requires-clause-light g c =
    let planned = c.args.planned.now in
    let within = turns_stay_within c.args.plant planned.shares.now planned.plans.now in
    let taken = c.as_slice-2.ensures ∙ c.amounts_of-claims.ensures ∙ ap amounts (c.as_slice.ensures ∙ c.turns_at-turns.ensures) in
    omega (arith, ap sum taken, within.light, planned.light)
