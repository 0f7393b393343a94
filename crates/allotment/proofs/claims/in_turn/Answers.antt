use Rattle.std.proofs.Common.{length, ap, ◌∙◌, arith}
use Rattle.std.proofs.lemmas.List.{length_push}
use Rattle.tables.specs.Listed.{listed}
use Rattle.allotment.proofs.Claiming.{turn-some, turn-none}
use Rattle.allotment.proofs.claims.in_turn.Goals as goal
use Rattle.allotment.proofs.claims.in_turn.Goals.{in-Some, in_default}

pub loop-rank-preserved : goal.loop-rank-preserved
loop-rank-preserved c =
    let claims = c.args.claims.now in
    let rank = c.loop-rank.rank in
    let out = listed c.loop-rank.turns in
    elim c.match-find_row.branch [
      | in-Some w ↦
          let pushed = ap listed w.turns-is ∙ w.push.ensures in (
            omega (arith, ap length pushed, length_push out w.in-Some.claim, c.loop-rank.invariant.0),
            turn-some claims rank c.loop-rank-test.true out _ c.loop-rank.invariant.1 w.in-Some.claim w.in-Some.ensures pushed,
          )
      | in_default w ↦
          let same = ap listed w.turns-is in (
            omega (arith, ap length same, c.loop-rank.invariant.0),
            turn-none claims rank c.loop-rank-test.true out _ c.loop-rank.invariant.1 w.in_default.ensures same,
          )
    ]
