use Rattle.std.proofs.Common.{◌≡◌, ◌-◌, ◌+◌, ◌<◌, min, length, length-take, get_or, get_or-take, arith}
use Rattle.division.specs.Turns.{ranked_more, ranked_last}
use Rattle.division.proofs.Admitted.write_in_turn.Goals as goal

pub loop-i-preserved : goal.loop-i-preserved
loop-i-preserved c =
    let cs = c.args.self.now.claims.now in
    let i = c.loop-i.i in
    let left = c.loop-i.remaining in
    let below : i + 1 < length cs = omega (arith, length-take (length cs - 1) cs, c.loop-i-test.true, c.args.self.now.some) in
    let part : c.min-part.result ≡ min (get_or cs i 0) left = omega (arith, c.min-part.ensures, get_or-take (length cs - 1) cs i 0 (omega (arith, below))) in
    rw part (ranked_more c.loop-i.into cs i left _ below (omega (arith, c.loop-i.auto.into, c.requires, below)) c.loop-i.invariant)

pub returns : goal.returns
returns c =
    let cs = c.args.self.now.claims.now in
    let end : c.loop-i.i ≡ length cs - 1 = omega (arith, length-take (length cs - 1) cs, c.loop-i-test.false, c.loop-i.auto.i-end) in
    ranked_last c.loop-i.into cs _ c.loop-i.remaining _ (omega (arith, c.args.self.now.some)) (omega (arith, c.loop-i.auto.into, c.requires)) (rw end at c.loop-i.invariant)
