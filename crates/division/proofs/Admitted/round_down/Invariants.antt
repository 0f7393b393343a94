use Rattle.std.proofs.Common.{◌≡◌, map, length, take, sum}
use Rattle.division.specs.Rules.{rounded_down}
use Rattle.division.proofs.Admitted.round_down.Given as goal

abbrev pub invariant-loop-i : goal.invariant-loop-i
invariant-loop-i l =
    let cs = l.self.claims.now in
    take l.i l.into ≡ map (rounded_down l.self.whole (sum cs) (length cs)) (take l.i cs)
