use Rattle.std.proofs.Common.{◌≡◌, ◌++◌, take, drop}
use Rattle.division.specs.Rules.{ranked}
use Rattle.division.proofs.Admitted.write_in_turn.Given as goal

abbrev pub invariant-loop-i : goal.invariant-loop-i
invariant-loop-i l = take l.i l.into ++ ranked l.remaining (drop l.i l.self.claims.now) ≡ ranked l.self.whole l.self.claims.now
