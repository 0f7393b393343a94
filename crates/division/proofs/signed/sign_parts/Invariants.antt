use Rattle.std.proofs.Common.{◌≡◌, take}
use Rattle.division.specs.Signed.{signed_parts}
use Rattle.division.proofs.signed.sign_parts.Given as goal

abbrev pub invariant-loop-i : goal.invariant-loop-i
invariant-loop-i l = take l.i l.into ≡ signed_parts l.whole (take l.i l.parts)
