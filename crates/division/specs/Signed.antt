-- Parts of a whole that may be below zero.
use Rattle.std.specs.Prelude.{◌≡◌, ℕ, true, false, List, map, length, ℤ, pos, negsuc, neg_ℤ, Ok, Err, Result, unsigned_abs}
use Rattle.terms.specs.declared.refusal.Refusal.{Refusal}
use Rattle.terms.specs.declared.refusal.Refusal.TheVariants.{NotDivisible}
use Rattle.division.specs.Limits.{divisible}

-- A part of a whole below zero is below zero too.
abbrev pub with_sign : ℤ → ℕ → ℤ
with_sign (pos n) part = pos part
with_sign (negsuc n) part = neg_ℤ (pos part)

abbrev pub signed_parts : ℤ → List ℕ → List ℤ
signed_parts whole parts = map (with_sign whole) parts

-- The magnitude divided by the rule, every part with the whole's sign; or refused, and the buffer as it was.
abbrev pub DividedSigned : (ℕ → List ℕ → List ℕ) → ℤ → List ℕ → List ℤ → List ℤ → Result (Unit {0}) Refusal → Type 0
DividedSigned rule whole claims before after (Ok done) =
    (divisible (unsigned_abs whole) claims (length before) ≡ true) × (after ≡ signed_parts whole (rule (unsigned_abs whole) claims))
DividedSigned rule whole claims before after (Err e) =
    (divisible (unsigned_abs whole) claims (length before) ≡ false) × (e ≡ NotDivisible) × (after ≡ before)
