-- What a division takes, and what it answers and leaves.
use Rattle.std.specs.Prelude.{◌≡◌, ℕ, Bool, true, false, ◌&&◌, List, length, Ok, Err, sum, Result, ◌==◌, nat_le}
use Rattle.terms.specs.declared.refusal.Refusal.{Refusal}
use Rattle.terms.specs.declared.refusal.Refusal.TheVariants.{NotDivisible}

-- One claim or more and at most 256, a whole of at most 128,000,000, claims of at most 6,144,000,000 together,
-- and room for exactly as many parts as there are claims.
abbrev pub divisible : ℕ → List ℕ → ℕ → Bool
divisible whole claims room =
    nat_le 1 (length claims) && nat_le (length claims) 256 && nat_le whole 128000000 && nat_le (sum claims) 6144000000 && room == length claims

-- A division by a rule: granted, the buffer holds exactly the rule's parts; refused, it holds what it held.
-- It is refused just where the division is outside the limits.
abbrev pub Divided : (ℕ → List ℕ → List ℕ) → ℕ → List ℕ → List ℕ → List ℕ → Result (Unit {0}) Refusal → Type 0
Divided rule whole claims before after (Ok done) = (divisible whole claims (length before) ≡ true) × (after ≡ rule whole claims)
Divided rule whole claims before after (Err e) = (divisible whole claims (length before) ≡ false) × (e ≡ NotDivisible) × (after ≡ before)
