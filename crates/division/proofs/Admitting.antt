-- What it means that a division is inside the limits.
use Rattle.std.proofs.Common.{◌≡◌, ℕ, ◌<◌, ◌≤◌, true, false, List, length, sum, arith}
use Rattle.std.proofs.lemmas.Bool.Decides.{nat_tests}
use Rattle.division.specs.Limits.{divisible}

pub record Admitted (whole : ℕ) (claims : List ℕ) (room : ℕ) : Type 0 where
  pub some : 1 ≤ length claims
  pub few : length claims ≤ 256
  pub small : whole ≤ 128000000
  pub light : sum claims ≤ 6144000000
  pub fits : room ≡ length claims

pub admits : (whole : ℕ) (claims : List ℕ) (room : ℕ) → divisible whole claims room ≡ true → Admitted whole claims room
admits whole claims room e = record {
  some = grind (arith, nat_tests);
  few = grind (arith, nat_tests);
  small = grind (arith, nat_tests);
  light = grind (arith, nat_tests);
  fits = grind (arith, nat_tests);
}

pub admitted_divisible : (whole : ℕ) (claims : List ℕ) (room : ℕ) → Admitted whole claims room → divisible whole claims room ≡ true
admitted_divisible whole claims room a = grind (arith, nat_tests)

pub too_heavy : (whole : ℕ) (claims : List ℕ) (room : ℕ) → 6144000000 < sum claims → divisible whole claims room ≡ false
too_heavy whole claims room h = grind (arith, nat_tests)
