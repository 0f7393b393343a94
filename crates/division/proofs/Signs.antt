-- Signed parts: what they fit, and how large they are.
use Rattle.std.proofs.Common.{◌≡◌, ℕ, zero, suc, ◌≤◌, List, [], ◌∷◌, ℤ, pos, negsuc, nat_abs, sum, refl, arith, w64, SFits, to_z, of_z}
use Rattle.std.specs.List.{AllByRecursion}
use Rattle.std.proofs.lemmas.Int.{to_z-of_z}
use Rattle.tables.proofs.Carrying.{sum-cons}
use Rattle.division.specs.Signed.{with_sign}

-- a signed value of 64 bits, to its bits and back
pub back : (z : ℤ) → SFits w64 z → to_z w64 (of_z w64 z) ≡ z
back z f = to_z-of_z w64 z f

small-fits : (z : ℤ) → nat_abs z ≤ 128000000 → SFits w64 z
small-fits (pos n) h = record { sfits = omega (arith, h) }
small-fits (negsuc n) h = record { sfits = omega (arith, h) }

-- the same of a value known to be small
pub back-small : (z : ℤ) → nat_abs z ≤ 128000000 → to_z w64 (of_z w64 z) ≡ z
back-small z h = back z (small-fits z h)

pub nat_abs-sign : (w : ℤ) (p : ℕ) → nat_abs (with_sign w p) ≡ p
nat_abs-sign (pos n) p = refl
nat_abs-sign (negsuc n) zero = refl
nat_abs-sign (negsuc n) (suc p) = refl

-- each part is at most the whole
pub parts_small : (ps : List ℕ) (w m : ℕ) → sum ps ≡ w → w ≤ m → AllByRecursion (λ p. p ≤ m) ps
parts_small [] w m e h = tt
parts_small (p ∷ ps) w m e h =
    let s = sum-cons p ps in
    (omega arith, parts_small ps (sum ps) m refl (omega arith))
