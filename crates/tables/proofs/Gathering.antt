-- What the figures of the rows that pass come to at most, and how many rows pass.
use Rattle.std.proofs.Common.{◌≡◌, ℕ, suc, ◌+◌, ◌*◌, ◌≤◌, Bool, true, false, cond, List, [], ◌∷◌, length, sum, refl, add-mul, one-mul, zero-mul, arith}
use Rattle.std.proofs.lemmas.Bool.{both_ways}
use Rattle.std.specs.List.{AllByRecursion}
use Rattle.tables.specs.Keys.{count_if}
use Rattle.tables.specs.Figures.{figures_if}
use Rattle.tables.proofs.Carrying.{sum-cons}

-- the figures of the rows that pass come to no more than so many of the largest
pub figures-light : {T : Type 0} (passes : T → Bool) (most : ℕ) (rows : List T) (xs : List ℕ) → AllByRecursion (λ x. x ≤ most) xs → sum (figures_if passes rows xs) ≤ count_if passes rows * most
figures-light passes most [] xs s = omega arith
figures-light passes most (r ∷ rs) [] s = omega arith
figures-light passes most (r ∷ rs) (x ∷ xs) s = go (passes r) (figures-light passes most rs xs s.1)
  where
    go : (b : Bool) → sum (figures_if passes rs xs) ≤ count_if passes rs * most → sum (cond b (x ∷ figures_if passes rs xs) (figures_if passes rs xs)) ≤ (cond b 1 0 + count_if passes rs) * most
    go true h = omega (arith, sum-cons x (figures_if passes rs xs), s.0, add-mul 1 (count_if passes rs) most, one-mul most)
    go false h = omega (arith, add-mul 0 (count_if passes rs) most, zero-mul most)

-- fewer rows pass a narrower test
pub count_narrower : {T : Type 0} (narrow wide : T → Bool) → ((x : T) → narrow x ≡ true → wide x ≡ true) → (rows : List T) → count_if narrow rows ≤ count_if wide rows
count_narrower narrow wide h [] = omega arith
count_narrower narrow wide h (r ∷ rs) = go (narrow r) (wide r) refl refl (count_narrower narrow wide h rs)
  where
    go : (b c : Bool) → narrow r ≡ b → wide r ≡ c → count_if narrow rs ≤ count_if wide rs → cond b 1 0 + count_if narrow rs ≤ cond c 1 0 + count_if wide rs
    go true true p q k = omega arith
    go true false p q k = absurd (both_ways (wide r) q (h r p))
    go false true p q k = omega arith
    go false false p q k = omega arith

-- no more rows pass than there are
pub count_few : {T : Type 0} (passes : T → Bool) (rows : List T) → count_if passes rows ≤ length rows
count_few passes [] = omega arith
count_few passes (r ∷ rs) = go (passes r) (count_few passes rs)
  where
    go : (b : Bool) → count_if passes rs ≤ length rs → cond b 1 0 + count_if passes rs ≤ suc (length rs)
    go true h = omega arith
    go false h = omega arith
