-- Where rows are told apart, a test that cannot tell two of them apart passes at most one, and a search finds that one.
use Rattle.std.proofs.Common.{◌≡◌, ◌+◌, ◌≤◌, Bool, true, false, cond, not, List, [], ◌∷◌, Some, None, refl, ◌∙◌, arith}
use Rattle.std.specs.List.{AllByRecursion}
use Rattle.std.proofs.ByRecursion.{All-weaker}
use Rattle.std.proofs.lemmas.Bool.{and_parts, or_parts, not-true, both_ways, cond-true, cond-false}
use Rattle.tables.specs.Keys.{first_of, count_if}
use Rattle.tables.specs.Apart.{has, apart}

module _ {T : Type 0} where
  -- where no row passes u, none passes a test that only rows of u pass
  count_none : (t u : T → Bool) (xs : List T) → has u xs ≡ false → ((x : T) → t x ≡ true → u x ≡ true) → count_if t xs ≡ 0
  count_none t u [] e w = refl
  count_none t u (x ∷ xs) e w = go (t x) refl (count_none t u xs (or_parts (u x) (has u xs) e).1 w)
    where
      go : (b : Bool) → t x ≡ b → count_if t xs ≡ 0 → cond b 1 0 + count_if t xs ≡ 0
      go true q ih = absurd (both_ways (u x) (or_parts (u x) (has u xs) e).0 (w x q))
      go false q ih = omega arith

  pub count_apart : (same : T → T → Bool) (t : T → Bool) (xs : List T) → apart same xs ≡ true → ((x y : T) → t x ≡ true → t y ≡ true → same x y ≡ true) → count_if t xs ≤ 1
  count_apart same t [] e w = omega arith
  count_apart same t (x ∷ xs) e w = go (t x) refl (count_apart same t xs p.1 w)
    where
      p : (not (has (same x) xs) ≡ true) × (apart same xs ≡ true)
      p = and_parts _ _ e

      go : (b : Bool) → t x ≡ b → count_if t xs ≤ 1 → cond b 1 0 + count_if t xs ≤ 1
      go true q ih = let z = count_none t (same x) xs (not-true _ p.0) (λ y r. w x y q r) in omega arith
      go false q ih = omega arith

  count_some : (t : T → Bool) (xs : List T) → AllByRecursion (λ m. t m ≡ true → 1 ≤ count_if t xs) xs
  count_some t [] = tt
  count_some t (x ∷ xs) = (here (t x), All-weaker (λ m. t m ≡ true → 1 ≤ count_if t xs) (λ m. t m ≡ true → 1 ≤ cond (t x) 1 0 + count_if t xs) (λ m h q. let k = h q in omega arith) xs (count_some t xs))
    where
      here : (b : Bool) → b ≡ true → 1 ≤ cond b 1 0 + count_if t xs
      here true q = omega arith
      here false q = absurd (both_ways false refl q)

  -- the one that passes is the one that is found
  pub found-is : (t : T → Bool) (xs : List T) → count_if t xs ≤ 1 → AllByRecursion (λ m. t m ≡ true → first_of t xs ≡ Some m) xs
  found-is t [] c = tt
  found-is t (x ∷ xs) c = (λ q. cond-true _ _ _ q, go (t x) c (found-is t xs))
    where
      go : (b : Bool) → cond b 1 0 + count_if t xs ≤ 1 → (count_if t xs ≤ 1 → AllByRecursion (λ m. t m ≡ true → first_of t xs ≡ Some m) xs) → AllByRecursion (λ m. t m ≡ true → cond b (Some x) (first_of t xs) ≡ Some m) xs
      go true k ih = All-weaker (λ m. t m ≡ true → 1 ≤ count_if t xs) (λ m. t m ≡ true → Some x ≡ Some m) (λ m h q. let n = h q in absurd (omega arith)) xs (count_some t xs)
      go false k ih = ih (omega arith)

  pub found_none : (t : T → Bool) (xs : List T) → has t xs ≡ false → first_of t xs ≡ None
  found_none t [] e = refl
  found_none t (x ∷ xs) e = let p = or_parts (t x) (has t xs) e in cond-false _ _ _ p.0 ∙ found_none t xs p.1
