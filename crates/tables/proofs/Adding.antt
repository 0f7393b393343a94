-- Sums of signed figures over rows, and the one partition of rows by their owners.
use Rattle.std.proofs.Common.{◌≡◌, ℕ, suc, ◌+◌, ◌<◌, ◌≤◌, Bool, true, false, cond, ◌&&◌, ◌||◌, List, [], ◌∷◌, map, length, get_or, ℤ, pos, ◌+ℤ◌, neg_ℤ, nat_abs, Some, None, sum_by, sum, Option, sym, refl, ap, ◌∙◌, arith}
use Rattle.std.specs.List.{AllByRecursion}
use Rattle.std.proofs.lemmas.Int.{ints}
use Rattle.std.proofs.lemmas.List.Sums.{sum_by-cons, sum-map}
use Rattle.std.proofs.lemmas.Bool.{both_ways}
use Rattle.tables.specs.Keys.{first_of, count_if}
use Rattle.tables.specs.Apart.{has}
use Rattle.tables.specs.Carried.{carried_if}
use Rattle.tables.specs.Figures.{figures_if, figured_with, added_by}
use Rattle.tables.proofs.Carrying.{sum-cons}

-- arithmetic that the steps below need
plus : (a b c d : ℤ) → a ≡ b → c ≡ d → a +ℤ c ≡ b +ℤ d
plus a b c d e g = ap (λ x. x +ℤ c) e ∙ ap (λ x. b +ℤ x) g

pub none-plus : (a : ℤ) → pos 0 +ℤ a ≡ a
none-plus a = omega (arith, ints)

plus_none : (a : ℤ) → a +ℤ pos 0 ≡ a
plus_none a = omega (arith, ints)

regroup : (a b c d : ℤ) → (a +ℤ b) +ℤ (c +ℤ d) ≡ (a +ℤ c) +ℤ (b +ℤ d)
regroup a b c d = omega (arith, ints)

neg_plus : (a b : ℤ) → neg_ℤ (a +ℤ b) ≡ neg_ℤ a +ℤ neg_ℤ b
neg_plus a b = omega (arith, ints)

module _ {T : Type 0} where
  -- sums agree where the figures do
  pub added_ext : (f g : T → ℤ) (xs : List T) → AllByRecursion (λ x. f x ≡ g x) xs → added_by f xs ≡ added_by g xs
  added_ext f g [] a = refl
  added_ext f g (x ∷ xs) a = plus _ _ _ _ a.0 (added_ext f g xs a.1)

  pub added-same : (f g : T → ℤ) (xs : List T) → ((x : T) → f x ≡ g x) → added_by f xs ≡ added_by g xs
  added-same f g [] e = refl
  added-same f g (x ∷ xs) e = plus _ _ _ _ (e x) (added-same f g xs e)

  pub added_none : (f : T → ℤ) (xs : List T) → ((x : T) → f x ≡ pos 0) → added_by f xs ≡ pos 0
  added_none f [] e = refl
  added_none f (x ∷ xs) e = plus _ _ _ _ (e x) (added_none f xs e)

  pub added-both : (f g : T → ℤ) (xs : List T) → added_by (λ x. f x +ℤ g x) xs ≡ added_by f xs +ℤ added_by g xs
  added-both f g [] = refl
  added-both f g (x ∷ xs) = ap (λ z. (f x +ℤ g x) +ℤ z) (added-both f g xs) ∙ regroup (f x) (g x) (added_by f xs) (added_by g xs)

  pub added_neg : (f : T → ℤ) (xs : List T) → added_by (λ x. neg_ℤ (f x)) xs ≡ neg_ℤ (added_by f xs)
  added_neg f [] = refl
  added_neg f (x ∷ xs) = ap (λ z. neg_ℤ (f x) +ℤ z) (added_neg f xs) ∙ sym (neg_plus (f x) (added_by f xs))

  -- a figure that counts for the rows that pass, where one does or none
  pub counted_none : (t : T → Bool) (v : ℤ) (xs : List T) → count_if t xs ≡ 0 → added_by (λ x. cond (t x) v (pos 0)) xs ≡ pos 0
  counted_none t v [] e = refl
  counted_none t v (x ∷ xs) e = go (t x) e (counted_none t v xs)
    where
      go : (b : Bool) → cond b 1 0 + count_if t xs ≡ 0 → (count_if t xs ≡ 0 → added_by (λ y. cond (t y) v (pos 0)) xs ≡ pos 0) → cond b v (pos 0) +ℤ added_by (λ y. cond (t y) v (pos 0)) xs ≡ pos 0
      go true q ih = absurd (omega arith)
      go false q ih = none-plus _ ∙ ih (omega arith)

  pub counted-one : (t : T → Bool) (v : ℤ) (xs : List T) → count_if t xs ≡ 1 → added_by (λ x. cond (t x) v (pos 0)) xs ≡ v
  counted-one t v [] e = absurd (omega arith)
  counted-one t v (x ∷ xs) e = go (t x) e (counted-one t v xs) (counted_none t v xs)
    where
      rest : ℤ
      rest = added_by (λ y. cond (t y) v (pos 0)) xs

      go : (b : Bool) → cond b 1 0 + count_if t xs ≡ 1 → (count_if t xs ≡ 1 → rest ≡ v) → (count_if t xs ≡ 0 → rest ≡ pos 0) → cond b v (pos 0) +ℤ rest ≡ v
      go true q ih z = ap (λ a. v +ℤ a) (z (omega arith)) ∙ plus_none v
      go false q ih z = none-plus _ ∙ ih (omega arith)

  -- a row that passes is counted
  pub count_has : (t : T → Bool) (xs : List T) → has t xs ≡ true → 1 ≤ count_if t xs
  count_has t [] e = absurd (both_ways false refl e)
  count_has t (x ∷ xs) e = go (t x) e (count_has t xs)
    where
      go : (b : Bool) → (b || has t xs) ≡ true → (has t xs ≡ true → 1 ≤ count_if t xs) → 1 ≤ cond b 1 0 + count_if t xs
      go true q ih = omega arith
      go false q ih = let h = ih q in omega arith

pub added-map : {T U : Type 0} (f : U → ℤ) (g : T → U) (xs : List T) → added_by f (map g xs) ≡ added_by (λ x. f (g x)) xs
added-map f g [] = refl
added-map f g (x ∷ xs) = ap (λ z. f (g x) +ℤ z) (added-map f g xs)

-- naturals come to the same
pub added-pos : (xs : List ℕ) → added_by (λ x. pos x) xs ≡ pos (sum xs)
added-pos [] = refl
added-pos (x ∷ xs) = ap (λ z. pos x +ℤ z) (added-pos xs) ∙ ap pos (sym (sum-cons x xs))

pub added_naturals : {T : Type 0} (f : T → ℕ) (xs : List T) → added_by (λ x. pos (f x)) xs ≡ pos (sum_by f xs)
added_naturals f xs = sym (added-map (λ x. pos x) f xs) ∙ added-pos (map f xs) ∙ ap pos (sum-map f xs)

-- a double sum, either way round
pub swap : {T U : Type 0} (g : T → U → ℤ) (xs : List T) (ys : List U) → added_by (λ x. added_by (λ y. g x y) ys) xs ≡ added_by (λ y. added_by (λ x. g x y) xs) ys
swap g [] ys = sym (added_none (λ y. pos 0) ys (λ y. refl))
swap g (x ∷ xs) ys = ap (λ z. added_by (λ y. g x y) ys +ℤ z) (swap g xs ys) ∙ sym (added-both (λ y. g x y) (λ y. added_by (λ u. g u y) xs) ys)

-- the figures of the rows that pass, one row on
pub figures_head : {T F : Type 0} (f : F → ℤ) (t : T → Bool) (r : T) (rs : List T) (x : F) (xs : List F) →
    added_by f (figures_if t (r ∷ rs) (x ∷ xs)) ≡ cond (t r) (f x) (pos 0) +ℤ added_by f (figures_if t rs xs)
figures_head f t r rs x xs = go (t r)
  where
    go : (b : Bool) → added_by f (cond b (x ∷ figures_if t rs xs) (figures_if t rs xs)) ≡ cond b (f x) (pos 0) +ℤ added_by f (figures_if t rs xs)
    go true = refl
    go false = sym (none-plus (added_by f (figures_if t rs xs)))

-- where every row is of just one owner, what the owners' rows come to, added over the owners, is what all rows come to
pub partition : {O T F : Type 0} (mine : O → T → Bool) (f : F → ℤ) (owners : List O) (rows : List T) (xs : List F) → length xs ≡ length rows →
    AllByRecursion (λ r. count_if (λ o. mine o r) owners ≡ 1) rows → added_by (λ o. added_by f (figures_if (mine o) rows xs)) owners ≡ added_by f xs
partition mine f owners [] [] l a = added_none (λ o. pos 0) owners (λ o. refl)
partition mine f owners [] (x ∷ xs) l a = absurd (omega arith)
partition mine f owners (r ∷ rs) [] l a = absurd (omega arith)
partition mine f owners (r ∷ rs) (x ∷ xs) l a =
    added-same (λ o. added_by f (figures_if (mine o) (r ∷ rs) (x ∷ xs))) (λ o. cond (mine o r) (f x) (pos 0) +ℤ added_by f (figures_if (mine o) rs xs)) owners (λ o. figures_head f (mine o) r rs x xs)
    ∙ added-both (λ o. cond (mine o r) (f x) (pos 0)) (λ o. added_by f (figures_if (mine o) rs xs)) owners
    ∙ plus _ _ _ _ (counted-one (λ o. mine o r) (f x) owners a.0) (partition mine f owners rs xs (omega arith) a.1)

-- the figures of the rows that pass, where each row's figure is worked out from the row
pub figures-added : {T F : Type 0} (f : F → ℤ) (t : T → Bool) (g : T → F) (rs : List T) → added_by f (figures_if t rs (map g rs)) ≡ added_by (λ r. cond (t r) (f (g r)) (pos 0)) rs
figures-added f t g [] = refl
figures-added f t g (r ∷ rs) = figures_head f t r rs (g r) (map g rs) ∙ ap (λ z. cond (t r) (f (g r)) (pos 0) +ℤ z) (figures-added f t g rs)

pub figures-sum : {T : Type 0} (t : T → Bool) (g : T → ℕ) (rs : List T) → pos (sum (figures_if t rs (map g rs))) ≡ added_by (λ r. cond (t r) (pos (g r)) (pos 0)) rs
figures-sum t g rs = sym (added-pos (figures_if t rs (map g rs))) ∙ figures-added (λ x. pos x) t g rs

-- what rows carry is such a figure
pub carried_figures : {T : Type 0} (t : T → Bool) (g : T → ℕ) (rs : List T) → carried_if t g rs ≡ figures_if t rs (map g rs)
carried_figures t g [] = refl
carried_figures t g (r ∷ rs) = ap (λ ys. cond (t r) (g r ∷ ys) ys) (carried_figures t g rs)

-- where none passes, none is found
first-none : {T : Type 0} (t : T → Bool) (xs : List T) → count_if t xs ≡ 0 → first_of t xs ≡ None
first-none t [] e = refl
first-none t (x ∷ xs) e = go (t x) e (first-none t xs)
  where
    go : (b : Bool) → cond b 1 0 + count_if t xs ≡ 0 → (count_if t xs ≡ 0 → first_of t xs ≡ None) → cond b (Some x) (first_of t xs) ≡ None
    go true q ih = absurd (omega arith)
    go false q ih = ih (omega arith)

-- where at most one passes, what is made of the one that is found is a sum over all
pub counted-first : {T : Type 0} (t : T → Bool) (f : Option T → ℤ) (xs : List T) → f None ≡ pos 0 → count_if t xs ≤ 1 → added_by (λ x. cond (t x) (f (Some x)) (pos 0)) xs ≡ f (first_of t xs)
counted-first t f [] n c = sym n
counted-first t f (x ∷ xs) n c = go (t x) c (counted-first t f xs n) (first-none t xs)
  where
    rest : ℤ
    rest = added_by (λ y. cond (t y) (f (Some y)) (pos 0)) xs

    go : (b : Bool) → cond b 1 0 + count_if t xs ≤ 1 → (count_if t xs ≤ 1 → rest ≡ f (first_of t xs)) → (count_if t xs ≡ 0 → first_of t xs ≡ None) → cond b (f (Some x)) (pos 0) +ℤ rest ≡ f (cond b (Some x) (first_of t xs))
    go true k ih z = ap (λ a. f (Some x) +ℤ a) (ih (omega arith) ∙ ap f (z (omega arith)) ∙ n) ∙ plus_none (f (Some x))
    go false k ih z = none-plus rest ∙ ih (omega arith)

-- the same of naturals
pub partition_naturals : {O T F : Type 0} (mine : O → T → Bool) (f : F → ℕ) (owners : List O) (rows : List T) (xs : List F) → length xs ≡ length rows →
    AllByRecursion (λ r. count_if (λ o. mine o r) owners ≡ 1) rows → sum_by (λ o. sum_by f (figures_if (mine o) rows xs)) owners ≡ sum_by f xs
partition_naturals mine f owners rows xs l a =
    ap nat_abs (
    sym (added_naturals (λ o. sum_by f (figures_if (mine o) rows xs)) owners)
    ∙ added-same (λ o. pos (sum_by f (figures_if (mine o) rows xs))) (λ o. added_by (λ x. pos (f x)) (figures_if (mine o) rows xs)) owners (λ o. sym (added_naturals f (figures_if (mine o) rows xs)))
    ∙ partition mine (λ x. pos (f x)) owners rows xs l a
    ∙ added_naturals f xs
    )

-- where each row's figure is at most that of what stands beside it, so are the sums
pub sums_beside : {T F : Type 0} (f : T → ℕ) (h : F → ℕ) (d : F) (rows : List T) (xs : List F) → length xs ≡ length rows →
    ((k : ℕ) (r : T) → k < length rows → r ≡ get_or rows k r → f r ≤ h (get_or xs k d)) → sum_by f rows ≤ sum_by h xs
sums_beside f h d [] xs l w = omega arith
sums_beside f h d (r ∷ rs) [] l w = absurd (omega arith)
sums_beside f h d (r ∷ rs) (x ∷ xs) l w =
    omega (arith, sum_by-cons f r rs, sum_by-cons h x xs, w 0 r (omega arith) refl, sums_beside f h d rs xs (omega arith) (λ k q m e. w (suc k) q (omega arith) e))

-- what holds of the figure beside each row holds of every figure
pub all_beside : {T F : Type 0} (P : F → Type 0) (d : F) (rows : List T) (xs : List F) → length xs ≡ length rows →
    ((k : ℕ) (r : T) → k < length rows → r ≡ get_or rows k r → P (get_or xs k d)) → AllByRecursion P xs
all_beside P d rows [] l w = tt
all_beside P d [] (x ∷ xs) l w = absurd (omega arith)
all_beside P d (r ∷ rs) (x ∷ xs) l w = (w 0 r (omega arith) refl, all_beside P d rs xs (omega arith) (λ k q m e. w (suc k) q (omega arith) e))

-- where a row passes, one that does stands at some place
pub record Standing {T : Type 0} (passes : T → Bool) (rows : List T) : Type 0 where
  pub place : ℕ
  pub row : T
  pub within : place < length rows
  pub read : row ≡ get_or rows place row
  pub passed : passes row ≡ true

pub standing : {T : Type 0} (passes : T → Bool) (rows : List T) → 1 ≤ count_if passes rows → Standing passes rows
standing passes [] e = absurd (omega arith)
standing passes (r ∷ rs) e = go (passes r) refl e (standing passes rs)
  where
    go : (b : Bool) → passes r ≡ b → 1 ≤ cond b 1 0 + count_if passes rs → (1 ≤ count_if passes rs → Standing passes rs) → Standing passes (r ∷ rs)
    go true q h more = record { place = 0; row = r; within = omega arith; read = refl; passed = q }
    go false q h more =
        let rest = more (omega arith) in
        record { place = suc rest.place; row = rest.row; within = omega (arith, rest.within); read = rest.read; passed = rest.passed }

-- the row that is found passes, and is counted
pub first_passes : {T : Type 0} (t : T → Bool) (xs : List T) (x : T) → first_of t xs ≡ Some x → (t x ≡ true) × (1 ≤ count_if t xs)
first_passes t [] x e = absurd (let z : ◌≡◌ {A = ℕ} 0 1 = cc in omega arith)
first_passes t (y ∷ ys) x e = go (t y) refl e (first_passes t ys x)
  where
    go : (b : Bool) → t y ≡ b → cond b (Some y) (first_of t ys) ≡ Some x → (first_of t ys ≡ Some x → (t x ≡ true) × (1 ≤ count_if t ys)) → (t x ≡ true) × (1 ≤ cond b 1 0 + count_if t ys)
    go true q f more = let same : y ≡ x = cc in (ap t (sym same) ∙ q, omega arith)
    go false q f more = let rest = more f in (rest.0, omega (arith, rest.1))

-- where none is found, none passes
pub first-counts : {T : Type 0} (t : T → Bool) (xs : List T) → first_of t xs ≡ None → count_if t xs ≡ 0
first-counts t [] e = refl
first-counts t (x ∷ xs) e = go (t x) e (first-counts t xs)
  where
    go : (b : Bool) → cond b (Some x) (first_of t xs) ≡ None → (first_of t xs ≡ None → count_if t xs ≡ 0) → cond b 1 0 + count_if t xs ≡ 0
    go true q more = absurd (let z : ◌≡◌ {A = ℕ} 0 1 = cc in omega arith)
    go false q more = let rest = more q in omega arith

-- where no row passes, there are no figures of rows that pass
pub figures-none : {T F : Type 0} (t : T → Bool) (rows : List T) (xs : List F) → count_if t rows ≡ 0 → figures_if t rows xs ≡ []
figures-none t [] xs e = refl
figures-none t (r ∷ rs) [] e = refl
figures-none t (r ∷ rs) (x ∷ xs) e = go (t r) e (figures-none t rs xs)
  where
    go : (b : Bool) → cond b 1 0 + count_if t rs ≡ 0 → (count_if t rs ≡ 0 → figures_if t rs xs ≡ []) → cond b (x ∷ figures_if t rs xs) (figures_if t rs xs) ≡ []
    go true q more = absurd (omega arith)
    go false q more = more (omega arith)

-- no row passes a test that always fails
pub count_never : {T : Type 0} (rows : List T) → count_if (λ (r : T). false) rows ≡ 0
count_never [] = refl
count_never (r ∷ rs) = let rest = count_never rs in omega arith

-- what the rows that pass carry is a sum over all rows, where every other row has 0
pub carried_sum : {T : Type 0} (t : T → Bool) (f g : T → ℕ) (rows : List T) → ((r : T) → t r ≡ true → f r ≡ g r) → ((r : T) → t r ≡ false → g r ≡ 0) → sum (carried_if t f rows) ≡ sum_by g rows
carried_sum t f g [] mine other = refl
carried_sum t f g (r ∷ rs) mine other = go (t r) refl (carried_sum t f g rs mine other) ∙ sym (sum_by-cons g r rs)
  where
    go : (b : Bool) → t r ≡ b → sum (carried_if t f rs) ≡ sum_by g rs → sum (cond b (f r ∷ carried_if t f rs) (carried_if t f rs)) ≡ g r + sum_by g rs
    go true q more = let here = mine r q in omega (arith, sum-cons (f r) (carried_if t f rs))
    go false q more = let here = other r q in omega arith

-- what the rows that pass carry, as figures beside the rows
pub carried_added : {T : Type 0} (t : T → Bool) (g : T → ℕ) (rows : List T) → pos (sum (carried_if t g rows)) ≡ added_by (λ x. pos x) (figures_if t rows (map g rows))
carried_added t g rows = ap (λ (ys : List ℕ). pos (sum ys)) (carried_figures t g rows) ∙ sym (added-pos (figures_if t rows (map g rows)))

-- a sum that counts only under a condition is the sum of what counts under it
pub figures_under : {T F : Type 0} (f : F → ℤ) (b : Bool) (t : T → Bool) (rows : List T) (xs : List F) → cond b (added_by f (figures_if t rows xs)) (pos 0) ≡ added_by f (figures_if (λ r. b && t r) rows xs)
figures_under f true t rows xs = refl
figures_under {T} f false t rows xs = sym (ap (λ ys. added_by f ys) (figures-none (λ (r : T). false) rows xs (count_never rows)))

-- where each figure comes to a number of its row and one of what stands beside the row, so do the sums
pub figured_added : {T X F : Type 0} (h : F → ℤ) (figure : T → X → F) (a : T → ℤ) (b : X → ℤ) (rows : List T) (xs : List X) → length xs ≡ length rows →
    AllByRecursion (λ r. (x : X) → h (figure r x) ≡ a r +ℤ b x) rows → added_by h (figured_with figure rows xs) ≡ added_by a rows +ℤ added_by b xs
figured_added h figure a b [] [] l e = refl
figured_added h figure a b [] (x ∷ xs) l e = absurd (omega arith)
figured_added h figure a b (r ∷ rs) [] l e = absurd (omega arith)
figured_added h figure a b (r ∷ rs) (x ∷ xs) l e = plus _ _ _ _ (e.0 x) (figured_added h figure a b rs xs (omega arith) e.1) ∙ regroup (a r) (b x) (added_by a rs) (added_by b xs)

-- what holds of a row's figure, whatever stands beside the row, holds of every figure
pub figured_each : {T X F : Type 0} (P : F → Type 0) (figure : T → X → F) (rows : List T) (xs : List X) → AllByRecursion (λ r. (x : X) → P (figure r x)) rows → AllByRecursion P (figured_with figure rows xs)
figured_each P figure [] xs e = tt
figured_each P figure (r ∷ rs) [] e = tt
figured_each P figure (r ∷ rs) (x ∷ xs) e = (e.0 x, figured_each P figure rs xs e.1)
