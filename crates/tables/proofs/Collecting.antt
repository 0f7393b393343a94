-- A table that was collected has the items of the chain, in order; and a chain of few enough items fits a table.
use Rattle.std.proofs.Common.{◌≡◌, ℕ, List, [], ◌∷◌, length, map, sym, refl, ap, ◌∙◌, arith}
use Rattle.std.proofs.Common.{Bool, true, false, cond, ◌++◌, ◌+◌, ◌≤◌, Some}
use Rattle.std.specs.Prelude.{Option, option_map, unwrap_or}
use Rattle.std.specs.List.{filter, find, zip}
use Rattle.tables.specs.Figures.{figure_of, figures_if}
use Rattle.tables.specs.Keys.{count_if}
use Rattle.std.specs.Iterator.{AlwaysYields, DrainsIf, Yields}
use Rattle.std.proofs.lemmas.Iterator.{YieldsList, items_from_drains}
use Rattle.std.proofs.lemmas.List.{map-id}
use Rattle.tables.specs.Carried.{carried_if}

module _ {S A B : Type 0} (steps : S → Option A → S → Type 0) (v : A → B) where
  few_of : (all : List B) (s : S) → AlwaysYields steps v s all → (xs : List A) (t : S) → Yields steps s xs t → length xs ≤ length all
  few_of all s always [] t y = omega arith
  few_of [] s always (x ∷ xs) t y = absurd (always x y.0 y.1)
  few_of (b ∷ all) s always (x ∷ xs) t y =
      let more = few_of all y.0 (always.1 x y.0 y.1).1 xs t y.2 in
      omega (arith, more)

-- no more items come than the chain has
pub few_items : {S A B : Type 0} {steps : S → Option A → S → Type 0} {v : A → B} {all : List B} {s : S} (n : ℕ) → YieldsList steps v s all → length all ≤ n → (xs : List A) (t : S) → Yields steps s xs t → length xs ≤ n
few_items {steps = steps} {v = v} {all = all} {s = s} n chain within xs t y =
    let most = few_of steps v all s chain.runs xs t y in
    omega (arith, most, within)

-- what was drained from the chain is what it gives
pub collected : {S A : Type 0} {steps : S → Option A → S → Type 0} {s : S} {all rows : List A} → (xs : List A) × DrainsIf steps (Unit {0}) s xs × (rows ≡ xs) → YieldsList steps (λ x. x) s all → rows ≡ all
collected r chain = r.2 ∙ sym (map-id r.0) ∙ items_from_drains r.0 r.1 chain

-- what a table without rows was extended by is what the chain gives
pub extended : {S A : Type 0} {steps : S → Option A → S → Type 0} {s : S} {all before rows : List A} → before ≡ [] → (xs : List A) × DrainsIf steps (Unit {0}) s xs × (rows ≡ before ++ xs) → YieldsList steps (λ x. x) s all → rows ≡ all
extended none r chain = collected (r.0, r.1, r.2 ∙ ap (λ q. q ++ r.0) none) chain

-- a table without rows has room for as many as it has places
pub few_more : {A : Type 0} (before : List A) (m n : ℕ) → before ≡ [] → m ≤ n → length before + m ≤ n
few_more before m n none h = omega (arith, ap length none, h)

-- the pairs of rows and figures whose row passes, as the figures of the rows that pass
pub figures_if-filter : {T F : Type 0} (passes : T → Bool) (rows : List T) (xs : List F) → map (λ (p : T × F). p.1) (filter (λ p. passes p.0) (zip rows xs)) ≡ figures_if passes rows xs
figures_if-filter passes [] xs = refl
figures_if-filter passes (r ∷ rs) [] = refl
figures_if-filter {T} {F} passes (r ∷ rs) (x ∷ xs) = either (passes r) (figures_if-filter passes rs xs)
  where
    either : (b : Bool) → map (λ (p : T × F). p.1) (filter (λ p. passes p.0) (zip rs xs)) ≡ figures_if passes rs xs
        → map (λ (p : T × F). p.1) (cond b ((r, x) ∷ filter (λ p. passes p.0) (zip rs xs)) (filter (λ p. passes p.0) (zip rs xs))) ≡ cond b (x ∷ figures_if passes rs xs) (figures_if passes rs xs)
    either true e = ap (λ ys. x ∷ ys) e
    either false e = e

-- as many figures as rows pass
pub length-figures_if : {T F : Type 0} (passes : T → Bool) (rows : List T) (xs : List F) → length (figures_if passes rows xs) ≤ count_if passes rows
length-figures_if passes [] xs = omega arith
length-figures_if passes (r ∷ rs) [] = omega arith
length-figures_if passes (r ∷ rs) (x ∷ xs) = either (passes r) (length-figures_if passes rs xs)
  where
    either : (b : Bool) → length (figures_if passes rs xs) ≤ count_if passes rs → length (cond b (x ∷ figures_if passes rs xs) (figures_if passes rs xs)) ≤ cond b 1 0 + count_if passes rs
    either true h = omega (arith, h)
    either false h = omega (arith, h)

-- as many pairs of rows and figures as rows pass, or fewer
pub few_pairs : {T F : Type 0} (passes : T → Bool) (rows : List T) (xs : List F) (n : ℕ) → count_if passes rows ≤ n → length (map (λ (p : T × F). p.1) (filter (λ p. passes p.0) (zip rows xs))) ≤ n
few_pairs passes rows xs n few =
    omega (arith, few, ap length (figures_if-filter passes rows xs), length-figures_if passes rows xs)

-- the first pair whose row passes has the figure of the first row that passes
pub figure_of-find : {T F : Type 0} (other : F) (passes : T → Bool) (rows : List T) (xs : List F) → unwrap_or (option_map (λ (p : T × F). p.1) (find (λ p. passes p.0) (zip rows xs))) other ≡ figure_of other passes rows xs
figure_of-find other passes [] xs = refl
figure_of-find other passes (r ∷ rs) [] = refl
figure_of-find {T} {F} other passes (r ∷ rs) (x ∷ xs) = either (passes r) (figure_of-find other passes rs xs)
  where
    either : (b : Bool) → unwrap_or (option_map (λ (p : T × F). p.1) (find (λ p. passes p.0) (zip rs xs))) other ≡ figure_of other passes rs xs
        → unwrap_or (option_map (λ (p : T × F). p.1) (cond b (Some (r, x)) (find (λ p. passes p.0) (zip rs xs)))) other ≡ cond b x (figure_of other passes rs xs)
    either true e = refl
    either false e = e

-- what the rows that pass carry
pub carried_if-filter : {T : Type 0} (passes : T → Bool) (carried : T → ℕ) (rows : List T) → map carried (filter passes rows) ≡ carried_if passes carried rows
carried_if-filter passes carried [] = refl
carried_if-filter passes carried (r ∷ rs) = either (passes r) (carried_if-filter passes carried rs)
  where
    either : (b : Bool) → map carried (filter passes rs) ≡ carried_if passes carried rs → map carried (cond b (r ∷ filter passes rs) (filter passes rs)) ≡ cond b (carried r ∷ carried_if passes carried rs) (carried_if passes carried rs)
    either true e = ap (λ ys. carried r ∷ ys) e
    either false e = e

pub few_carried : {T : Type 0} (passes : T → Bool) (carried : T → ℕ) (rows : List T) (n : ℕ) → count_if passes rows ≤ n → length (map carried (filter passes rows)) ≤ n
few_carried passes carried [] n few = omega arith
few_carried passes carried (r ∷ rs) n few = omega (arith, few, most (r ∷ rs))
  where
    most : (ts : List _) → length (map carried (filter passes ts)) ≤ count_if passes ts
    most [] = omega arith
    most (t ∷ ts) = either (passes t) (most ts)
      where
        either : (b : Bool) → length (map carried (filter passes ts)) ≤ count_if passes ts → length (map carried (cond b (t ∷ filter passes ts) (filter passes ts))) ≤ cond b 1 0 + count_if passes ts
        either true h = omega (arith, h)
        either false h = omega (arith, h)
