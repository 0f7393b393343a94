-- What rows carry, one row on: the steps of every loop over rows that pass a test.
use Rattle.std.proofs.Common.{◌≡◌, ℕ, ◌+◌, ◌<◌, ◌≤◌, Bool, true, false, cond, List, [], ◌∷◌, ◌++◌, map, length, get_or, drop, sum, sym, refl, ap, ◌∙◌}
use Rattle.std.proofs.lemmas.List.{at_drop_all, map-id, append_assoc, append-nil}
use Rattle.std.proofs.lemmas.List.Sums.{sum_by-cons}
use Rattle.std.proofs.lemmas.Bool.{cond-true, cond-false}
use Rattle.tables.specs.Carried.{carried_if}
use Rattle.tables.proofs.Steps.{at_row}

pub sum-cons : (x : ℕ) (xs : List ℕ) → sum (x ∷ xs) ≡ x + sum xs
sum-cons x xs = sum_by-cons (λ y. y) x xs

module _ {T : Type 0} (passes : T → Bool) (carried : T → ℕ) where
  -- the row at i, read as x, passes or does not
  module _ (rows : List T) (i : ℕ) (x : T) (within : i < length rows) (read : x ≡ get_or rows i x) where
    carried_at : carried_if passes carried (drop i rows) ≡ cond (passes x) (carried x ∷ carried_if passes carried (drop (i + 1) rows)) (carried_if passes carried (drop (i + 1) rows))
    carried_at = at_row (carried_if passes carried) rows i x within read

    pub carried_yes : passes x ≡ true → carried_if passes carried (drop i rows) ≡ carried x ∷ carried_if passes carried (drop (i + 1) rows)
    carried_yes e = carried_at ∙ cond-true _ _ _ e

    pub carried_no : passes x ≡ false → carried_if passes carried (drop i rows) ≡ carried_if passes carried (drop (i + 1) rows)
    carried_no e = carried_at ∙ cond-false _ _ _ e

    pub sum_yes : passes x ≡ true → sum (carried_if passes carried (drop i rows)) ≡ carried x + sum (carried_if passes carried (drop (i + 1) rows))
    sum_yes e = ap sum (carried_yes e) ∙ sum-cons (carried x) (carried_if passes carried (drop (i + 1) rows))

    -- one turn of a loop that gathers what the rows that pass carry
    pub gather_yes : (out out' all : List ℕ) (v : ℕ) → passes x ≡ true → v ≡ carried x → out' ≡ out ++ v ∷ [] → out ++ carried_if passes carried (drop i rows) ≡ all → out' ++ carried_if passes carried (drop (i + 1) rows) ≡ all
    gather_yes out out' all v mine is pushed inv =
        let rest : List ℕ = carried_if passes carried (drop (i + 1) rows) in
        ap (λ q. q ++ rest) pushed ∙ append_assoc out (v ∷ []) rest ∙ ap (λ y. out ++ y ∷ rest) is ∙ sym (ap (λ q. out ++ q) (carried_yes mine)) ∙ inv

    pub gather_no : (out out' all : List ℕ) → passes x ≡ false → out' ≡ out → out ++ carried_if passes carried (drop i rows) ≡ all → out' ++ carried_if passes carried (drop (i + 1) rows) ≡ all
    gather_no out out' all other same inv = ap (λ q. q ++ carried_if passes carried (drop (i + 1) rows)) same ∙ sym (ap (λ q. out ++ q) (carried_no other)) ∙ inv

  pub carried_end : (rows : List T) (i : ℕ) → length rows ≤ i → carried_if passes carried (drop i rows) ≡ []
  carried_end rows i h = at_drop_all (carried_if passes carried) rows i h

  pub gather_all : (rows : List T) (i : ℕ) (out all : List ℕ) → length rows ≤ i → out ++ carried_if passes carried (drop i rows) ≡ all → out ≡ all
  gather_all rows i out all h inv = sym (append-nil out) ∙ sym (ap (λ q. out ++ q) (carried_end rows i h)) ∙ inv

-- where every row passes, what is carried is what each row carries
pub carried_everyone : {T : Type 0} (carried : T → ℕ) (rows : List T) → carried_if (λ r. true) carried rows ≡ map carried rows
carried_everyone carried [] = refl
carried_everyone carried (r ∷ rs) = ap (λ ys. carried r ∷ ys) (carried_everyone carried rs)

-- figures carry themselves
pub carried_all : (xs : List ℕ) → carried_if (λ x. true) (λ x. x) xs ≡ xs
carried_all xs = carried_everyone (λ x. x) xs ∙ map-id xs
