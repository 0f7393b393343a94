-- The steps of the search for the first row with a number.
use Rattle.std.proofs.Common.{◌≡◌, ℕ, ◌+◌, ◌<◌, ◌≤◌, true, false, cond, eqb, List, length, get_or, drop, None, Option, sym, ap, ◌∙◌}
use Rattle.std.proofs.lemmas.List.{at_drop_more, at_drop_all}
use Rattle.std.proofs.lemmas.Bool.{cond-true, cond-false}
use Rattle.metering.specs.Lookup.{first_reading}

module _ {R : Type 0} (numbered : R → ℕ) (gives : R → Option ℕ) (meter : ℕ) (rows : List R) (i : ℕ) where
  -- the row at i, read as x, has the number or has not
  module _ (x : R) (within : i < length rows) (read : x ≡ get_or rows i x) where
    first-at : first_reading numbered gives meter (drop i rows) ≡ cond (eqb (numbered x) meter) (gives x) (first_reading numbered gives meter (drop (i + 1) rows))
    first-at =
        at_drop_more (first_reading numbered gives meter) rows i x within
        ∙ ap (λ y. cond (eqb (numbered y) meter) (gives y) (first_reading numbered gives meter (drop (i + 1) rows))) (sym read)

    pub first-here : eqb (numbered x) meter ≡ true → first_reading numbered gives meter (drop i rows) ≡ gives x
    first-here e = first-at ∙ cond-true _ _ _ e

    pub first-later : eqb (numbered x) meter ≡ false → first_reading numbered gives meter (drop i rows) ≡ first_reading numbered gives meter (drop (i + 1) rows)
    first-later e = first-at ∙ cond-false _ _ _ e

  pub first_nowhere : length rows ≤ i → first_reading numbered gives meter (drop i rows) ≡ None
  first_nowhere h = at_drop_all (first_reading numbered gives meter) rows i h
