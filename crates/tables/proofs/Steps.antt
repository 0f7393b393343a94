-- One row on: what every loop over rows does with the row at its index.
use Rattle.std.proofs.Common.{◌≡◌, ℕ, ◌+◌, ◌<◌, List, ◌∷◌, length, get_or, drop, sym, ap, ◌∙◌}
use Rattle.std.proofs.lemmas.List.{at_drop_more}

-- the rows from i on begin with the row at i, read as x
pub at_row : {T B : Type 0} (f : List T → B) (rows : List T) (i : ℕ) (x : T) → i < length rows → x ≡ get_or rows i x → f (drop i rows) ≡ f (x ∷ drop (i + 1) rows)
at_row f rows i x within read = at_drop_more f rows i x within ∙ ap (λ y. f (y ∷ drop (i + 1) rows)) (sym read)
