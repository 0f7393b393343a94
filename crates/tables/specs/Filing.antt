-- Filing under a key: the first row that the key fits is amended, or a new one comes last.
use Rattle.std.specs.Prelude.{◌≡◌, ℕ, ◌<◌, max, Bool, true, false, cond, List, [], ◌∷◌, ◌++◌, length, Some, None, slice_index_or, slice_set}
use Rattle.tables.specs.Keys.{find, count_if}

-- The first row that passes is amended; where none does, the new row comes last.
abbrev pub upsert : {T : Type 0} → (T → Bool) → (T → T) → T → List T → List T
upsert passes amend new [] = new ∷ []
upsert passes amend new (r ∷ rs) = cond (passes r) (amend r ∷ rs) (r ∷ upsert passes amend new rs)

-- What filing does to the rows of a table: exactly one is amended or added, and every other keeps its place and value.
pub record Filed {T : Type 0} (fits : T → Bool) (amend : T → T) (new : T) (before after : List T) : Type 0 where
  -- a row that does not fit keeps its place and value
  pub others : (i : ℕ) (blank : T) → i < length before → fits (slice_index_or before i blank) ≡ false → slice_index_or after i blank ≡ slice_index_or before i blank
  -- where a row fits, the first that does is amended, and nothing else changes
  pub amended : (i : ℕ) (row : T) → find fits before ≡ Some i → row ≡ slice_index_or before i row → after ≡ slice_set before i (amend row)
  -- where none fits, the new row stands behind the rows as they were
  pub added : find fits before ≡ None → after ≡ before ++ new ∷ []
  -- a new row that fits, and amending that keeps a row fitting, leave as many rows that fit as there were, and at least one
  pub fitting : fits new ≡ true → ((row : T) → fits row ≡ true → fits (amend row) ≡ true) → count_if fits after ≡ max 1 (count_if fits before)
