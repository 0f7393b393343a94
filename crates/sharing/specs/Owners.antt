-- Rows that belong to owners, and a whole shared out among the rows of one owner.
use Rattle.std.specs.Prelude.{◌≡◌, ℕ, ◌<◌, ◌≤◌, cond, List, [], ◌∷◌, length, drop, ℤ, pos, nat_eq, ◌==◌, ◌≢◌, slice_index_or, unsigned_abs}
use Rattle.tables.specs.Carried.{claims_of}
use Rattle.tables.specs.Figures.{added_by, figures_if}
use Rattle.tables.specs.Keys.{count_if}
use Rattle.division.specs.Signed.{signed_parts}

-- How many rows the owner has.
abbrev pub count_of : {T : Type 0} → (T → ℕ) → ℕ → List T → ℕ
count_of owned owner rows = count_if (λ r. nat_eq (owned r) owner) rows

-- The figures of the owner's rows, in listed order, where every row has a figure.
abbrev pub figures_of : {T : Type 0} → (T → ℕ) → ℕ → List T → List ℤ → List ℤ
figures_of owned owner rows figures = figures_if (λ r. nat_eq (owned r) owner) rows figures

-- What figures come to.
abbrev pub added_up : List ℤ → ℤ
added_up figures = added_by (λ x. x) figures

-- The owner's rows are given the parts in listed order, one each. Every other row keeps its figure.
abbrev pub placed : {T : Type 0} → (T → ℕ) → ℕ → List T → List ℤ → List ℤ → List ℤ
placed owned owner [] parts figures = figures
placed owned owner (r ∷ rs) parts [] = []
placed owned owner (r ∷ rs) parts (x ∷ xs) =
    cond (owned r == owner) (slice_index_or parts 0 x ∷ placed owned owner rs (drop 1 parts) xs) (x ∷ placed owned owner rs parts xs)

-- The signed parts of a whole by a rule, for what the owner's rows claim.
abbrev pub parts_for : {T : Type 0} → (ℕ → List ℕ → List ℕ) → (T → ℕ) → (T → ℕ) → ℕ → ℤ → List T → List ℤ
parts_for rule owned claimed owner whole rows = signed_parts whole (rule (unsigned_abs whole) (claims_of owned claimed owner rows))

-- A whole divided by a rule among the owner's rows.
abbrev pub shared : {T : Type 0} → (ℕ → List ℕ → List ℕ) → (T → ℕ) → (T → ℕ) → ℕ → ℤ → List T → List ℤ → List ℤ
shared rule owned claimed owner whole rows figures = placed owned owner rows (parts_for rule owned claimed owner whole rows) figures

-- What sharing out does: the figures of the owner's rows are the rule's parts in listed order, every other row has what it had,
-- where the owner has a row at all, the owner's figures come to the whole, and none is larger than the whole in magnitude.
pub record SharedOut {T : Type 0} (rule : ℕ → List ℕ → List ℕ) (owned claimed : T → ℕ) (owner : ℕ) (whole : ℤ) (rows : List T) (before after : List ℤ) : Type 0 where
  pub parts : figures_of owned owner rows after ≡ parts_for rule owned claimed owner whole rows
  pub others : (k : ℕ) (r : T) → k < length rows → r ≡ slice_index_or rows k r → (owned r ≢ owner) → slice_index_or after k (pos 0) ≡ slice_index_or before k (pos 0)
  pub adds : 1 ≤ count_of owned owner rows → added_up (figures_of owned owner rows after) ≡ whole
  pub within : (k : ℕ) (r : T) → k < length rows → r ≡ slice_index_or rows k r → owned r ≡ owner → unsigned_abs (slice_index_or after k (pos 0)) ≤ unsigned_abs whole
