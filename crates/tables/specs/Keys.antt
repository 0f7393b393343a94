-- Rows that pass a test, as that a key fits them: the first of them, and how many there are.
use Rattle.std.specs.List.{position_from, find as lib_find}
use Rattle.std.specs.Prelude.{ℕ, ◌+◌, Bool, cond, List, [], ◌∷◌, Option}

-- The place of the first row that passes, the places counted from n.
abbrev pub find_from : {T : Type 0} → (T → Bool) → ℕ → List T → Option ℕ
find_from passes n rows = position_from passes n rows

abbrev pub find : {T : Type 0} → (T → Bool) → List T → Option ℕ
find passes rows = find_from passes 0 rows

-- The first row that passes.
abbrev pub first_of : {T : Type 0} → (T → Bool) → List T → Option T
first_of passes rows = lib_find passes rows

-- How many rows pass.
abbrev pub count_if : {T : Type 0} → (T → Bool) → List T → ℕ
count_if passes [] = 0
count_if passes (r ∷ rs) = cond (passes r) 1 0 + count_if passes rs
