-- Figures beside rows: a row's figure stands at the row's place.
use Rattle.std.specs.Prelude.{Bool, cond, List, [], ◌∷◌, ℤ, pos, ◌+ℤ◌}

-- The figures of the rows that pass, in listed order.
abbrev pub figures_if : {T F : Type 0} → (T → Bool) → List T → List F → List F
figures_if passes [] figures = []
figures_if passes (r ∷ rs) [] = []
figures_if passes (r ∷ rs) (x ∷ xs) = cond (passes r) (x ∷ figures_if passes rs xs) (figures_if passes rs xs)

-- The figure of the first row that passes; where none does, another.
abbrev pub figure_of : {T F : Type 0} → F → (T → Bool) → List T → List F → F
figure_of other passes [] figures = other
figure_of other passes (r ∷ rs) [] = other
figure_of other passes (r ∷ rs) (x ∷ xs) = cond (passes r) x (figure_of other passes rs xs)

-- What the signed figures of rows come to.
abbrev pub added_by : {T : Type 0} → (T → ℤ) → List T → ℤ
added_by figure [] = pos 0
added_by figure (r ∷ rs) = figure r +ℤ added_by figure rs

-- The rows that pass get their figure; every other row keeps what it has.
abbrev pub figured_if : {T F : Type 0} → (T → Bool) → (T → F) → List T → List F → List F
figured_if passes figure [] figures = figures
figured_if passes figure (r ∷ rs) [] = []
figured_if passes figure (r ∷ rs) (x ∷ xs) = cond (passes r) (figure r) x ∷ figured_if passes figure rs xs

-- A figure worked out from each row and what stands beside it.
abbrev pub figured_with : {T X F : Type 0} → (T → X → F) → List T → List X → List F
figured_with figure [] xs = []
figured_with figure (r ∷ rs) [] = []
figured_with figure (r ∷ rs) (x ∷ xs) = figure r x ∷ figured_with figure rs xs
