-- Rows that are told apart, and rows whose owners are known.
use Rattle.std.specs.Prelude.{◌≡◌, ℕ, Bool, true, not, ◌&&◌, List, [], ◌∷◌, nat_eq}
use Rattle.std.specs.List.{AllByRecursion, list_any}
use Rattle.tables.specs.Keys.{count_if}

-- Whether a row passes.
abbrev pub has : {T : Type 0} → (T → Bool) → List T → Bool
has passes rows = list_any passes rows

-- No two rows are the same.
abbrev pub apart : {T : Type 0} → (T → T → Bool) → List T → Bool
apart same [] = true
apart same (r ∷ rs) = not (has (same r) rs) && apart same rs

-- Every row's owner is listed, once.
abbrev pub Known : {O T : Type 0} → (O → ℕ) → (T → ℕ) → List O → List T → Type 0
Known {O} {T} numbered owned owners rows = AllByRecursion (λ (r : T). count_if (λ (o : O). nat_eq (owned r) (numbered o)) owners ≡ 1) rows
