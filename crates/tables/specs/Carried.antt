-- What rows carry: of one owner, or of everyone.
use Rattle.std.specs.Prelude.{ℕ, Bool, true, cond, List, [], ◌∷◌, ◌==◌, nat_eq}
use Rattle.tables.specs.declared.totals.Whose.{Whose}
use Rattle.tables.specs.declared.totals.Whose.TheVariants.{Everyone, Owner}

-- Whether a row of this owner counts.
abbrev pub counts : Whose → ℕ → Bool
counts Everyone owner = true
counts (Owner number) owner = owner == number

-- What the rows that pass carry, in listed order.
abbrev pub carried_if : {T : Type 0} → (T → Bool) → (T → ℕ) → List T → List ℕ
carried_if passes carried [] = []
carried_if passes carried (r ∷ rs) = cond (passes r) (carried r ∷ carried_if passes carried rs) (carried_if passes carried rs)

abbrev pub carried_by : {T : Type 0} → Whose → (T → ℕ) → (T → ℕ) → List T → List ℕ
carried_by whose owned carried rows = carried_if (λ r. counts whose (owned r)) carried rows

-- What the rows of one owner carry, in listed order: the claims of that owner's rows.
abbrev pub claims_of : {T : Type 0} → (T → ℕ) → (T → ℕ) → ℕ → List T → List ℕ
claims_of owned carried owner rows = carried_if (λ r. nat_eq (owned r) owner) carried rows
