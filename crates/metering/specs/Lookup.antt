-- What a table of meters answers, whatever its rows hold.
use Rattle.std.specs.Prelude.{ℕ, Bool, cond, ◌&&◌, List, [], ◌∷◌, None, Option, ◌==◌, nat_le}

-- A meter number is one from 1 to 99,999.
abbrev pub is_number : ℕ → Bool
is_number n = nat_le 1 n && nat_le n 99999

-- The first row with the meter's number decides, whatever it gives; where no row has the number there is no reading.
abbrev pub first_reading : {R : Type 0} → (R → ℕ) → (R → Option ℕ) → ℕ → List R → Option ℕ
first_reading numbered gives meter [] = None
first_reading numbered gives meter (row ∷ rows) = cond (numbered row == meter) (gives row) (first_reading numbered gives meter rows)
