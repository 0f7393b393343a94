-- How large a reading can be.
use Rattle.std.specs.Prelude.{◌≡◌, ℕ, ◌+◌, ◌-◌, ◌*◌, ◌%◌, ◌≤◌, Bool, true, false, cond, ◌&&◌, List, [], ◌∷◌, Some, None, Option, ◌==◌, nat_le, refl}
use Rattle.std.proofs.Common.{mul-le-mul, arith, rules, Fits}
use Rattle.std.specs.Int.{w32}
use Rattle.std.proofs.lemmas.Bool.{and_parts, leb-true}
use Rattle.metering.specs.Lookup.{is_number, first_reading}
use Rattle.metering.specs.Readings.{half_hour_reading, advance, register_fits, register_reading}
use Rattle.metering.specs.declared.half_hour.HalfHourRow.{HalfHourRow}
use Rattle.metering.specs.declared.register.RegisterRow.{RegisterRow}

-- the reading, if there is one, is at most k
abbrev pub AtMost : ℕ → Option ℕ → Type 0
AtMost k o = (kwh : ℕ) → o ≡ Some kwh → kwh ≤ k

none-at_most : (k : ℕ) → AtMost k None
none-at_most k kwh e = let z : ◌≡◌ {A = ℕ} 0 1 = cc in omega arith

some-at_most : (k n : ℕ) → n ≤ k → AtMost k (Some n)
some-at_most k n h kwh e = let q : n ≡ kwh = cc in omega arith

-- of two, whichever is chosen
chosen_at_most : (k : ℕ) (b : Bool) (o p : Option ℕ) → (b ≡ true → AtMost k o) → AtMost k p → AtMost k (cond b o p)
chosen_at_most k true o p f g = f refl
chosen_at_most k false o p f g = g

-- what bounds each row bounds the table
pub first-at_most : {R : Type 0} (numbered : R → ℕ) (gives : R → Option ℕ) (k : ℕ) → ((row : R) → AtMost k (gives row)) → (meter : ℕ) (rows : List R) → AtMost k (first_reading numbered gives meter rows)
first-at_most numbered gives k f meter [] = none-at_most k
first-at_most numbered gives k f meter (row ∷ rows) =
    chosen_at_most k (numbered row == meter) (gives row) (first_reading numbered gives meter rows) (λ _. f row) (first-at_most numbered gives k f meter rows)

pub half_hour_at_most : (row : HalfHourRow) → AtMost 2000000 (half_hour_reading row)
half_hour_at_most row =
    chosen_at_most 2000000 (is_number row.number && nat_le row.kwh 2000000) (Some row.kwh) None
    (λ t. some-at_most 2000000 row.kwh (leb-true row.kwh 2000000 (and_parts (is_number row.number) (nat_le row.kwh 2000000) t).1))
    (none-at_most 2000000)

-- what is left of a division by 100,000 is at most 99,999, so with a factor of at most 20 it is at most 1,999,980
steps_at_most : (steps factor : ℕ) → factor ≤ 20 → steps % 100000 * factor ≤ 1999980
steps_at_most steps factor h = let q : steps % 100000 ≤ 99999 = omega arith in mul-le-mul q h

pub steps_fit : (steps factor : ℕ) → factor ≤ 20 → Fits w32 (steps % 100000 * factor)
steps_fit steps factor h = let small = steps_at_most steps factor h in search rules

pub register_at_most : (row : RegisterRow) → AtMost 1999980 (register_reading row)
register_at_most row =
    chosen_at_most 1999980 (register_fits row) (Some (advance row.start row.end * row.factor)) None
    (λ t. some-at_most 1999980 (advance row.start row.end * row.factor) (steps_at_most (row.end + 100000 - row.start) row.factor (small t)))
    (none-at_most 1999980)
  where
    small : register_fits row ≡ true → row.factor ≤ 20
    small t = search (arith, and_parts, leb-true)
