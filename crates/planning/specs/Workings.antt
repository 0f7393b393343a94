-- The working of a pro rata division.
use Rattle.std.specs.Prelude.{◌≡◌, ℕ, ◌<◌, ◌≤◌, false, cond, List, [], ◌∷◌, map, length, drop, ℤ, ◌==◌, nat_lt, slice_index, slice_index_or, unsigned_abs}
use Rattle.division.specs.Rules.{rounded_down, floors, left_over, pro_rata}
use Rattle.division.specs.Signed.{signed_parts}
use Rattle.tables.specs.Carried.{claims_of}
use Rattle.sharing.specs.Owners.{added_up}
use Rattle.planning.specs.declared.working.Working.{Working}

-- The working of one part of a whole, where so many claims come to this total.
abbrev pub working_of : ℤ → ℕ → ℕ → ℕ → ℕ → ℤ → Working
working_of whole total count number claim part = record {
  number = number;
  claim = claim;
  floor = rounded_down (unsigned_abs whole) total count claim;
  extra = nat_lt (rounded_down (unsigned_abs whole) total count claim) (unsigned_abs part);
  part = part;
}

-- The working of each of the owner's rows, in listed order; the rows have their figures beside them, and the owner's rows take the claims in turn.
abbrev pub workings : {T : Type 0} → (T → ℕ) → (T → ℕ) → ℕ → (ℕ → ℕ → ℤ → Working) → List T → List ℕ → List ℤ → List Working
workings owned known owner working [] claims figures = []
workings owned known owner working (r ∷ rs) claims [] = []
workings owned known owner working (r ∷ rs) claims (x ∷ xs) =
    cond (owned r == owner) (working (known r) (slice_index claims 0) x ∷ workings owned known owner working rs (drop 1 claims) xs) (workings owned known owner working rs claims xs)

-- The numbers that the owner's rows are known by, in listed order.
abbrev pub names_of : {T : Type 0} → (T → ℕ) → (T → ℕ) → ℕ → List T → List ℕ
names_of owned known owner rows = claims_of owned known owner rows

-- A working explains a pro rata division of a whole among claims, line by line.
pub record Explains (whole : ℤ) (claims : List ℕ) (lines : List Working) (together : ℤ) : Type 0 where
  -- the lines show the claims, the parts rounded down and the parts
  pub claims_shown : map (λ (w : Working). w.claim) lines ≡ claims
  pub floors_shown : map (λ (w : Working). w.floor) lines ≡ floors (unsigned_abs whole) claims
  pub parts_shown : map (λ (w : Working). w.part) lines ≡ signed_parts whole (pro_rata (unsigned_abs whole) claims)
  -- just the first claimants got a kWh left over, as many as there were kWh
  pub first_ones : (n : ℕ) → n < length claims → slice_index_or (map (λ (w : Working). w.extra) lines) n false ≡ nat_lt n (left_over (unsigned_abs whole) claims)
  -- the sum is that of the parts, and for one claim or more it is the whole
  pub sum_shown : together ≡ added_up (map (λ (w : Working). w.part) lines)
  pub whole_divided : 1 ≤ length claims → together ≡ whole
