-- How near a part of a pro rata division is to its exact share.
use Rattle.std.specs.Prelude.{ℕ, ◌+◌, ◌*◌, ◌<◌, ◌≤◌, List, length, Ok, Err, sum, Result, slice_index}
use Rattle.terms.specs.declared.refusal.Refusal.{Refusal}
use Rattle.division.specs.Rules.{counted, basis}

-- a and b differ by at most t
abbrev pub Within : ℕ → ℕ → ℕ → Type 0
Within t a b = (a ≤ b + t) × (b ≤ a + t)

-- A part is within one kWh of its exact share: total times part, and whole times claim, differ by at most the total,
-- where all-zero claims count as 1 each.
abbrev pub WithinOne : ℕ → List ℕ → ℕ → ℕ → Type 0
WithinOne whole claims claim part =
    Within (basis (sum claims) (length claims)) (basis (sum claims) (length claims) * part) (whole * counted (sum claims) claim)

-- Every part is within one kWh of its exact share.
abbrev pub EachWithinOne : ℕ → List ℕ → List ℕ → Type 0
EachWithinOne whole claims parts = (k : ℕ) → k < length claims → WithinOne whole claims (slice_index claims k) (slice_index parts k)

-- So it is after a division that was granted.
abbrev pub Near : ℕ → List ℕ → List ℕ → Result (Unit {0}) Refusal → Type 0
Near whole claims parts (Ok done) = EachWithinOne whole claims parts
Near whole claims parts (Err e) = Unit {0}
