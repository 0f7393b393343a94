-- What the two rules give.
use Rattle.std.specs.Prelude.{ℕ, zero, suc, ◌+◌, ◌-◌, ◌*◌, ◌/◌, min, cond, List, [], ◌∷◌, map, length, sum, ◌==◌}

-- In the order given, each part is the smaller of the claim and what remains; the last part is all that remains.
abbrev pub ranked : ℕ → List ℕ → List ℕ
ranked whole [] = []
ranked whole (c ∷ []) = whole ∷ []
ranked whole (c ∷ d ∷ cs) = min c whole ∷ ranked (whole - c) (d ∷ cs)

-- Where all claims are zero, each counts as 1: what a claim counts as, and what n claims of this total come to.
abbrev pub counted : ℕ → ℕ → ℕ
counted total claim = cond (total == 0) 1 claim

abbrev pub basis : ℕ → ℕ → ℕ
basis total n = cond (total == 0) n total

-- One claimant's part rounded down, where n claims come to this total.
abbrev pub rounded_down : ℕ → ℕ → ℕ → ℕ → ℕ
rounded_down whole total n claim = whole * counted total claim / basis total n

-- Every part rounded down.
abbrev pub floors : ℕ → List ℕ → List ℕ
floors whole claims = map (rounded_down whole (sum claims) (length claims)) claims

-- What is left over when every part is rounded down.
abbrev pub left_over : ℕ → List ℕ → ℕ
left_over whole claims = whole - sum (floors whole claims)

-- One kWh more for each of the first n.
abbrev pub topped : ℕ → List ℕ → List ℕ
topped zero parts = parts
topped (suc n) [] = []
topped (suc n) (p ∷ ps) = (p + 1) ∷ topped n ps

-- Whole times claim over total, rounded down; what is left over goes one kWh each to the first claimants in listed order.
abbrev pub pro_rata : ℕ → List ℕ → List ℕ
pro_rata whole claims = topped (left_over whole claims) (floors whole claims)
