-- What the shares at a plant claim of its output, and in which order.
use Rattle.std.specs.Prelude.{ℕ, zero, suc, ◌+◌, cond, List, [], ◌∷◌, ℤ, pos, negsuc, Some, None, Option, ◌==◌, nat_eq}
use Rattle.tables.specs.Keys.{first_of}
use Rattle.terms.specs.declared.records.Share.{Share}
use Rattle.allotment.specs.declared.claims.Claim.{Claim}

-- A share claims its corrected plan, or 0 if that is below zero.
abbrev pub claimed : ℤ → ℕ
claimed (pos n) = n
claimed (negsuc n) = 0

abbrev pub claim_of : Share → ℤ → Claim
claim_of s plan = record { rank = s.rank; kwh = claimed plan }

-- The claims of the plant's shares, in listed order; the shares have their corrected plans beside them.
abbrev pub claims_at : ℕ → List Share → List ℤ → List Claim
claims_at plant [] plans = []
claims_at plant (s ∷ ss) [] = []
claims_at plant (s ∷ ss) (x ∷ xs) = cond (s.plant == plant) (claim_of s x ∷ claims_at plant ss xs) (claims_at plant ss xs)

-- A claim before others, where there is one.
abbrev pub before : Option Claim → List Claim → List Claim
before None claims = claims
before (Some c) claims = c ∷ claims

-- The claims of so many ranks from one rank on, the lowest rank first.
unfoldable pub turns_from : ℕ → ℕ → List Claim → List Claim
turns_from rank zero claims = []
turns_from rank (suc n) claims = before (first_of (λ c. nat_eq c.rank rank) claims) (turns_from (rank + 1) n claims)

-- The claims in the order of their turns: ranks 1 to 99.
abbrev pub in_turn : List Claim → List Claim
in_turn claims = turns_from 1 99 claims
