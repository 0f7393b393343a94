-- Parts topped up at the front of a list.
use Rattle.std.proofs.Common.{◌≡◌, ℕ, zero, suc, ◌+◌, List, [], ◌∷◌, ◌++◌, take, drop, refl, ap}
use Rattle.division.specs.Rules.{topped}

pub topped-front : (n : ℕ) (parts : List ℕ) → topped n (take n parts) ++ drop n parts ≡ topped n parts
topped-front zero parts = refl
topped-front (suc n) [] = refl
topped-front (suc n) (p ∷ ps) = ap (λ l. (p + 1) ∷ l) (topped-front n ps)
