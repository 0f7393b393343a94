-- The output of a plant, allotted to its shares.
use Rattle.std.specs.Prelude.{ℕ, Bool, List, map, ℤ, ◌==◌, nat_eq}
use Rattle.tables.specs.Apart.{has}
use Rattle.tables.specs.Figures.{figure_of, figured_if}
use Rattle.terms.specs.declared.records.Plant.{Plant}
use Rattle.terms.specs.declared.records.Share.{Share}
use Rattle.allotment.specs.declared.claims.Claim.{Claim}
use Rattle.allotment.specs.Claims.{claims_at, in_turn}

-- The part of the claim of this rank, the parts standing beside the claims; 0 where no claim has the rank.
abbrev pub part_of : ℕ → List Claim → List ℕ → ℕ
part_of rank turns parts = figure_of 0 (λ (c : Claim). nat_eq c.rank rank) turns parts

-- What the claims take in their turns.
abbrev pub amounts : List Claim → List ℕ
amounts claims = map (λ (c : Claim). c.kwh) claims

-- The claims at a plant, in the order of their turns.
abbrev pub turns_at : ℕ → List Share → List ℤ → List Claim
turns_at plant shares plans = in_turn (claims_at plant shares plans)

-- A share's part of a reading of its plant: the rule divides the reading among the claims at the plant in the order of their turns.
abbrev pub part_at : (ℕ → List ℕ → List ℕ) → ℕ → ℕ → List Share → List ℤ → Share → ℕ
part_at rule plant reading shares plans s = part_of s.rank (turns_at plant shares plans) (rule reading (amounts (turns_at plant shares plans)))

-- The allotted output of a share, by what each plant reads.
abbrev pub allotted_to : (ℕ → List ℕ → List ℕ) → (ℕ → ℕ) → List Share → List ℤ → Share → ℕ
allotted_to rule reads shares plans s = part_at rule s.plant (reads s.plant) shares plans s

-- The share is at this plant.
abbrev pub is_at : ℕ → Share → Bool
is_at plant s = s.plant == plant

-- The share is at one of the plants.
abbrev pub at_one : List Plant → Share → Bool
at_one plants s = has (λ (p : Plant). nat_eq s.plant p.meter) plants

-- The allotted output of every share at one of the plants; every other share keeps its figure.
abbrev pub outputs : (ℕ → List ℕ → List ℕ) → (ℕ → ℕ) → List Plant → List Share → List ℤ → List ℕ → List ℕ
outputs rule reads plants shares plans figures = figured_if (at_one plants) (allotted_to rule reads shares plans) shares figures
