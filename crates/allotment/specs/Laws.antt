-- What allotted output comes to, from the rule's terms alone.
use Rattle.std.specs.Prelude.{◌≡◌, ℕ, ◌≤◌, Bool, true, ◌&&◌, List, map, length, ℤ, sum, ◌==◌, unsigned_abs}
use Rattle.std.specs.List.{AllByRecursion}
use Rattle.tables.specs.Apart.{apart}
use Rattle.tables.specs.Carried.{carried_if}
use Rattle.tables.specs.Keys.{count_if}
use Rattle.terms.specs.declared.records.Share.{Share}
use Rattle.division.specs.Terms.{Keeps}
use Rattle.allotment.specs.Output.{amounts, turns_at, allotted_to, is_at}

-- Two shares have one rank at one plant.
abbrev pub same_turn : Share → Share → Bool
same_turn s u = s.plant == u.plant && s.rank == u.rank

-- Ranks run from 1 to 99, and no two shares have one rank at one plant.
pub record RanksApart (shares : List Share) : Type 0 where
  pub within : AllByRecursion (λ (s : Share). (1 ≤ s.rank) × (s.rank ≤ 99)) shares
  pub apart : apart same_turn shares ≡ true

-- The allotted output of a plant's shares comes to the plant's reading, where it has a share.
abbrev pub OutputAddsUp : Type 0
OutputAddsUp = (rule : ℕ → List ℕ → List ℕ) → Keeps rule → (reads : ℕ → ℕ) (shares : List Share) (plans : List ℤ) → length plans ≡ length shares → RanksApart shares →
    (plant : ℕ) → 1 ≤ count_if (is_at plant) shares → sum (carried_if (is_at plant) (allotted_to rule reads shares plans) shares) ≡ reads plant

-- No share is allotted more than its plant reads.
abbrev pub OutputWithin : Type 0
OutputWithin = (rule : ℕ → List ℕ → List ℕ) → Keeps rule → (reads : ℕ → ℕ) (shares : List Share) (plans : List ℤ) (s : Share) → allotted_to rule reads shares plans s ≤ reads s.plant

-- At most 99 claims, which come to no more than all plans in magnitude.
pub record TurnsWithin (plant : ℕ) (shares : List Share) (plans : List ℤ) : Type 0 where
  pub few : length (turns_at plant shares plans) ≤ 99
  pub light : sum (amounts (turns_at plant shares plans)) ≤ sum (map unsigned_abs plans)

-- The claims at a plant stay within these limits.
abbrev pub TurnsStayWithin : Type 0
TurnsStayWithin = (plant : ℕ) (shares : List Share) (plans : List ℤ) → TurnsWithin plant shares plans
