-- The corrected plan of a generation contract.
use Rattle.std.specs.Prelude.{ℕ, ◌≤◌, List, length, ℤ, pos, ◌+ℤ◌}
use Rattle.std.specs.List.{AllByRecursion}
use Rattle.terms.specs.declared.records.Group.{Group}
use Rattle.terms.specs.declared.records.GroupSort.{GroupSort}
use Rattle.terms.specs.declared.records.GroupSort.TheVariants.{Generation, Curtailment}
use Rattle.terms.specs.declared.records.Share.{Share}
use Rattle.terms.specs.Plans.{plan_of, claim_in}
use Rattle.tables.specs.Carried.{claims_of}
use Rattle.sharing.specs.Owners.{figures_of}
use Rattle.sharing.specs.Levels.{Apart, claim_of, SharedOnLevels}

-- The limits that groups and shares of a book keep: at most 96 groups with numbers apart and plans of at most 2,000,000 kWh, and at most 256 shares of at most 2,000,000 kWh.
pub record Limits (groups : List Group) (shares : List Share) : Type 0 where
  pub few_groups : length groups ≤ 96
  pub few_shares : length shares ≤ 256
  pub apart : Apart (λ (g : Group). g.number) groups
  pub plans : AllByRecursion (λ g. plan_of g ≤ 2000000) groups
  pub planned : AllByRecursion (λ s. s.planned ≤ 2000000) shares

-- The deemed plan among the contract's groups by the first rule, a generation group claiming what its shares planned together and a curtailment group its own plan,
-- and each group's part among its shares by the second rule, by what they planned.
abbrev pub PlanCorrected : (ℕ → List ℕ → List ℕ) → (ℕ → List ℕ → List ℕ) → ℕ → ℤ → List Group → List Share → List ℤ → List ℤ → List ℤ → List ℤ → Type 0
PlanCorrected first second contract deemed groups shares groups_before groups_after shares_before shares_after =
    SharedOnLevels first second (λ (g : Group). claim_in g.sort) (λ (g : Group). g.contract) (λ (g : Group). g.number) (λ (s : Share). s.group) (λ (s : Share). s.planned)
    contract deemed groups shares groups_before groups_after shares_before shares_after

-- What the contract's groups claim, in listed order: a generation group what its shares planned together, a curtailment group its own plan.
abbrev pub group_claims : ℕ → List Group → List Share → List ℕ
group_claims contract groups shares =
    claims_of (λ (g : Group). g.contract) (claim_of (λ (g : Group). claim_in g.sort) (λ (g : Group). g.number) (λ (s : Share). s.group) (λ (s : Share). s.planned) shares) contract groups

-- What the group's shares claim, in listed order: what they planned.
abbrev pub share_claims : ℕ → List Share → List ℕ
share_claims group shares = claims_of (λ (s : Share). s.group) (λ (s : Share). s.planned) group shares

-- The plans of the contract's groups, and of the group's shares, in listed order.
abbrev pub plans_of_groups : ℕ → List Group → List ℤ → List ℤ
plans_of_groups contract groups plans = figures_of (λ (g : Group). g.contract) contract groups plans

abbrev pub plans_of_shares : ℕ → List Share → List ℤ → List ℤ
plans_of_shares group shares plans = figures_of (λ (s : Share). s.group) group shares plans

-- The numbers of the contract's groups, and of the plants of the group's shares, in listed order.
abbrev pub groups_of : ℕ → List Group → List ℕ
groups_of contract groups = claims_of (λ (g : Group). g.contract) (λ (g : Group). g.number) contract groups

abbrev pub plants_of : ℕ → List Share → List ℕ
plants_of group shares = claims_of (λ (s : Share). s.group) (λ (s : Share). s.plant) group shares

-- A group's plan from its part of its contract's sales less purchases: a generation group's part is its plan,
-- a curtailment group's is added to the plan that it filed, which gives its deemed plan.
abbrev pub plan_from : GroupSort → ℤ → ℤ
plan_from Generation part = part
plan_from (Curtailment c) part = part +ℤ pos c.plan

abbrev pub group_plan : Group → ℤ → ℤ
group_plan g part = plan_from g.sort part
