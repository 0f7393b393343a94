-- What corrected plans come to, from the rules' terms alone.
use Rattle.std.specs.Prelude.{◌≡◌, ℕ, ◌<◌, ◌≤◌, List, map, length, ℤ, pos, sum, slice_index_or, unsigned_abs}
use Rattle.std.specs.List.{AllByRecursion}
use Rattle.terms.specs.declared.records.Contract.{Contract}
use Rattle.terms.specs.declared.records.Group.{Group}
use Rattle.terms.specs.declared.records.Line.{Line}
use Rattle.terms.specs.declared.records.Share.{Share}
use Rattle.division.specs.Terms.{Keeps}
use Rattle.tables.specs.Apart.{Known}
use Rattle.sharing.specs.Owners.{count_of, added_up}
use Rattle.planning.specs.Plans.{plans_of_groups, plans_of_shares}
use Rattle.planning.specs.All.{PlansCorrected}
use Rattle.trades.specs.Trades.{Trading}
use Rattle.trades.specs.Trades.{net_of}

-- The parts of a contract's groups come to its corrected sales less purchases, where it has a group.
abbrev pub GroupsAddUp : Type 0
GroupsAddUp = (first second : ℕ → List ℕ → List ℕ) → Keeps first → (contracts : List Contract) (lines : List Line) (figures : List ℕ) (groups : List Group) (shares : List Share) (gb ga sb sa : List ℤ) →
    PlansCorrected first second contracts lines figures groups shares gb ga sb sa →
    (j : ℕ) (c : Contract) → j < length contracts → c ≡ slice_index_or contracts j c → 1 ≤ count_of (λ (g : Group). g.contract) c.number groups →
    added_up (plans_of_groups c.number groups ga) ≡ net_of c.number lines figures

-- The corrected plans of the shares of a contract's group come to the group's part, where it has a share.
abbrev pub SharesAddUp : Type 0
SharesAddUp = (first second : ℕ → List ℕ → List ℕ) → Keeps second → (contracts : List Contract) (lines : List Line) (figures : List ℕ) (groups : List Group) (shares : List Share) (gb ga sb sa : List ℤ) →
    PlansCorrected first second contracts lines figures groups shares gb ga sb sa →
    (j : ℕ) (c : Contract) → j < length contracts → c ≡ slice_index_or contracts j c → (k : ℕ) (g : Group) → k < length groups → g ≡ slice_index_or groups k g → g.contract ≡ c.number →
    1 ≤ count_of (λ (s : Share). s.group) g.number shares → added_up (plans_of_shares g.number shares sa) ≡ slice_index_or ga k (pos 0)

-- The limits that corrected plans keep.
pub record PlansWithin (groups_after shares_after : List ℤ) : Type 0 where
  -- no group's part is larger than a whole that a rule takes
  pub parts_small : AllByRecursion (λ z. unsigned_abs z ≤ 128000000) groups_after
  -- all corrected plans together, in magnitude, are within what claims may come to
  pub plans_light : sum (map unsigned_abs shares_after) ≤ 6144000000

-- Corrected plans stay within these limits: a contract's share plans come, in magnitude, to at most its sales less purchases,
-- which are at most 128,000,000 kWh, and there are at most 48 contracts.
abbrev pub PlansStayWithin : Type 0
PlansStayWithin = (first second : ℕ → List ℕ → List ℕ) → Keeps first → Keeps second →
    (contracts : List Contract) (lines : List Line) (figures : List ℕ) (groups : List Group) (shares : List Share) (gb ga sb sa : List ℤ) →
    Trading lines figures → length contracts ≤ 48 →
    Known (λ (c : Contract). c.number) (λ (g : Group). g.contract) contracts groups → Known (λ (g : Group). g.number) (λ (s : Share). s.group) groups shares →
    length ga ≡ length groups → length sa ≡ length shares → PlansCorrected first second contracts lines figures groups shares gb ga sb sa → PlansWithin ga sa
