-- The law of the area total: what all imbalances come to.
use Rattle.std.specs.Prelude.{◌≡◌, ℕ, ◌+◌, ◌≤◌, Bool, true, false, ◌&&◌, List, map, length, ℤ, pos, ◌+ℤ◌, ◌-ℤ◌, sum_by, ◌==◌}
use Rattle.std.specs.List.{AllByRecursion}
use Rattle.tables.specs.Apart.{apart, Known}
use Rattle.tables.specs.Figures.{added_by}
use Rattle.tables.specs.Keys.{count_if}
use Rattle.terms.specs.declared.codes.Direction.TheVariants.{Sale, Purchase}
use Rattle.terms.specs.declared.codes.Kind.{Kind}
use Rattle.terms.specs.declared.codes.Kind.TheVariants.{Generation, Retail, Negawatt}
use Rattle.terms.specs.declared.records.Contract.{Contract}
use Rattle.terms.specs.declared.records.Group.{Group}
use Rattle.terms.specs.declared.records.GroupSort.{GroupSort}
use Rattle.terms.specs.declared.records.GroupSort.TheVariants.{Generation as Generating, Curtailment as Curtailing}
use Rattle.terms.specs.declared.records.Line.{Line}
use Rattle.terms.specs.declared.records.Place.{Place}
use Rattle.terms.specs.declared.records.Plant.{Plant}
use Rattle.terms.specs.declared.records.Share.{Share}
use Rattle.trades.specs.Laws.{same_line}
use Rattle.trades.specs.Beyond.{beyond_area}
use Rattle.trades.specs.Trades.{corrected}
use Rattle.division.specs.Terms.{Keeps}
use Rattle.sharing.specs.Owners.{count_of}
use Rattle.planning.specs.All.{PlansCorrected}
use Rattle.allotment.specs.Laws.{RanksApart}
use Rattle.allotment.specs.Output.{allotted_to, is_at}
use Rattle.settlement.specs.Demand.{demand_by}
use Rattle.settlement.specs.Groups.{group_demand, groups_settled, SoundSort}
use Rattle.settlement.specs.Retailers.{of_contract, contracts_settled}
use Rattle.settlement.specs.declared.groups.SettledGroup.{SettledGroup}
use Rattle.settlement.specs.declared.retailers.SettledContract.{SettledContract}

-- What was filed for a half hour.
pub record Filed : Type 0 where
  pub contracts : List Contract
  pub groups : List Group
  pub plants : List Plant
  pub shares : List Share
  pub lines : List Line
  pub places : List Place

abbrev pub is_retail : Kind → Bool
is_retail Generation = false
is_retail Retail = true
is_retail Negawatt = false

abbrev pub is_generating : GroupSort → Bool
is_generating Generating = true
is_generating (Curtailing c) = false

-- A retail contract has no group, any other has one or more.
abbrev pub Grouped : Kind → ℕ → Type 0
Grouped Generation groups = 1 ≤ groups
Grouped Retail groups = groups ≡ 0
Grouped Negawatt groups = 1 ≤ groups

-- The retailer that a curtailment group names is a retail contract, listed once.
abbrev pub Retailed : List Contract → GroupSort → Type 0
Retailed contracts Generating = Unit {0}
Retailed contracts (Curtailing c) = count_if (λ (k : Contract). is_retail k.kind && c.retailer == k.number) contracts ≡ 1

-- What filing and closing see to: keys apart, owners known, and nobody without what belongs to him.
pub record WellFiled (f : Filed) : Type 0 where
  pub lines_apart : apart same_line f.lines ≡ true
  pub line_contracts : Known (λ (c : Contract). c.number) (λ (l : Line). l.contract) f.contracts f.lines
  pub group_contracts : Known (λ (c : Contract). c.number) (λ (g : Group). g.contract) f.contracts f.groups
  pub contract_groups : AllByRecursion (λ c. Grouped c.kind (count_of (λ (g : Group). g.contract) c.number f.groups)) f.contracts
  pub share_groups : AllByRecursion (λ s. count_if (λ (g : Group). is_generating g.sort && s.group == g.number) f.groups ≡ 1) f.shares
  pub share_plants : Known (λ (p : Plant). p.meter) (λ (s : Share). s.plant) f.plants f.shares
  pub plant_shares : AllByRecursion (λ p. 1 ≤ count_if (is_at p.meter) f.shares) f.plants
  pub ranks : RanksApart f.shares
  pub retailers : AllByRecursion (λ g. Retailed f.contracts g.sort) f.groups
  pub sound : AllByRecursion (λ g. SoundSort g.sort) f.groups

-- Metered demand of all owners, and metered output of all plants.
abbrev pub contract_demand : (ℕ → ℕ) → List Place → Kind → Contract → ℕ
contract_demand reads places Generation c = 0
contract_demand reads places Retail c = demand_by reads places c.multiplier (of_contract c.number)
contract_demand reads places Negawatt c = 0

abbrev pub demand_of_sort : (ℕ → ℕ) → List Contract → List Place → GroupSort → ℕ → ℕ
demand_of_sort reads contracts places Generating number = 0
demand_of_sort reads contracts places (Curtailing c) number = group_demand reads contracts places number c

abbrev pub metered_demand : (ℕ → ℕ) → Filed → ℕ
metered_demand reads f =
    sum_by (λ (c : Contract). contract_demand reads f.places c.kind c) f.contracts
    + sum_by (λ (g : Group). demand_of_sort reads f.contracts f.places g.sort g.number) f.groups

abbrev pub metered_output : (ℕ → ℕ) → Filed → ℕ
metered_output reads f = sum_by (λ (p : Plant). reads p.meter) f.plants

-- The corrected figures of the lines.
abbrev pub trades : Filed → List ℕ
trades f = map (corrected f.lines) f.lines

-- The allotted output of the shares, by their corrected plans.
abbrev pub output : (ℕ → List ℕ → List ℕ) → (ℕ → ℕ) → Filed → List ℤ → List ℕ
output rule reads f plans = map (allotted_to rule reads f.shares plans) f.shares

-- The settled groups, by their parts of their contracts' sales less purchases, and the settled contracts.
abbrev pub settled_groups : (ℕ → List ℕ → List ℕ) → (ℕ → ℕ) → Filed → List ℤ → List ℤ → List SettledGroup
settled_groups rule reads f parts plans = groups_settled reads f.contracts f.places f.shares (output rule reads f plans) f.groups parts

abbrev pub settled_contracts : (ℕ → List ℕ → List ℕ) → (ℕ → ℕ) → Filed → List ℤ → List ℤ → List SettledContract
settled_contracts rule reads f parts plans = contracts_settled reads f.places f.lines (trades f) (settled_groups rule reads f parts plans) f.contracts

-- All imbalances together: those of the groups and those of the retail contracts.
abbrev pub all_imbalances : (ℕ → List ℕ → List ℕ) → (ℕ → ℕ) → Filed → List ℤ → List ℤ → ℤ
all_imbalances rule reads f parts plans =
    added_by (λ (g : SettledGroup). g.imbalance) (settled_groups rule reads f parts plans) +ℤ added_by (λ (c : SettledContract). c.imbalance) (settled_contracts rule reads f parts plans)

-- All imbalances together are the metered demand of all owners less the metered output of all plants, and what was sold to the exchange and outside parties less what was bought from them:
-- for any rules that keep their terms, whatever the meters read.
abbrev pub AreaTotal : Type 0
AreaTotal = (first second rule : ℕ → List ℕ → List ℕ) → Keeps first → Keeps rule → (reads : ℕ → ℕ) (f : Filed) → WellFiled f → (gb parts sb plans : List ℤ) →
    length parts ≡ length f.groups → length plans ≡ length f.shares → PlansCorrected first second f.contracts f.lines (trades f) f.groups f.shares gb parts sb plans →
    all_imbalances rule reads f parts plans
    ≡ pos (metered_demand reads f) -ℤ pos (metered_output reads f) +ℤ pos (beyond_area Sale f.lines) -ℤ pos (beyond_area Purchase f.lines)
