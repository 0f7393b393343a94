-- How a group is settled.
use Rattle.std.specs.Prelude.{◌≡◌, ℕ, ◌≤◌, Bool, List, length, ℤ, pos, ◌-ℤ◌, sum, ◌==◌, unsigned_abs}
use Rattle.std.specs.List.{AllByRecursion}
use Rattle.tables.specs.Figures.{figures_if, figured_with}
use Rattle.terms.specs.declared.codes.OwnerKind.TheVariants.{CurtailmentGroup}
use Rattle.terms.specs.declared.records.Contract.{Contract}
use Rattle.terms.specs.declared.records.Curtailment.{Curtailment}
use Rattle.terms.specs.declared.records.Group.{Group}
use Rattle.terms.specs.declared.records.GroupSort.{GroupSort}
use Rattle.terms.specs.declared.records.GroupSort.TheVariants.{Generation, Curtailment as Curtailing}
use Rattle.terms.specs.declared.records.Owner.{Owner}
use Rattle.terms.specs.declared.records.Place.{Place}
use Rattle.terms.specs.declared.records.Share.{Share}
use Rattle.curtailment.specs.Methods.{settled_by}
use Rattle.curtailment.specs.declared.methods.Settled.{Settled}
use Rattle.planning.specs.Plans.{plan_from}
use Rattle.settlement.specs.Demand.{demand_by, loss_of}
use Rattle.settlement.specs.declared.groups.SettledGroup.{SettledGroup}

-- A share of the group.
abbrev pub shares_of : ℕ → Share → Bool
shares_of group s = s.group == group

-- What the group's shares were allotted together; what was allotted stands beside the shares.
abbrev pub output_of : ℕ → List Share → List ℕ → ℕ
output_of group shares allotted = sum (figures_if (shares_of group) shares allotted)

-- A generation group: measured by its allotted output; the imbalance is its plan less that.
abbrev pub generation_settled : ℤ → ℕ → SettledGroup
generation_settled plan output = record { retailer = 0; supplied = 0; measured = output; imbalance = plan -ℤ pos output }

-- A curtailment group: measured by what it curtailed.
abbrev pub curtailment_settled : ℕ → Settled → SettledGroup
curtailment_settled retailer s = record { retailer = retailer; supplied = s.supplied; measured = s.curtailed; imbalance = s.imbalance }

-- The owner of a curtailment group's places.
abbrev pub of_group : ℕ → Owner
of_group number = record { kind = CurtailmentGroup; number = number }

-- The metered demand of a curtailment group, at its retailer's multiplier.
abbrev pub group_demand : (ℕ → ℕ) → List Contract → List Place → ℕ → Curtailment → ℕ
group_demand reads contracts places number c = demand_by reads places (loss_of c.retailer contracts) (of_group number)

module _ (reads : ℕ → ℕ) (contracts : List Contract) (places : List Place) (shares : List Share) (allotted : List ℕ) where
  -- By the group's sort, its number and its plan.
  abbrev pub settled_as : GroupSort → ℕ → ℤ → SettledGroup
  settled_as Generation number plan = generation_settled plan (output_of number shares allotted)
  settled_as (Curtailing c) number plan = curtailment_settled c.retailer (settled_by c.method c.baseline c.plan plan (group_demand reads contracts places number c))

  -- A group is settled by its plan, or deemed plan, which its part of its contract's sales less purchases gives.
  abbrev pub group_settled : Group → ℤ → SettledGroup
  group_settled g part = settled_as g.sort g.number (plan_from g.sort part)

  -- Every group, its part standing beside it.
  abbrev pub groups_settled : List Group → List ℤ → List SettledGroup
  groups_settled groups parts = figured_with group_settled groups parts

-- A curtailment plan is within its baseline, and that within what a kWh figure may be.
abbrev pub SoundSort : GroupSort → Type 0
SoundSort Generation = Unit {0}
SoundSort (Curtailing c) = (c.plan ≤ c.baseline) × (c.baseline ≤ 2000000)

-- What a book keeps of groups and of what was worked out for them.
pub record Groupable (groups : List Group) (parts : List ℤ) : Type 0 where
  pub sound : AllByRecursion (λ g. SoundSort g.sort) groups
  pub parts_room : length parts ≡ length groups
  pub parts_small : AllByRecursion (λ z. unsigned_abs z ≤ 128000000) parts
