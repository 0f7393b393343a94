-- How large the figures of groups and of their retailers are together.
use Rattle.std.proofs.Common.{ℕ, ◌-◌, ◌≤◌, Bool, true, false, cond, ltb, List, length, ℤ, pos, ◌-ℤ◌, arith}
use Rattle.std.specs.List.{AllByRecursion}
use Rattle.std.proofs.ByRecursion.{All-weaker, sum_by_le}
use Rattle.tables.specs.Keys.{count_if}
use Rattle.tables.proofs.Adding.{figured_each}
use Rattle.tables.proofs.Gathering.{figures-light, count_few}
use Rattle.sharing.proofs.Levelling.{claims-within}
use Rattle.terms.specs.Owners.{is_of}
use Rattle.terms.specs.declared.codes.Method.{Method}
use Rattle.terms.specs.declared.codes.Method.TheVariants.{One, Two}
use Rattle.terms.specs.declared.records.Contract.{Contract}
use Rattle.terms.specs.declared.records.Group.{Group}
use Rattle.terms.specs.declared.records.GroupSort.{GroupSort}
use Rattle.terms.specs.declared.records.GroupSort.TheVariants.{Generation, Curtailment as Curtailing}
use Rattle.terms.specs.declared.records.Owner.{Owner}
use Rattle.terms.specs.declared.records.Place.{Place}
use Rattle.terms.specs.declared.records.Share.{Share}
use Rattle.curtailment.specs.Methods.{figures, settled_by}
use Rattle.settlement.specs.Groups.{shares_of, output_of, of_group, group_demand, settled_as, group_settled, groups_settled, SoundSort}
use Rattle.settlement.specs.Retailers.{supplied_to}
use Rattle.settlement.specs.declared.groups.SettledGroup.{SettledGroup}
use Rattle.settlement.proofs.Metering.{demand-small, loss_small}

-- what a group's shares were allotted together
pub output_light : (group : ℕ) (shares : List Share) (allotted : List ℕ) → length shares ≤ 256 → AllByRecursion (λ x. x ≤ 2000000) allotted → output_of group shares allotted ≤ 512000000
output_light group shares allotted few small = omega (arith, figures-light (shares_of group) 2000000 shares allotted small, count_few (shares_of group) shares, few)

-- what a retailer's groups were supplied with
pub supplied_light : (number : ℕ) (groups : List SettledGroup) → length groups ≤ 96 → AllByRecursion (λ g. g.supplied ≤ 153600000) groups → supplied_to number groups ≤ 14745600000
supplied_light number groups few small =
    omega (arith, claims-within (λ (g : SettledGroup). g.retailer) (λ (g : SettledGroup). g.supplied) number groups, sum_by_le (λ (g : SettledGroup). g.supplied) 153600000 groups small)

-- by either method no more is supplied than was used, or than the baseline
supplied-small : (method : Method) (b p : ℕ) (d : ℤ) (u : ℕ) → b ≤ 2000000 → u ≤ 153600000 → (settled_by method b p d u).supplied ≤ 153600000
supplied-small One b p d u small used = go (ltb b u) (ltb u (b - p))
  where
    go : (above below : Bool) → (cond above (figures (u - p) 0 (d -ℤ pos 0)) (cond below (figures u p (d -ℤ pos p)) (figures (b - p) (b - u) (d -ℤ pos (b - u))))).supplied ≤ 153600000
    go true below = omega arith
    go false true = used
    go false false = omega arith
supplied-small Two b p d u small used = omega arith

module _ (reads : ℕ → ℕ) (small : (m : ℕ) → reads m ≤ 2000000) (contracts : List Contract) (places : List Place) (losses : AllByRecursion (λ c. c.multiplier ≤ 12000) contracts) (allowed : (o : Owner) → count_if (is_of o) places ≤ 64)
    (shares : List Share) (allotted : List ℕ) where
  sort_small : (sort : GroupSort) (number : ℕ) (plan : ℤ) → SoundSort sort → (settled_as reads contracts places shares allotted sort number plan).supplied ≤ 153600000
  sort_small Generation number plan s = omega arith
  sort_small (Curtailing c) number plan s =
      supplied-small c.method c.baseline c.plan plan (group_demand reads contracts places number c) s.1
      (demand-small reads small (of_group number) places _ (allowed (of_group number)) (loss_small c.retailer contracts losses))

  pub groups-small : (groups : List Group) (parts : List ℤ) → AllByRecursion (λ g. SoundSort g.sort) groups → AllByRecursion (λ g. g.supplied ≤ 153600000) (groups_settled reads contracts places shares allotted groups parts)
  groups-small groups parts sound =
      figured_each (λ (g : SettledGroup). g.supplied ≤ 153600000) (group_settled reads contracts places shares allotted) groups parts
      (All-weaker (λ (g : Group). SoundSort g.sort) (λ (g : Group). (x : ℤ) → (group_settled reads contracts places shares allotted g x).supplied ≤ 153600000) (λ g s x. sort_small g.sort g.number _ s) groups sound)
