-- All imbalances together, from the sums of groups, plants, trades and retailers.
use Rattle.std.proofs.Common.{◌≡◌, ℕ, ◌+◌, ◌≤◌, Bool, true, false, cond, ◌&&◌, eqb, List, map, length, get_or, ℤ, pos, ◌+ℤ◌, ◌-ℤ◌, neg_ℤ, sum_by, sym, refl, ap, ◌∙◌, arith}
use lib.ListN.{length-map}
use Rattle.std.specs.List.{AllByRecursion}
use Rattle.std.proofs.ByRecursion.{All-weaker, All-get_or, all_from_every}
use Rattle.std.proofs.lemmas.List.{get_or_default}
use Rattle.std.proofs.lemmas.Int.{ints}
use Rattle.tables.specs.Figures.{figures_if, added_by}
use Rattle.tables.specs.Keys.{count_if}
use Rattle.tables.proofs.Adding.{added_ext, added-same, added_none, added-both, added_neg, added-map, added-pos, added_naturals, counted-one, swap, partition, figures-added, figures-none, carried_added, figures_under, figured_added, figured_each}
use Rattle.terms.specs.declared.codes.Direction.TheVariants.{Sale, Purchase}
use Rattle.terms.specs.declared.codes.Kind.{Kind}
use Rattle.terms.specs.declared.codes.Kind.TheVariants.{Generation, Retail, Negawatt}
use Rattle.terms.specs.declared.records.Contract.{Contract}
use Rattle.terms.specs.declared.records.Group.{Group}
use Rattle.terms.specs.declared.records.GroupSort.{GroupSort}
use Rattle.terms.specs.declared.records.GroupSort.TheVariants.{Generation as Generating, Curtailment as Curtailing}
use Rattle.terms.specs.declared.records.Line.{Line}
use Rattle.terms.specs.declared.records.Place.{Place}
use Rattle.terms.specs.declared.records.Plant.{Plant}
use Rattle.terms.specs.declared.records.Share.{Share}
use Rattle.trades.specs.Beyond.{beyond_area}
use Rattle.trades.specs.Trades.{net_of, traded}
use Rattle.trades.proofs.Cancelling.{trades_cancel}
use Rattle.curtailment.proofs.Sums.{methods_agree_in_sum}
use Rattle.division.specs.Terms.{Keeps}
use Rattle.sharing.specs.Owners.{count_of, added_up}
use Rattle.planning.specs.All.{PlansCorrected}
use Rattle.planning.specs.Plans.{plan_from, plans_of_groups}
use Rattle.planning.proofs.Sums.{groups-add_up}
use Rattle.allotment.specs.Output.{allotted_to, is_at}
use Rattle.allotment.proofs.Allotting.{output-adds_up}
use Rattle.settlement.specs.Groups.{output_of, group_demand, settled_as, group_settled, groups_settled, SoundSort}
use Rattle.settlement.specs.Retailers.{supplied_to, settled_in, contract_settled}
use Rattle.settlement.specs.Area.{Filed, WellFiled, is_retail, is_generating, Grouped, Retailed, contract_demand, demand_of_sort, metered_output, trades, output, settled_groups, settled_contracts, AreaTotal}
use Rattle.settlement.specs.declared.groups.SettledGroup.{SettledGroup}
use Rattle.settlement.specs.declared.retailers.SettledContract.{SettledContract}

-- arithmetic that the steps below need
generating_even : (part out : ℤ) → (part -ℤ out) +ℤ pos 0 ≡ (pos 0 +ℤ neg_ℤ out) +ℤ part
generating_even part out = omega (arith, ints)

curtailing_even : (supplied imbalance part plan used : ℤ) → supplied +ℤ imbalance ≡ (part +ℤ plan) +ℤ used -ℤ plan → imbalance +ℤ supplied ≡ (used +ℤ neg_ℤ (pos 0)) +ℤ part
curtailing_even supplied imbalance part plan used e = omega (arith, ints)

retail_even : (own others : ℕ) (bought sold : ℤ) → pos (own + others) -ℤ (bought -ℤ sold) ≡ pos own +ℤ (pos others +ℤ (sold -ℤ bought))
retail_even own others bought sold = omega (arith, ints)

none_else : (a b : ℤ) → a ≡ pos 0 → a +ℤ b ≡ b
none_else a b e = omega (arith, ints)

and_none : (a b : ℤ) → a ≡ b → a +ℤ pos 0 ≡ b
and_none a b e = omega (arith, ints)

all_together : (groups supplied given parts out retail own sales purchases : ℤ) (demand used metered : ℕ) → groups +ℤ supplied ≡ (pos used +ℤ neg_ℤ out) +ℤ parts → retail ≡ pos demand +ℤ (given +ℤ own) → given ≡ supplied →
    out ≡ pos metered → parts +ℤ own ≡ sales -ℤ purchases → groups +ℤ retail ≡ pos (demand + used) -ℤ pos metered +ℤ sales -ℤ purchases
all_together groups supplied given parts out retail own sales purchases demand used metered a b c d e = omega (arith, ints)

-- what a generation group was allotted
abbrev made_by : List Share → List ℕ → Group → ℤ
made_by shares allotted g = cond (is_generating g.sort) (pos (output_of g.number shares allotted)) (pos 0)

-- what the places of a curtailment group used
abbrev used_by : (ℕ → ℕ) → List Contract → List Place → Group → ℕ
used_by reads contracts places g = demand_of_sort reads contracts places g.sort g.number

-- what a retailer is settled for, of the groups that name it
abbrev given_to : List SettledGroup → Contract → ℤ
given_to settled c = cond (is_retail c.kind) (pos (supplied_to c.number settled)) (pos 0)

-- what of it is for this group
abbrev given_for : Contract → SettledGroup → ℤ
given_for c z = cond (is_retail c.kind && eqb z.retailer c.number) (pos z.supplied) (pos 0)

-- a retail contract's sales less purchases
abbrev retail_own : List Line → List ℕ → Contract → ℤ
retail_own lines figures c = cond (is_retail c.kind) (net_of c.number lines figures) (pos 0)

-- groups: imbalance and supplied together are the part and the demand, less the output
module _ (reads : ℕ → ℕ) (contracts : List Contract) (places : List Place) (shares : List Share) (allotted : List ℕ) where
  abbrev settled : GroupSort → ℕ → ℤ → SettledGroup
  settled s number part = settled_as reads contracts places shares allotted s number (plan_from s part)

  sort_even : (s : GroupSort) (number : ℕ) → SoundSort s → (part : ℤ) →
      (settled s number part).imbalance +ℤ pos (settled s number part).supplied
      ≡ (pos (demand_of_sort reads contracts places s number) +ℤ neg_ℤ (cond (is_generating s) (pos (output_of number shares allotted)) (pos 0))) +ℤ part
  sort_even Generating number sound part = generating_even part (pos (output_of number shares allotted))
  sort_even (Curtailing c) number sound part =
      curtailing_even (pos (settled (Curtailing c) number part).supplied) (settled (Curtailing c) number part).imbalance part (pos c.plan) (pos (group_demand reads contracts places number c))
      (methods_agree_in_sum c.method c.baseline c.plan (part +ℤ pos c.plan) (group_demand reads contracts places number c) sound.0)

  groups_even : (groups : List Group) (parts : List ℤ) → length parts ≡ length groups → AllByRecursion (λ g. SoundSort g.sort) groups →
      added_by (λ (z : SettledGroup). z.imbalance) (groups_settled reads contracts places shares allotted groups parts)
      +ℤ added_by (λ (z : SettledGroup). pos z.supplied) (groups_settled reads contracts places shares allotted groups parts)
      ≡ (pos (sum_by (used_by reads contracts places) groups) +ℤ neg_ℤ (added_by (made_by shares allotted) groups)) +ℤ added_by (λ x. x) parts
  groups_even groups parts l sound =
      sym (added-both (λ (z : SettledGroup). z.imbalance) (λ (z : SettledGroup). pos z.supplied) (groups_settled reads contracts places shares allotted groups parts))
      ∙ figured_added both (group_settled reads contracts places shares allotted) (λ (g : Group). pos (used g) +ℤ neg_ℤ (made g)) (λ x. x) groups parts l
      (All-weaker (λ (g : Group). SoundSort g.sort) (λ (g : Group). (x : ℤ) → both (group_settled reads contracts places shares allotted g x) ≡ (pos (used g) +ℤ neg_ℤ (made g)) +ℤ x) (λ g h. sort_even g.sort g.number h) groups sound)
      ∙ ap (λ z. z +ℤ added_by (λ x. x) parts) rows
    where
      both : SettledGroup → ℤ
      both z = z.imbalance +ℤ pos z.supplied

      used : Group → ℕ
      used g = used_by reads contracts places g

      made : Group → ℤ
      made g = made_by shares allotted g

      rows : added_by (λ (g : Group). pos (used g) +ℤ neg_ℤ (made g)) groups ≡ pos (sum_by used groups) +ℤ neg_ℤ (added_by made groups)
      rows =
          added-both (λ (g : Group). pos (used g)) (λ (g : Group). neg_ℤ (made g)) groups
          ∙ ap (λ z. z +ℤ added_by (λ (g : Group). neg_ℤ (made g)) groups) (added_naturals used groups)
          ∙ ap (λ z. pos (sum_by used groups) +ℤ z) (added_neg made groups)

  -- what a group was supplied with is for just one retailer
  supplied-once : (s : GroupSort) (number : ℕ) → Retailed contracts s → (part : ℤ) →
      added_by (λ (c : Contract). given_for c (settled s number part)) contracts ≡ pos (settled s number part).supplied
  supplied-once Generating number one part = added_none (λ (c : Contract). given_for c (settled Generating number part)) contracts (λ c. either (is_retail c.kind && eqb 0 c.number))
    where
      either : (b : Bool) → cond b (pos 0) (pos 0) ≡ pos 0
      either true = refl
      either false = refl
  supplied-once (Curtailing c) number one part = counted-one (λ (k : Contract). is_retail k.kind && eqb c.retailer k.number) (pos (settled (Curtailing c) number part).supplied) contracts one

-- so retailers together are settled for what all groups were supplied with
supplied-all : (contracts : List Contract) (settled : List SettledGroup) → AllByRecursion (λ (z : SettledGroup). added_by (λ (c : Contract). given_for c z) contracts ≡ pos z.supplied) settled →
    added_by (given_to settled) contracts ≡ added_by (λ (z : SettledGroup). pos z.supplied) settled
supplied-all contracts settled once =
    added-same (given_to settled) (λ (c : Contract). added_by (λ (z : SettledGroup). given_for c z) settled) contracts by_group
    ∙ swap given_for contracts settled
    ∙ added_ext (λ (z : SettledGroup). added_by (λ (c : Contract). given_for c z) contracts) (λ (z : SettledGroup). pos z.supplied) settled once
  where
    supplied : SettledGroup → ℕ
    supplied z = z.supplied

    names : Contract → SettledGroup → Bool
    names c z = eqb z.retailer c.number

    by_group : (c : Contract) → given_to settled c ≡ added_by (λ (z : SettledGroup). given_for c z) settled
    by_group c =
        ap (λ z. cond (is_retail c.kind) z (pos 0)) (carried_added (names c) supplied settled)
        ∙ figures_under (λ x. pos x) (is_retail c.kind) (names c) settled (map supplied settled)
        ∙ figures-added (λ x. pos x) (λ (z : SettledGroup). is_retail c.kind && names c z) supplied settled

-- contracts: the imbalance is the demand, what was supplied for others, and sales less purchases
module _ (reads : ℕ → ℕ) (places : List Place) (lines : List Line) (figures : List ℕ) (settled : List SettledGroup) where
  contract_even : (k : Kind) (c : Contract) →
      (settled_in reads places lines figures settled k c).imbalance
      ≡ pos (contract_demand reads places k c) +ℤ (cond (is_retail k) (pos (supplied_to c.number settled)) (pos 0) +ℤ cond (is_retail k) (net_of c.number lines figures) (pos 0))
  contract_even Generation c = refl
  contract_even Retail c =
      retail_even (contract_demand reads places Retail c) (supplied_to c.number settled) (pos (traded Purchase c.number lines figures)) (pos (traded Sale c.number lines figures))
  contract_even Negawatt c = refl

  contracts_even : (contracts : List Contract) →
      added_by (λ (z : SettledContract). z.imbalance) (map (contract_settled reads places lines figures settled) contracts)
      ≡ pos (sum_by (λ (c : Contract). contract_demand reads places c.kind c) contracts) +ℤ (added_by (given_to settled) contracts +ℤ added_by (retail_own lines figures) contracts)
  contracts_even contracts =
      added-map (λ (z : SettledContract). z.imbalance) (contract_settled reads places lines figures settled) contracts
      ∙ added-same (λ (c : Contract). (contract_settled reads places lines figures settled c).imbalance) (λ (c : Contract). pos (demand c) +ℤ (given_to settled c +ℤ retail_own lines figures c)) contracts (λ c. contract_even c.kind c)
      ∙ added-both (λ (c : Contract). pos (demand c)) (λ (c : Contract). given_to settled c +ℤ retail_own lines figures c) contracts
      ∙ ap (λ z. z +ℤ added_by (λ (c : Contract). given_to settled c +ℤ retail_own lines figures c) contracts) (added_naturals demand contracts)
      ∙ ap (λ z. pos (sum_by demand contracts) +ℤ z) (added-both (given_to settled) (retail_own lines figures) contracts)
    where
      demand : Contract → ℕ
      demand c = contract_demand reads places c.kind c

-- the output of generation groups is that of the plants
module _ (rule : ℕ → List ℕ → List ℕ) (keeps : Keeps rule) (reads : ℕ → ℕ) (f : Filed) (w : WellFiled f) (plans : List ℤ) (l : length plans ≡ length f.shares) where
  abbrev allotted : List ℕ
  allotted = output rule reads f plans

  room : length allotted ≡ length f.shares
  room = length-map f.shares (allotted_to rule reads f.shares plans)

  made_by_groups : added_by (made_by f.shares allotted) f.groups ≡ added_by (λ x. pos x) allotted
  made_by_groups =
      added-same (made_by f.shares allotted) (λ (g : Group). added_by (λ x. pos x) (figures_if (mine g) f.shares allotted)) f.groups by_share
      ∙ partition mine (λ x. pos x) f.groups f.shares allotted room w.share_groups
    where
      mine : Group → Share → Bool
      mine g s = is_generating g.sort && eqb s.group g.number

      by_share : (g : Group) → made_by f.shares allotted g ≡ added_by (λ x. pos x) (figures_if (mine g) f.shares allotted)
      by_share g =
          ap (λ z. cond (is_generating g.sort) z (pos 0)) (sym (added-pos (figures_if (λ (s : Share). eqb s.group g.number) f.shares allotted)))
          ∙ figures_under (λ x. pos x) (is_generating g.sort) (λ (s : Share). eqb s.group g.number) f.shares allotted

  made_by_plants : added_by (λ x. pos x) allotted ≡ pos (metered_output reads f)
  made_by_plants =
      sym (partition (λ (p : Plant) (s : Share). is_at p.meter s) (λ x. pos x) f.plants f.shares allotted room w.share_plants)
      ∙ added_ext (λ (p : Plant). added_by (λ x. pos x) (figures_if (is_at p.meter) f.shares allotted)) (λ (p : Plant). pos (reads p.meter)) f.plants
      (All-weaker (λ (p : Plant). 1 ≤ count_if (is_at p.meter) f.shares) (λ (p : Plant). added_by (λ x. pos x) (figures_if (is_at p.meter) f.shares allotted) ≡ pos (reads p.meter)) by_plant f.plants w.plant_shares)
      ∙ added_naturals (λ (p : Plant). reads p.meter) f.plants
    where
      by_plant : (p : Plant) → 1 ≤ count_if (is_at p.meter) f.shares → added_by (λ x. pos x) (figures_if (is_at p.meter) f.shares allotted) ≡ pos (reads p.meter)
      by_plant p some =
          sym (carried_added (is_at p.meter) (allotted_to rule reads f.shares plans) f.shares)
          ∙ ap (λ n. pos n) (output-adds_up rule keeps reads f.shares plans l w.ranks p.meter some)

-- the parts of groups and the retail contracts' sales less purchases are what leaves the area by trade
module _ (first second : ℕ → List ℕ → List ℕ) (keeps : Keeps first) (f : Filed) (w : WellFiled f) (gb parts sb plans : List ℤ) (l : length parts ≡ length f.groups)
    (p : PlansCorrected first second f.contracts f.lines (trades f) f.groups f.shares gb parts sb plans) where
  abbrev own_trades : Contract → ℤ
  own_trades c = net_of c.number f.lines (trades f)

  abbrev parts_of : Contract → ℤ
  parts_of c = added_by (λ x. x) (figures_if (λ (g : Group). eqb g.contract c.number) f.groups parts)

  -- which is what the plans of its groups come to
  parts_are : (c : Contract) → parts_of c ≡ added_up (plans_of_groups c.number f.groups parts)
  parts_are c = refl

  contract_parts : (k : Kind) (c : Contract) → Grouped k (count_of (λ (g : Group). g.contract) c.number f.groups) → (1 ≤ count_of (λ (g : Group). g.contract) c.number f.groups → parts_of c ≡ own_trades c) →
      parts_of c +ℤ cond (is_retail k) (own_trades c) (pos 0) ≡ own_trades c
  contract_parts Generation c some adds = and_none (parts_of c) (own_trades c) (adds some)
  contract_parts Retail c none adds = none_else (parts_of c) (own_trades c) (ap (λ zs. added_by (λ x. x) zs) (figures-none (λ (g : Group). eqb g.contract c.number) f.groups parts none))
  contract_parts Negawatt c some adds = and_none (parts_of c) (own_trades c) (adds some)

  parts_and_retail : added_by (λ x. x) parts +ℤ added_by (retail_own f.lines (trades f)) f.contracts ≡ pos (beyond_area Sale f.lines) -ℤ pos (beyond_area Purchase f.lines)
  parts_and_retail =
      ap (λ z. z +ℤ added_by (retail_own f.lines (trades f)) f.contracts) (sym (partition (λ (c : Contract) (g : Group). eqb g.contract c.number) (λ x. x) f.contracts f.groups parts l w.group_contracts))
      ∙ sym (added-both parts_of (retail_own f.lines (trades f)) f.contracts)
      ∙ added_ext (λ (c : Contract). parts_of c +ℤ retail_own f.lines (trades f) c) own_trades f.contracts each
      ∙ trades_cancel f.contracts f.lines w.lines_apart w.line_contracts
    where
      has-groups : Contract → Type 0
      has-groups c = Grouped c.kind (count_of (λ (g : Group). g.contract) c.number f.groups)

      each : AllByRecursion (λ (c : Contract). parts_of c +ℤ retail_own f.lines (trades f) c ≡ own_trades c) f.contracts
      each =
          all_from_every (λ (c : Contract). parts_of c +ℤ retail_own f.lines (trades f) c ≡ own_trades c) f.contracts
          (λ j d low h.
          let c : Contract = get_or f.contracts j d in
          contract_parts c.kind c (All-get_or has-groups f.contracts j d h w.contract_groups)
          (λ some. parts_are c ∙ groups-add_up first second keeps f.contracts f.lines (trades f) f.groups f.shares gb parts sb plans p j c h (get_or_default f.contracts j d c h) some))

pub area_total : AreaTotal
area_total first second rule keeps_first keeps_rule reads f w gb parts sb plans lg ls p =
    all_together (added_by (λ (z : SettledGroup). z.imbalance) settled) (added_by (λ (z : SettledGroup). pos z.supplied) settled) (added_by (given_to settled) f.contracts) (added_by (λ x. x) parts)
    (added_by (made_by f.shares shared) f.groups) (added_by (λ (z : SettledContract). z.imbalance) (settled_contracts rule reads f parts plans)) (added_by (retail_own f.lines (trades f)) f.contracts)
    (pos (beyond_area Sale f.lines)) (pos (beyond_area Purchase f.lines)) (sum_by (λ (c : Contract). contract_demand reads f.places c.kind c) f.contracts) (sum_by (used_by reads f.contracts f.places) f.groups) (metered_output reads f)
    (groups_even reads f.contracts f.places f.shares shared f.groups parts lg w.sound)
    (contracts_even reads f.places f.lines (trades f) settled f.contracts)
    (supplied-all f.contracts settled once)
    (made_by_groups rule keeps_rule reads f w plans ls ∙ made_by_plants rule keeps_rule reads f w plans ls)
    (parts_and_retail first second keeps_first f w gb parts sb plans lg p)
  where
    shared : List ℕ
    shared = output rule reads f plans

    settled : List SettledGroup
    settled = settled_groups rule reads f parts plans

    to_one : SettledGroup → Type 0
    to_one z = added_by (λ (c : Contract). given_for c z) f.contracts ≡ pos z.supplied

    once : AllByRecursion to_one settled
    once =
        figured_each to_one (group_settled reads f.contracts f.places f.shares shared) f.groups parts
        (All-weaker (λ (g : Group). Retailed f.contracts g.sort) (λ (g : Group). (x : ℤ) → to_one (group_settled reads f.contracts f.places f.shares shared g x))
        (λ g h. supplied-once reads f.contracts f.places f.shares shared g.sort g.number h) f.groups w.retailers)
