-- Corrected plans stay within the limits that settling needs.
use Rattle.std.proofs.Common.{◌≡◌, ℕ, ◌*◌, ◌<◌, ◌≤◌, eqb, List, map, length, get_or, ℤ, pos, nat_abs, sum_by, sum, sym, subst, arith}
use Rattle.std.specs.List.{AllByRecursion}
use Rattle.std.proofs.ByRecursion.{All-get_or, All-from_get_or, all_from_every, sum_by_le}
use Rattle.std.proofs.lemmas.List.{get_or_default}
use Rattle.std.proofs.lemmas.List.Sums.{sum-map, get_or-le-sum_by}
use Rattle.std.proofs.lemmas.Bool.{eqb-true}
use Rattle.terms.specs.declared.codes.Direction.TheVariants.{Sale, Purchase}
use Rattle.terms.specs.declared.records.Contract.{Contract}
use Rattle.terms.specs.declared.records.Group.{Group}
use Rattle.terms.specs.declared.records.Line.{Line}
use Rattle.terms.specs.declared.records.Share.{Share}
use Rattle.terms.specs.Plans.{claim_in}
use Rattle.tables.specs.Keys.{count_if}
use Rattle.tables.proofs.Adding.{sums_beside, all_beside, Standing, standing}
use Rattle.trades.specs.Trades.{traded}
use Rattle.trades.proofs.Sums.{traded-light}
use Rattle.division.specs.Terms.{Keeps}
use Rattle.sharing.specs.Levels.{claim_of}
use Rattle.sharing.proofs.Owning.{owners_sum}
use Rattle.sharing.proofs.Placing.{own-figure, parts-light}
use Rattle.planning.specs.Plans.{plans_of_groups, plans_of_shares}
use Rattle.tables.specs.Apart.{Known}
use Rattle.planning.specs.All.{PlansCorrected}
use Rattle.trades.specs.Trades.{Trading}
use Rattle.trades.specs.Trades.{net_of}
use Rattle.planning.specs.Laws.{PlansStayWithin}
use Rattle.planning.proofs.Deemed.{apart-small}

-- arithmetic that the steps below need
bounded : (z w m : ℕ) → z ≤ w → w ≤ m → z ≤ m
bounded z w m h k = omega arith

one-at_least : (n : ℕ) → n ≡ 1 → 1 ≤ n
one-at_least n e = omega arith

all_together : (listed plans by_group parts by_contract n : ℕ) → listed ≡ plans → by_group ≡ plans → by_group ≤ parts → by_contract ≡ parts → by_contract ≤ n * 128000000 → n ≤ 48 → listed ≤ 6144000000
all_together listed plans by_group parts by_contract n a b c d e f = omega arith

-- no figure is larger than all together
each_within : (xs : List ℤ) (m : ℕ) → sum_by nat_abs xs ≤ m → AllByRecursion (λ z. nat_abs z ≤ m) xs
each_within xs m h = All-from_get_or (λ (z : ℤ). nat_abs z ≤ m) xs (pos 0) (λ i l. bounded _ _ _ (get_or-le-sum_by nat_abs xs i (pos 0) l) h)

-- the owner of the row at k stands at some place
owner_of : {O T : Type 0} (numbered : O → ℕ) (owned : T → ℕ) (owners : List O) (rows : List T) → Known numbered owned owners rows →
    (k : ℕ) (r : T) → k < length rows → r ≡ get_or rows k r → Standing (λ (o : O). eqb (owned r) (numbered o)) owners
owner_of {O} {T} numbered owned owners rows known k r h e =
    standing (λ (o : O). eqb (owned r) (numbered o)) owners
    (subst (λ (x : T). 1 ≤ count_if (λ (o : O). eqb (owned x) (numbered o)) owners) (sym e) (one-at_least _ (All-get_or (λ (x : T). count_if (λ (o : O). eqb (owned x) (numbered o)) owners ≡ 1) rows k r h known)))

module _ (first second : ℕ → List ℕ → List ℕ) (keeps_first : Keeps first) (keeps_second : Keeps second) (contracts : List Contract) (lines : List Line) (figures : List ℕ) (groups : List Group) (shares : List Share) (gb ga sb sa : List ℤ)
    (trading : Trading lines figures) (known : Known (λ (c : Contract). c.number) (λ (g : Group). g.contract) contracts groups) (lg : length ga ≡ length groups)
    (p : PlansCorrected first second contracts lines figures groups shares gb ga sb sa) where
  own-small : (c : ℕ) → nat_abs (net_of c lines figures) ≤ 128000000
  own-small c =
      apart-small (traded Sale c lines figures) (traded Purchase c lines figures) 128000000 (traded-light Sale c lines figures (trading.allowed c) trading.small) (traded-light Purchase c lines figures (trading.allowed c) trading.small)

  -- the parts of a contract's groups, together
  contract_light : (j : ℕ) (c : Contract) → j < length contracts → c ≡ get_or contracts j c → sum_by nat_abs (plans_of_groups c.number groups ga) ≤ 128000000
  contract_light j c h e =
      let claimed : Group → ℕ = claim_of (λ (g : Group). claim_in g.sort) (λ (g : Group). g.number) (λ (s : Share). s.group) (λ (s : Share). s.planned) shares in
      subst (λ (zs : List ℤ). sum_by nat_abs zs ≤ 128000000) (sym (p.group_parts j c h e))
      (bounded _ _ _ (parts-light first keeps_first (λ (g : Group). g.contract) claimed c.number (net_of c.number lines figures) groups) (own-small c.number))

  module _ (k : ℕ) (g : Group) (h : k < length groups) (e : g ≡ get_or groups k g) where
    contract_of : Standing (λ (c : Contract). eqb g.contract c.number) contracts
    contract_of = owner_of (λ (c : Contract). c.number) (λ (g : Group). g.contract) contracts groups known k g h e

    its_number : g.contract ≡ contract_of.row.number
    its_number = eqb-true g.contract contract_of.row.number contract_of.passed

    -- a group's part
    part_small : nat_abs (get_or ga k (pos 0)) ≤ 128000000
    part_small =
        let n : ℕ = contract_of.row.number in
        own-figure (λ (g : Group). g.contract) n (λ (z : ℤ). nat_abs z ≤ 128000000) groups ga lg
        (each_within (plans_of_groups n groups ga) 128000000 (contract_light contract_of.place contract_of.row contract_of.within contract_of.read)) k g h e its_number

    -- the plans of its shares, together
    group_light : sum_by nat_abs (plans_of_shares g.number shares sa) ≤ nat_abs (get_or ga k (pos 0))
    group_light =
        subst (λ (zs : List ℤ). sum_by nat_abs zs ≤ nat_abs (get_or ga k (pos 0))) (sym (p.share_parts contract_of.place contract_of.row contract_of.within contract_of.read k g h e its_number))
        (parts-light second keeps_second (λ (s : Share). s.group) (λ (s : Share). s.planned) g.number (get_or ga k (pos 0)) shares)

  contracts-light : sum_by (λ (c : Contract). sum_by nat_abs (plans_of_groups c.number groups ga)) contracts ≤ length contracts * 128000000
  contracts-light =
      sum_by_le (λ (c : Contract). sum_by nat_abs (plans_of_groups c.number groups ga)) 128000000 contracts
      (all_from_every (λ (c : Contract). sum_by nat_abs (plans_of_groups c.number groups ga) ≤ 128000000) contracts (λ j d low h. contract_light j (get_or contracts j d) h (get_or_default contracts j d (get_or contracts j d) h)))

  all-light : length contracts ≤ 48 → Known (λ (g : Group). g.number) (λ (s : Share). s.group) groups shares → length sa ≡ length shares → sum (map nat_abs sa) ≤ 6144000000
  all-light few held ls =
      all_together _ _ _ _ _ (length contracts) (sum-map nat_abs sa)
      (owners_sum (λ (g : Group). g.number) (λ (s : Share). s.group) nat_abs groups shares sa ls held)
      (sums_beside (λ (g : Group). sum_by nat_abs (plans_of_shares g.number shares sa)) nat_abs (pos 0) groups ga lg group_light)
      (owners_sum (λ (c : Contract). c.number) (λ (g : Group). g.contract) nat_abs contracts groups ga lg known)
      contracts-light few

pub plans_stay_within : PlansStayWithin
plans_stay_within first second keeps_first keeps_second contracts lines figures groups shares gb ga sb sa trading few known held lg ls p = record {
  parts_small = all_beside (λ (z : ℤ). nat_abs z ≤ 128000000) (pos 0) groups ga lg (part_small first second keeps_first keeps_second contracts lines figures groups shares gb ga sb sa trading known lg p);
  plans_light = all-light first second keeps_first keeps_second contracts lines figures groups shares gb ga sb sa trading known lg p few held ls;
}
