-- The plans of all contracts, one contract on: what is done for one leaves what was done for those before it.
use Rattle.std.proofs.Common.{◌≡◌, ℕ, zero, suc, ◌+◌, ◌<◌, List, [], ◌∷◌, length, get_or, ℤ, pos, nat_abs, sym, refl, ap, ◌∙◌, subst, arith, below_more}
use Rattle.std.specs.List.{AllByRecursion}
use Rattle.std.proofs.ByRecursion.{All-get_or}
use Rattle.std.proofs.lemmas.List.{get_or_default}
use Rattle.terms.specs.declared.records.Contract.{Contract}
use Rattle.terms.specs.declared.records.Group.{Group}
use Rattle.terms.specs.declared.records.Line.{Line}
use Rattle.terms.specs.declared.records.Share.{Share}
use Rattle.division.specs.Signed.{signed_parts}
use Rattle.sharing.specs.Levels.{Apart}
use Rattle.sharing.proofs.Placing.{figures-same}
use Rattle.planning.specs.Plans.{PlanCorrected, group_claims, share_claims, plans_of_groups, plans_of_shares}
use Rattle.planning.specs.All.{PlansCorrected}
use Rattle.trades.specs.Trades.{net_of}

-- two rows read at one place are one row
pub one-read : {T : Type 0} (xs : List T) (n : ℕ) (x y : T) → n < length xs → x ≡ get_or xs n x → y ≡ get_or xs n y → x ≡ y
one-read xs n x y h p q = p ∙ get_or_default xs n x y h ∙ sym q

-- rows at two places have two numbers
pub apart-at : {T : Type 0} (numbered : T → ℕ) (xs : List T) → Apart numbered xs → (j n : ℕ) (x y : T) → j < n → n < length xs → x ≡ get_or xs j x → y ≡ get_or xs n y → numbered x ≡ numbered y → ⊥
apart-at numbered [] a j n x y l h p q e = omega arith
apart-at numbered (z ∷ zs) a zero zero x y l h p q e = omega arith
apart-at numbered (z ∷ zs) a zero (suc n) x y l h p q e =
    All-get_or (λ k. numbered k ≡ numbered z → ⊥) zs n y (omega arith) a.0 (ap numbered (sym q) ∙ sym e ∙ ap numbered p)
apart-at numbered (z ∷ zs) a (suc j) zero x y l h p q e = omega arith
apart-at numbered (z ∷ zs) a (suc j) (suc n) x y l h p q e = apart-at numbered zs a.1 j n x y (omega arith) (omega arith) p q e

-- a head of another owner shares its number with none of the owner's heads
pub free_of : {H : Type 0} (owned numbered : H → ℕ) (o n : ℕ) (hs : List H) → Apart numbered hs → (k : ℕ) (h : H) → k < length hs → h ≡ get_or hs k h → n ≡ numbered h → (owned h ≡ o → ⊥) → AllByRecursion (λ g. owned g ≡ o → numbered g ≡ n → ⊥) hs
free_of owned numbered o n [] a k h lt e is ne = tt
free_of owned numbered o n (g ∷ hs) a zero h lt e is ne = ((λ m z. ne (ap owned e ∙ m)), widen hs a.0)
  where
    widen : (ks : List _) → AllByRecursion (λ k. numbered k ≡ numbered g → ⊥) ks → AllByRecursion (λ k. owned k ≡ o → numbered k ≡ n → ⊥) ks
    widen [] b = tt
    widen (k ∷ ks) b = ((λ m z. b.0 (z ∙ is ∙ ap numbered e)), widen ks b.1)
free_of owned numbered o n (g ∷ hs) a (suc k) h lt e is ne =
    ((λ m z. All-get_or (λ q. numbered q ≡ numbered g → ⊥) hs k h (omega arith) a.0 (ap numbered (sym e) ∙ sym is ∙ sym z)), free_of owned numbered o n hs a.1 k h (omega arith) e is ne)

-- no head at any place has the number
free_all : {H : Type 0} (owned numbered : H → ℕ) (o n : ℕ) (hs : List H) → AllByRecursion (λ g. numbered g ≡ n → ⊥) hs → AllByRecursion (λ g. owned g ≡ o → numbered g ≡ n → ⊥) hs
free_all owned numbered o n [] a = tt
free_all owned numbered o n (h ∷ hs) a = ((λ m. a.0), free_all owned numbered o n hs a.1)

module _ (first second : ℕ → List ℕ → List ℕ) (contracts : List Contract) (lines : List Line) (figures : List ℕ) (groups : List Group) (shares : List Share) where
  -- what correction has done when the first n contracts are done
  pub record Done (n : ℕ) (gb ga sb sa : List ℤ) : Type 0 where
    pub group_parts : (j : ℕ) → j < n → (c : Contract) → c ≡ get_or contracts j c →
        plans_of_groups c.number groups ga ≡ signed_parts (net_of c.number lines figures) (first (nat_abs (net_of c.number lines figures)) (group_claims c.number groups shares))
    pub share_parts : (j : ℕ) → j < n → (c : Contract) → c ≡ get_or contracts j c → (k : ℕ) (g : Group) → k < length groups → g ≡ get_or groups k g → g.contract ≡ c.number →
        plans_of_shares g.number shares sa ≡ signed_parts (get_or ga k (pos 0)) (second (nat_abs (get_or ga k (pos 0))) (share_claims g.number shares))
    pub other_groups : (k : ℕ) (g : Group) → k < length groups → g ≡ get_or groups k g → ((j : ℕ) → j < n → (c : Contract) → c ≡ get_or contracts j c → c.number ≡ g.contract → ⊥) → get_or ga k (pos 0) ≡ get_or gb k (pos 0)
    pub other_shares : (i : ℕ) (s : Share) → i < length shares → s ≡ get_or shares i s → AllByRecursion (λ g. g.number ≡ s.group → ⊥) groups → get_or sa i (pos 0) ≡ get_or sb i (pos 0)

  pub done_none : (gb sb : List ℤ) → Done 0 gb gb sb sb
  done_none gb sb = record {
    group_parts = λ j h. absurd (omega arith);
    share_parts = λ j h. absurd (omega arith);
    other_groups = λ k g h e a. refl;
    other_shares = λ i s h e a. refl;
  }

  pub done_all : (n : ℕ) (gb ga sb sa : List ℤ) → n ≡ length contracts → Done n gb ga sb sa → PlansCorrected first second contracts lines figures groups shares gb ga sb sa
  done_all n gb ga sb sa h d = record {
    group_parts = λ j c l e. d.group_parts j (omega arith) c e;
    share_parts = λ j c l e. d.share_parts j (omega arith) c e;
    other_groups = λ k g l e a. d.other_groups k g l e (λ j m c r q. All-get_or (λ x. x.number ≡ g.contract → ⊥) contracts j c (omega arith) a (ap (λ x. x.number) (sym r) ∙ q));
    other_shares = d.other_shares;
  }

  -- one contract more
  module _ (apart-contracts : Apart (λ (c : Contract). c.number) contracts) (apart-groups : Apart (λ (g : Group). g.number) groups) (n : ℕ) (x : Contract) (within : n < length contracts) (read : x ≡ get_or contracts n x)
      (gb ga sb sa ga' sa' : List ℤ) (lg : length ga ≡ length groups) (lg' : length ga' ≡ length groups) (ls : length sa ≡ length shares) (ls' : length sa' ≡ length shares)
      (step : PlanCorrected first second x.number (net_of x.number lines figures) groups shares ga ga' sa sa') where
    -- a contract before it has another number
    other : (j : ℕ) → j < n → (c : Contract) → c ≡ get_or contracts j c → c.number ≡ x.number → ⊥
    other j l c e = apart-at (λ (y : Contract). y.number) contracts apart-contracts j n c x l within e read

    -- so the figures of its groups stay
    groups_stay : (m : ℕ) → (m ≡ x.number → ⊥) → plans_of_groups m groups ga' ≡ plans_of_groups m groups ga
    groups_stay m ne = figures-same (λ (g : Group). g.contract) m groups ga' ga lg' lg (λ k g h e o. step.heads_shared.others k g h e (λ z. ne (sym o ∙ z)))

    -- and the plans of the shares of a group of it
    shares_stay : (k : ℕ) (g : Group) → k < length groups → g ≡ get_or groups k g → (g.contract ≡ x.number → ⊥) → plans_of_shares g.number shares sa' ≡ plans_of_shares g.number shares sa
    shares_stay k g h e ne =
        figures-same (λ (s : Share). s.group) g.number shares sa' sa ls' ls (λ i s l r o. step.others i s l r (free_of (λ (q : Group). q.contract) (λ (q : Group). q.number) x.number s.group groups apart-groups k g h e o ne))

    pub done_more : Done n gb ga sb sa → Done (n + 1) gb ga' sb sa'
    done_more d = record {
      group_parts = below_more _ n
          (λ j l c e. groups_stay c.number (other j l c e) ∙ d.group_parts j l c e)
          (λ c e.
          let same : x ≡ c = one-read contracts n x c within read e in
          subst (λ (y : Contract). plans_of_groups y.number groups ga' ≡ signed_parts (net_of y.number lines figures) (first (nat_abs (net_of y.number lines figures)) (group_claims y.number groups shares))) same step.heads_shared.parts);
      share_parts = below_more _ n
          (λ j l c e k g h r o.
          let ne : g.contract ≡ x.number → ⊥ = λ z. other j l c e (sym o ∙ z) in
          let kept : get_or ga' k (pos 0) ≡ get_or ga k (pos 0) = step.heads_shared.others k g h r ne in
          shares_stay k g h r ne ∙ d.share_parts j l c e k g h r o ∙ sym (ap (λ (z : ℤ). signed_parts z (second (nat_abs z) (share_claims g.number shares))) kept))
          (λ c e k g h r o. step.parts k g h r (o ∙ sym (ap (λ (y : Contract). y.number) (one-read contracts n x c within read e))));
      other_groups = λ k g h e a. step.heads_shared.others k g h e (λ z. a n (omega arith) x read (sym z)) ∙ d.other_groups k g h e (λ j l c r. a j (omega arith) c r);
      other_shares = λ i s h e a. step.others i s h e (free_all (λ (q : Group). q.contract) (λ (q : Group). q.number) x.number s.group groups a) ∙ d.other_shares i s h e a;
    }
