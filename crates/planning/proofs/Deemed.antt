-- Deemed plans, planned shares and claims of groups stay inside the limits of a division.
use Rattle.std.proofs.Common.{ℕ, ◌+◌, ◌*◌, ◌≤◌, Bool, true, false, cond, eqb, List, [], ◌∷◌, length, pos, ◌-ℤ◌, nat_abs, sum_by, sum, suc-mul, arith}
use Rattle.std.specs.List.{AllByRecursion}
use Rattle.std.proofs.lemmas.Int.{ints}
use Rattle.std.proofs.ByRecursion.{sum_by_le}
use Rattle.tables.specs.Carried.{claims_of}
use Rattle.tables.proofs.Carrying.{sum-cons}
use Rattle.terms.specs.declared.records.Group.{Group}
use Rattle.terms.specs.declared.records.GroupSort.{GroupSort}
use Rattle.terms.specs.declared.records.GroupSort.TheVariants.{Generation, Curtailment}
use Rattle.terms.specs.declared.records.Share.{Share}
use Rattle.terms.specs.Plans.{plan_in, plan_of, claim_in}
use Rattle.sharing.proofs.Levelling.{claimed-within}
use Rattle.planning.specs.declared.holdings.Holdings.{Holdings}
use Rattle.planning.specs.Plans.{Limits, group_claims}

pub apart-small : (a b m : ℕ) → a ≤ m → b ≤ m → nat_abs (pos a -ℤ pos b) ≤ m
apart-small a b m h k = omega (arith, ints)

pub shares-light : (ss : List Share) → length ss ≤ 256 → AllByRecursion (λ s. s.planned ≤ 2000000) ss → sum_by (λ (s : Share). s.planned) ss ≤ 512000000
shares-light ss f p = omega (arith, sum_by_le (λ (s : Share). s.planned) 2000000 ss p)

claim_within : (sort : GroupSort) (together : ℕ) → claim_in sort together ≤ together + plan_in sort
claim_within Generation together = omega arith
claim_within (Curtailment c) together = omega arith

-- what groups claim is no more than their shares and their own plans come to
claims_split : (t : Group → ℕ) (c : ℕ) (gs : List Group) → AllByRecursion (λ g. plan_of g ≤ 2000000) gs →
    sum (claims_of (λ (g : Group). g.contract) (λ (g : Group). claim_in g.sort (t g)) c gs) ≤ sum (claims_of (λ (g : Group). g.contract) t c gs) + length gs * 2000000
claims_split t c [] s = omega arith
claims_split t c (g ∷ gs) s = go (eqb g.contract c) (claims_split t c gs s.1)
  where
    go : (b : Bool) → sum (claims_of (λ (h : Group). h.contract) (λ (h : Group). claim_in h.sort (t h)) c gs) ≤ sum (claims_of (λ (h : Group). h.contract) t c gs) + length gs * 2000000 →
        sum (cond b (claim_in g.sort (t g) ∷ claims_of (λ (h : Group). h.contract) (λ (h : Group). claim_in h.sort (t h)) c gs) (claims_of (λ (h : Group). h.contract) (λ (h : Group). claim_in h.sort (t h)) c gs))
        ≤ sum (cond b (t g ∷ claims_of (λ (h : Group). h.contract) t c gs) (claims_of (λ (h : Group). h.contract) t c gs)) + length (g ∷ gs) * 2000000
    go true h =
        omega (arith, sum-cons (claim_in g.sort (t g)) (claims_of (λ (h : Group). h.contract) (λ (h : Group). claim_in h.sort (t h)) c gs), sum-cons (t g) (claims_of (λ (h : Group). h.contract) t c gs), claim_within g.sort (t g), s.0, suc-mul (length gs) 2000000)
    go false h = omega (arith, suc-mul (length gs) 2000000)

pub claims-light : (c : ℕ) (gs : List Group) (ss : List Share) → Limits gs ss → sum (group_claims c gs ss) ≤ 6144000000
claims-light c gs ss l =
    omega (
      arith,
      claims_split (λ (g : Group). sum (claims_of (λ (s : Share). s.group) (λ (s : Share). s.planned) g.number ss)) c gs l.plans,
      claimed-within (λ (g : Group). g.contract) (λ (g : Group). g.number) (λ (s : Share). s.group) (λ (s : Share). s.planned) c ss gs l.apart,
      shares-light ss l.few_shares l.planned,
      l.few_groups,
    )

-- groups and shares that are held keep the limits of a book
pub limits_of : (h : Holdings) → Limits h.groups.now h.shares.now
limits_of h = record { few_groups = h.few_groups; few_shares = h.few_shares; apart = h.apart; plans = h.plans; planned = h.planned }
