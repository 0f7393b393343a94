-- The claims in turn: at most one of each rank, each of them listed, and together no more than the plans.
use Rattle.std.proofs.Common.{◌≡◌, ℕ, zero, suc, ◌+◌, ◌<◌, ◌≤◌, Bool, true, false, cond, ◌&&◌, eqb, leb, List, [], ◌∷◌, map, length, ℤ, pos, negsuc, nat_abs, Some, None, sum, Option, sym, refl, subst, arith}
use Rattle.std.specs.List.{AllByRecursion}
use Rattle.std.proofs.lemmas.Bool.{both_ways, eqb-true, eqb-false, eq-eqb, leb-true, leb-false}
use Rattle.tables.specs.Carried.{carried_if}
use Rattle.tables.specs.Keys.{first_of, count_if}
use Rattle.tables.proofs.Adding.{first_passes, first-counts}
use Rattle.tables.proofs.Carrying.{sum-cons}
use Rattle.terms.specs.declared.records.Share.{Share}
use Rattle.allotment.specs.declared.claims.Claim.{Claim}
use Rattle.allotment.specs.Claims.{claimed, claim_of, claims_at, before, turns_from, in_turn}
use Rattle.allotment.specs.Output.{amounts, is_at}
use Rattle.allotment.specs.Laws.{TurnsStayWithin}

-- the claim has this rank
abbrev pub of_rank : ℕ → Claim → Bool
of_rank rank c = eqb c.rank rank

-- what a claim takes, where there is one
abbrev taken : Option Claim → ℕ
taken None = 0
taken (Some c) = c.kwh

-- what the claims of this rank and later ones take
abbrev later : ℕ → List Claim → ℕ
later rank claims = sum (carried_if (λ (c : Claim). leb rank c.rank) (λ (c : Claim). c.kwh) claims)

-- arithmetic that the steps below need
now_or_later : (rank q : ℕ) → leb rank q ≡ false → leb (rank + 1) q ≡ true → ⊥
now_or_later rank q a b = let l = leb-false rank q a in let m = leb-true (rank + 1) q b in omega arith

module _ (claims : List Claim) where
  abbrev found : ℕ → Option Claim
  found rank = first_of (of_rank rank) claims

  -- at most one claim for each rank
  pub turns-few : (rank n : ℕ) → length (turns_from rank n claims) ≤ n
  unfolding turns_from
  turns-few rank zero = omega arith
  turns-few rank (suc n) = go (found rank) (turns-few (rank + 1) n)
    where
      go : (o : Option Claim) → length (turns_from (rank + 1) n claims) ≤ n → length (before o (turns_from (rank + 1) n claims)) ≤ suc n
      go None h = omega arith
      go (Some c) h = omega arith

  -- none has an earlier rank
  turns-before : (r rank n : ℕ) → r < rank → count_if (of_rank r) (turns_from rank n claims) ≡ 0
  unfolding turns_from
  turns-before r rank zero h = refl
  turns-before r rank (suc n) h = go (found rank) refl (turns-before r (rank + 1) n (omega arith))
    where
      go : (o : Option Claim) → found rank ≡ o → count_if (of_rank r) (turns_from (rank + 1) n claims) ≡ 0 → count_if (of_rank r) (before o (turns_from (rank + 1) n claims)) ≡ 0
      go None e more = more
      go (Some c) e more = here (eqb c.rank r) refl
        where
          here : (b : Bool) → eqb c.rank r ≡ b → cond b 1 0 + count_if (of_rank r) (turns_from (rank + 1) n claims) ≡ 0
          here true q = absurd (omega (arith, eqb-true c.rank r q, eqb-true c.rank rank (first_passes (of_rank rank) claims c e).0))
          here false q = omega arith

  -- no two have one rank
  pub turns-once : (r rank n : ℕ) → count_if (of_rank r) (turns_from rank n claims) ≤ 1
  unfolding turns_from
  turns-once r rank zero = omega arith
  turns-once r rank (suc n) = go (found rank) refl (turns-once r (rank + 1) n)
    where
      go : (o : Option Claim) → found rank ≡ o → count_if (of_rank r) (turns_from (rank + 1) n claims) ≤ 1 → count_if (of_rank r) (before o (turns_from (rank + 1) n claims)) ≤ 1
      go None e more = more
      go (Some c) e more = here (eqb c.rank r) refl
        where
          here : (b : Bool) → eqb c.rank r ≡ b → cond b 1 0 + count_if (of_rank r) (turns_from (rank + 1) n claims) ≤ 1
          here true q =
              let early : r < rank + 1 = omega (arith, eqb-true c.rank r q, eqb-true c.rank rank (first_passes (of_rank rank) claims c e).0) in
              omega (arith, turns-before r (rank + 1) n early)
          here false q = omega arith

  -- each has the rank of a claim that is listed
  pub turns-listed : (rank n : ℕ) → AllByRecursion (λ (t : Claim). 1 ≤ count_if (of_rank t.rank) claims) (turns_from rank n claims)
  unfolding turns_from
  turns-listed rank zero = tt
  turns-listed rank (suc n) = go (found rank) refl (turns-listed (rank + 1) n)
    where
      go : (o : Option Claim) → found rank ≡ o → AllByRecursion (λ (t : Claim). 1 ≤ count_if (of_rank t.rank) claims) (turns_from (rank + 1) n claims) →
          AllByRecursion (λ (t : Claim). 1 ≤ count_if (of_rank t.rank) claims) (before o (turns_from (rank + 1) n claims))
      go None e more = more
      go (Some c) e more =
          let here = first_passes (of_rank rank) claims c e in
          (subst (λ (r : ℕ). 1 ≤ count_if (of_rank r) claims) (sym (eqb-true c.rank rank here.0)) here.1, more)

  -- a rank that a claim has comes up in its turn
  turns-held : (r rank n : ℕ) → 1 ≤ count_if (of_rank r) claims → rank ≤ r → r < rank + n → 1 ≤ length (turns_from rank n claims)
  unfolding turns_from
  turns-held r rank zero some l h = absurd (omega arith)
  turns-held r rank (suc n) some l h = go (found rank) refl (λ m. turns-held r (rank + 1) n some m (omega arith))
    where
      go : (o : Option Claim) → found rank ≡ o → (rank + 1 ≤ r → 1 ≤ length (turns_from (rank + 1) n claims)) → 1 ≤ length (before o (turns_from (rank + 1) n claims))
      go None e more = more (above (eqb rank r) refl)
        where
          above : (b : Bool) → eqb rank r ≡ b → rank + 1 ≤ r
          above true q =
              let none : count_if (of_rank r) claims ≡ 0 = subst (λ (k : ℕ). count_if (of_rank k) claims ≡ 0) (eqb-true rank r q) (first-counts (of_rank rank) claims e) in
              absurd (omega arith)
          above false q = apart rank r l (eqb-false rank r q)
            where
              apart : (a b : ℕ) → a ≤ b → (a ≡ b → ⊥) → a + 1 ≤ b
              apart a b i u = omega arith
      go (Some c) e more = omega arith

-- where claims have ranks from 1 to 99 and there is one, there is one in turn
pub turns-some : (claims : List Claim) → AllByRecursion (λ (c : Claim). (1 ≤ c.rank) × (c.rank ≤ 99)) claims → 1 ≤ length claims → 1 ≤ length (in_turn claims)
turns-some [] within some = absurd (omega arith)
turns-some (c ∷ cs) within some = turns-held (c ∷ cs) c.rank 1 99 (counted (eqb c.rank c.rank) (eq-eqb c.rank c.rank refl)) within.0.0 (below c.rank within.0.1)
  where
    counted : (b : Bool) → b ≡ true → 1 ≤ cond b 1 0 + count_if (of_rank c.rank) cs
    counted true q = omega arith
    counted false q = absurd (both_ways false refl q)

    below : (r : ℕ) → r ≤ 99 → r < 1 + 99
    below r h = omega arith

-- the first claim of a rank is one of this rank and later ones
first-light : (rank : ℕ) (claims : List Claim) → taken (first_of (of_rank rank) claims) + later (rank + 1) claims ≤ later rank claims
first-light rank [] = omega arith
first-light rank (c ∷ cs) = go (eqb c.rank rank) (leb rank c.rank) (leb (rank + 1) c.rank) refl refl refl (first-light rank cs)
  where
    kwhs : ℕ → List ℕ
    kwhs r = carried_if (λ (c : Claim). leb r c.rank) (λ (c : Claim). c.kwh) cs

    go : (a b d : Bool) → eqb c.rank rank ≡ a → leb rank c.rank ≡ b → leb (rank + 1) c.rank ≡ d → taken (first_of (of_rank rank) cs) + later (rank + 1) cs ≤ later rank cs →
        taken (cond a (Some c) (first_of (of_rank rank) cs)) + sum (cond d (c.kwh ∷ kwhs (rank + 1)) (kwhs (rank + 1))) ≤ sum (cond b (c.kwh ∷ kwhs rank) (kwhs rank))
    go true b true p q r more = absurd (omega (arith, eqb-true c.rank rank p, leb-true (rank + 1) c.rank r))
    go true false false p q r more = absurd (omega (arith, eqb-true c.rank rank p, leb-false rank c.rank q))
    go true true false p q r more = omega (arith, sum-cons c.kwh (kwhs rank))
    go false true true p q r more = omega (arith, sum-cons c.kwh (kwhs rank), sum-cons c.kwh (kwhs (rank + 1)))
    go false true false p q r more = omega (arith, sum-cons c.kwh (kwhs rank))
    go false false true p q r more = absurd (now_or_later rank c.rank q r)
    go false false false p q r more = more

turns-light : (claims : List Claim) (rank n : ℕ) → sum (amounts (turns_from rank n claims)) ≤ later rank claims
unfolding turns_from
turns-light claims rank zero = omega arith
turns-light claims rank (suc n) = go (first_of (of_rank rank) claims) (first-light rank claims) (turns-light claims (rank + 1) n)
  where
    go : (o : Option Claim) → taken o + later (rank + 1) claims ≤ later rank claims → sum (amounts (turns_from (rank + 1) n claims)) ≤ later (rank + 1) claims →
        sum (amounts (before o (turns_from (rank + 1) n claims))) ≤ later rank claims
    go None h more = omega arith
    go (Some c) h more = omega (arith, sum-cons c.kwh (amounts (turns_from (rank + 1) n claims)))

later-light : (rank : ℕ) (claims : List Claim) → later rank claims ≤ sum (amounts claims)
later-light rank [] = omega arith
later-light rank (c ∷ cs) = go (leb rank c.rank) (later-light rank cs)
  where
    kwhs : List ℕ
    kwhs = carried_if (λ (c : Claim). leb rank c.rank) (λ (c : Claim). c.kwh) cs

    go : (b : Bool) → sum kwhs ≤ sum (amounts cs) → sum (cond b (c.kwh ∷ kwhs) kwhs) ≤ sum (c.kwh ∷ amounts cs)
    go true more = omega (arith, sum-cons c.kwh kwhs, sum-cons c.kwh (amounts cs))
    go false more = omega (arith, sum-cons c.kwh (amounts cs))

-- a claim is no larger than its plan
claimed-light : (x : ℤ) → claimed x ≤ nat_abs x
claimed-light (pos n) = omega arith
claimed-light (negsuc n) = omega arith

module _ (plant : ℕ) where
  claims-light : (shares : List Share) (plans : List ℤ) → sum (amounts (claims_at plant shares plans)) ≤ sum (map nat_abs plans)
  claims-light [] plans = omega arith
  claims-light (s ∷ ss) [] = omega arith
  claims-light (s ∷ ss) (x ∷ xs) = go (eqb s.plant plant) (claims-light ss xs)
    where
      rest : List Claim
      rest = claims_at plant ss xs

      go : (b : Bool) → sum (amounts rest) ≤ sum (map nat_abs xs) → sum (amounts (cond b (claim_of s x ∷ rest) rest)) ≤ sum (nat_abs x ∷ map nat_abs xs)
      go true more = omega (arith, sum-cons (claimed x) (amounts rest), sum-cons (nat_abs x) (map nat_abs xs), claimed-light x)
      go false more = omega (arith, sum-cons (nat_abs x) (map nat_abs xs))

  -- as many claims as the plant has shares
  pub claims-number : (shares : List Share) (plans : List ℤ) → length plans ≡ length shares → length (claims_at plant shares plans) ≡ count_if (is_at plant) shares
  claims-number [] plans l = refl
  claims-number (s ∷ ss) [] l = absurd (omega arith)
  claims-number (s ∷ ss) (x ∷ xs) l = go (eqb s.plant plant) (claims-number ss xs (omega arith))
    where
      go : (b : Bool) → length (claims_at plant ss xs) ≡ count_if (is_at plant) ss → length (cond b (claim_of s x ∷ claims_at plant ss xs) (claims_at plant ss xs)) ≡ cond b 1 0 + count_if (is_at plant) ss
      go true more = omega arith
      go false more = omega arith

  -- what holds of the ranks of shares holds of the ranks of claims
  pub claims-ranked : (P : ℕ → Type 0) (shares : List Share) (plans : List ℤ) → AllByRecursion (λ (s : Share). P s.rank) shares → AllByRecursion (λ (c : Claim). P c.rank) (claims_at plant shares plans)
  claims-ranked P [] plans a = tt
  claims-ranked P (s ∷ ss) [] a = tt
  claims-ranked P (s ∷ ss) (x ∷ xs) a = go (eqb s.plant plant) (claims-ranked P ss xs a.1)
    where
      go : (b : Bool) → AllByRecursion (λ (c : Claim). P c.rank) (claims_at plant ss xs) → AllByRecursion (λ (c : Claim). P c.rank) (cond b (claim_of s x ∷ claims_at plant ss xs) (claims_at plant ss xs))
      go true more = (a.0, more)
      go false more = more

  -- a claim of a rank is that of a share of the rank at the plant
  pub claims-held : (r : ℕ) (shares : List Share) (plans : List ℤ) → count_if (of_rank r) (claims_at plant shares plans) ≤ count_if (λ (s : Share). is_at plant s && eqb s.rank r) shares
  claims-held r [] plans = omega arith
  claims-held r (s ∷ ss) [] = omega arith
  claims-held r (s ∷ ss) (x ∷ xs) = go (eqb s.plant plant) (claims-held r ss xs)
    where
      held : ℕ
      held = count_if (λ (s : Share). is_at plant s && eqb s.rank r) ss

      go : (b : Bool) → count_if (of_rank r) (claims_at plant ss xs) ≤ held →
          count_if (of_rank r) (cond b (claim_of s x ∷ claims_at plant ss xs) (claims_at plant ss xs)) ≤ cond (b && eqb s.rank r) 1 0 + held
      go true more = omega arith
      go false more = omega arith

-- all the steps of `light` together
all-light : (taken later listed plans : ℕ) → taken ≤ later → later ≤ listed → listed ≤ plans → taken ≤ plans
all-light taken later listed plans a b c = omega arith

pub turns_stay_within : TurnsStayWithin
turns_stay_within plant shares plans = record {
  few = turns-few (claims_at plant shares plans) 1 99;
  light = all-light _ _ _ _ (turns-light (claims_at plant shares plans) 1 99) (later-light 1 (claims_at plant shares plans)) (claims-light plant shares plans);
}
