-- The allotted output of a plant's shares comes to its reading, and no share is allotted more.
use Rattle.std.proofs.Common.{◌≡◌, ℕ, ◌+◌, ◌≤◌, Bool, true, false, cond, ◌&&◌, eqb, List, [], ◌∷◌, length, ℤ, sum, sym, refl, ap, ◌∙◌, arith}
use lib.ListN.{length-map}
use Rattle.std.specs.List.{AllByRecursion}
use Rattle.std.proofs.ByRecursion.{All-weaker}
use Rattle.std.proofs.lemmas.Bool.{and_parts, and_from, eqb-true, eq-eqb}
use Rattle.tables.specs.Figures.{figures_if}
use Rattle.tables.specs.Keys.{count_if}
use Rattle.tables.proofs.Adding.{partition_naturals, figures-none, count_never, carried_sum}
use Rattle.tables.proofs.Apartness.{count_apart}
use Rattle.tables.proofs.Carrying.{sum-cons}
use Rattle.tables.proofs.Gathering.{count_narrower}
use Rattle.terms.specs.declared.records.Share.{Share}
use Rattle.division.specs.Terms.{Keeps}
use Rattle.allotment.specs.declared.claims.Claim.{Claim}
use Rattle.allotment.specs.Claims.{claims_at}
use Rattle.allotment.specs.Output.{part_of, amounts, turns_at, part_at, allotted_to, is_at}
use Rattle.allotment.specs.Laws.{same_turn, RanksApart, OutputAddsUp, OutputWithin}
use Rattle.allotment.proofs.Turns.{of_rank, turns-once, turns-listed, turns-some, claims-number, claims-ranked, claims-held}

-- arithmetic that the steps below need
just_one : (listed held mine : ℕ) → 1 ≤ listed → listed ≤ held → held ≤ mine → mine ≤ 1 → mine ≡ 1
just_one listed held mine a b c d = omega arith

same_number : (n m : ℕ) → n ≡ m → 1 ≤ m → 1 ≤ n
same_number n m e h = omega arith

-- where at most one claim has the rank, its part is what the parts of that rank come to
part-figures : (r : ℕ) (turns : List Claim) (parts : List ℕ) → count_if (of_rank r) turns ≤ 1 → part_of r turns parts ≡ sum (figures_if (of_rank r) turns parts)
part-figures r [] parts h = refl
part-figures r (t ∷ ts) [] h = refl
part-figures r (t ∷ ts) (p ∷ ps) h = go (eqb t.rank r) h (part-figures r ts ps)
  where
    rest : List ℕ
    rest = figures_if (of_rank r) ts ps

    go : (b : Bool) → cond b 1 0 + count_if (of_rank r) ts ≤ 1 → (count_if (of_rank r) ts ≤ 1 → part_of r ts ps ≡ sum rest) → cond b p (part_of r ts ps) ≡ sum (cond b (p ∷ rest) rest)
    go true k more = let none : sum rest ≡ 0 = ap (λ (ys : List ℕ). sum ys) (figures-none (of_rank r) ts ps (omega arith)) in omega (arith, sum-cons p rest)
    go false k more = more (omega arith)

-- a part is no more than all of them
part-light : (r : ℕ) (turns : List Claim) (parts : List ℕ) → part_of r turns parts ≤ sum parts
part-light r [] parts = omega arith
part-light r (t ∷ ts) [] = omega arith
part-light r (t ∷ ts) (p ∷ ps) = go (eqb t.rank r) (part-light r ts ps)
  where
    go : (b : Bool) → part_of r ts ps ≤ sum ps → cond b p (part_of r ts ps) ≤ sum (p ∷ ps)
    go true more = omega (arith, sum-cons p ps)
    go false more = omega (arith, sum-cons p ps)

-- a part of a reading is no more than the reading
part-within : (rule : ℕ → List ℕ → List ℕ) → Keeps rule → (reading r : ℕ) (turns : List Claim) → part_of r turns (rule reading (amounts turns)) ≤ reading
part-within rule keeps reading r [] = omega arith
part-within rule keeps reading r (t ∷ ts) =
    omega (arith, part-light r (t ∷ ts) (rule reading (amounts (t ∷ ts))), keeps.all reading (amounts (t ∷ ts)) (omega arith))

pub output-within : OutputWithin
output-within rule keeps reads shares plans s = part-within rule keeps (reads s.plant) s.rank (turns_at s.plant shares plans)

-- the claim is that of a share at the plant
abbrev mine : ℕ → Share → Claim → Bool
mine plant s t = is_at plant s && eqb t.rank s.rank

module _ (plant : ℕ) (shares : List Share) (plans : List ℤ) (ranks : RanksApart shares) where
  -- each claim in turn is that of just one share
  each-one : AllByRecursion (λ (t : Claim). count_if (λ (s : Share). mine plant s t) shares ≡ 1) (turns_at plant shares plans)
  each-one =
      All-weaker (λ (t : Claim). 1 ≤ count_if (of_rank t.rank) (claims_at plant shares plans)) (λ (t : Claim). count_if (λ (s : Share). mine plant s t) shares ≡ 1) one
      (turns_at plant shares plans) (turns-listed (claims_at plant shares plans) 1 99)
    where
      told : (t : Claim) (s u : Share) → mine plant s t ≡ true → mine plant u t ≡ true → same_turn s u ≡ true
      told t s u a b =
          let p = and_parts (is_at plant s) (eqb t.rank s.rank) a in
          let q = and_parts (is_at plant u) (eqb t.rank u.rank) b in
          and_from _ _ (eq-eqb s.plant u.plant (eqb-true s.plant plant p.0 ∙ sym (eqb-true u.plant plant q.0)))
          (eq-eqb s.rank u.rank (sym (eqb-true t.rank s.rank p.1) ∙ eqb-true t.rank u.rank q.1))

      turned : (t : Claim) (s : Share) → (is_at plant s && eqb s.rank t.rank) ≡ true → mine plant s t ≡ true
      turned t s a =
          let p = and_parts (is_at plant s) (eqb s.rank t.rank) a in
          and_from _ _ p.0 (eq-eqb t.rank s.rank (sym (eqb-true s.rank t.rank p.1)))

      one : (t : Claim) → 1 ≤ count_if (of_rank t.rank) (claims_at plant shares plans) → count_if (λ (s : Share). mine plant s t) shares ≡ 1
      one t some =
          just_one _ _ _ some (claims-held plant t.rank shares plans) (count_narrower (λ (s : Share). is_at plant s && eqb s.rank t.rank) (λ (s : Share). mine plant s t) (turned t) shares)
          (count_apart same_turn (λ (s : Share). mine plant s t) shares ranks.apart (told t))

  -- a plant with a share has a claim in turn
  some_turn : length plans ≡ length shares → 1 ≤ count_if (is_at plant) shares → 1 ≤ length (turns_at plant shares plans)
  some_turn l some =
      turns-some (claims_at plant shares plans) (claims-ranked plant (λ (r : ℕ). (1 ≤ r) × (r ≤ 99)) shares plans ranks.within)
      (same_number _ _ (claims-number plant shares plans l) some)

pub output-adds_up : OutputAddsUp
output-adds_up rule keeps reads shares plans l ranks plant some =
    carried_sum (is_at plant) (allotted_to rule reads shares plans) (λ (s : Share). sum (figures_if (mine plant s) turns parts)) shares here elsewhere
    ∙ partition_naturals (mine plant) (λ x. x) shares turns parts (keeps.each (reads plant) (amounts turns) ∙ number) (each-one plant shares plans ranks)
    ∙ keeps.all (reads plant) (amounts turns) (same_number _ _ number (some_turn plant shares plans ranks l some))
  where
    turns : List Claim
    turns = turns_at plant shares plans

    parts : List ℕ
    parts = rule (reads plant) (amounts turns)

    number : length (amounts turns) ≡ length turns
    number = length-map turns (λ (c : Claim). c.kwh)

    here : (s : Share) → is_at plant s ≡ true → allotted_to rule reads shares plans s ≡ sum (figures_if (mine plant s) turns parts)
    here s q =
        ap (λ (p : ℕ). part_at rule p (reads p) shares plans s) (eqb-true s.plant plant q)
        ∙ part-figures s.rank turns parts (turns-once (claims_at plant shares plans) s.rank 1 99)
        ∙ ap (λ (b : Bool). sum (figures_if (λ (t : Claim). b && eqb t.rank s.rank) turns parts)) (sym q)

    elsewhere : (s : Share) → is_at plant s ≡ false → sum (figures_if (mine plant s) turns parts) ≡ 0
    elsewhere s q =
        ap (λ (b : Bool). sum (figures_if (λ (t : Claim). b && eqb t.rank s.rank) turns parts)) q
        ∙ ap (λ (ys : List ℕ). sum ys) (figures-none (λ (t : Claim). false) turns parts (count_never turns))
