-- Two levels: what heads claim together, the steps of the loop over heads, and where the members' parts stand and what they come to.
use Rattle.std.proofs.Common.{◌≡◌, ℕ, zero, suc, ◌+◌, ◌<◌, ◌≤◌, Bool, true, false, cond, eqb, List, [], ◌∷◌, length, get_or, drop, ℤ, pos, sum_by, sum, sym, refl, ap, ◌∙◌, arith}
use Rattle.std.specs.List.{AllByRecursion}
use Rattle.std.proofs.lemmas.List.{drop_more, at_drop_more, drop_all}
use Rattle.std.proofs.lemmas.List.Sums.{sum_by-cons}
use Rattle.std.proofs.lemmas.Bool.{eq-eqb, ne_eqb, eqb-true, cond-true, cond-false}
use Rattle.tables.specs.Carried.{claims_of}
use Rattle.tables.proofs.Carrying.{sum-cons}
use Rattle.division.specs.Terms.{Keeps}
use Rattle.sharing.specs.Owners.{count_of, figures_of, added_up, parts_for, shared}
use Rattle.sharing.specs.Levels.{Apart, claim_of, figures_of_heads, figures_of_members, SharedOnLevels}
use Rattle.sharing.proofs.Placing.{length-shared, shared_out, shared-parts, parts_add, shared_keeps, figures-others}

-- what one owner's rows carry is no more than what all carry
pub claims-within : {T : Type 0} (owned carried : T → ℕ) (o : ℕ) (rows : List T) → sum (claims_of owned carried o rows) ≤ sum_by carried rows
claims-within owned carried o [] = omega arith
claims-within owned carried o (r ∷ rs) = go (eqb (owned r) o) (claims-within owned carried o rs)
  where
    go : (b : Bool) → sum (claims_of owned carried o rs) ≤ sum_by carried rs → sum (cond b (carried r ∷ claims_of owned carried o rs) (claims_of owned carried o rs)) ≤ sum_by carried (r ∷ rs)
    go true h = omega (arith, sum-cons (carried r) (claims_of owned carried o rs), sum_by-cons carried r rs)
    go false h = omega (arith, sum_by-cons carried r rs)

module _ {H M : Type 0} (owned numbered : H → ℕ) (belongs carried : M → ℕ) where
  abbrev told : List M → ℕ → ℕ
  told ms n = sum (claims_of belongs carried n ms)

  -- what the heads of owner o claim together
  abbrev claimed : ℕ → List M → List H → ℕ
  claimed o ms hs = sum (claims_of owned (λ h. told ms (numbered h)) o hs)

  -- what one member adds to that
  abbrev adds : ℕ → M → List H → ℕ
  adds o m [] = 0
  adds o m (h ∷ hs) = cond (eqb (owned h) o) (cond (eqb (belongs m) (numbered h)) (carried m) 0) 0 + adds o m hs

  told-cons : (m : M) (ms : List M) (n : ℕ) → told (m ∷ ms) n ≡ cond (eqb (belongs m) n) (carried m) 0 + told ms n
  told-cons m ms n = go (eqb (belongs m) n)
    where
      go : (b : Bool) → sum (cond b (carried m ∷ claims_of belongs carried n ms) (claims_of belongs carried n ms)) ≡ cond b (carried m) 0 + told ms n
      go true = sum-cons (carried m) (claims_of belongs carried n ms)
      go false = omega arith

  claimed-none : (o : ℕ) (hs : List H) → claimed o [] hs ≡ 0
  claimed-none o [] = refl
  claimed-none o (h ∷ hs) = go (eqb (owned h) o) (claimed-none o hs)
    where
      go : (b : Bool) → claimed o [] hs ≡ 0 → sum (cond b (0 ∷ claims_of owned (λ h. told [] (numbered h)) o hs) (claims_of owned (λ h. told [] (numbered h)) o hs)) ≡ 0
      go true e = sum-cons 0 (claims_of owned (λ h. told [] (numbered h)) o hs) ∙ omega (arith, e)
      go false e = e

  claimed-cons : (o : ℕ) (m : M) (ms : List M) (hs : List H) → claimed o (m ∷ ms) hs ≡ adds o m hs + claimed o ms hs
  claimed-cons o m ms [] = refl
  claimed-cons o m ms (h ∷ hs) = go (eqb (owned h) o) (claimed-cons o m ms hs)
    where
      go : (b : Bool) → claimed o (m ∷ ms) hs ≡ adds o m hs + claimed o ms hs →
          sum (cond b (told (m ∷ ms) (numbered h) ∷ claims_of owned (λ h. told (m ∷ ms) (numbered h)) o hs) (claims_of owned (λ h. told (m ∷ ms) (numbered h)) o hs))
          ≡ (cond b (cond (eqb (belongs m) (numbered h)) (carried m) 0) 0 + adds o m hs)
          + sum (cond b (told ms (numbered h) ∷ claims_of owned (λ h. told ms (numbered h)) o hs) (claims_of owned (λ h. told ms (numbered h)) o hs))
      go true e =
          let a = sum-cons (told (m ∷ ms) (numbered h)) (claims_of owned (λ h. told (m ∷ ms) (numbered h)) o hs) in
          let b = sum-cons (told ms (numbered h)) (claims_of owned (λ h. told ms (numbered h)) o hs) in
          let p = told-cons m ms (numbered h) in
          omega (arith, a, b, p, e)
      go false e = omega (arith, e)

  adds_none : (o : ℕ) (m : M) (n : ℕ) (hs : List H) → belongs m ≡ n → AllByRecursion (λ h. numbered h ≡ n → ⊥) hs → adds o m hs ≡ 0
  adds_none o m n [] e a = refl
  adds_none o m n (h ∷ hs) e a =
      let f : eqb (belongs m) (numbered h) ≡ false = ne_eqb (belongs m) (numbered h) (λ z. a.0 (sym z ∙ e)) in
      go (eqb (owned h) o) (eqb (belongs m) (numbered h)) f (adds_none o m n hs e a.1)
    where
      go : (b t : Bool) → t ≡ false → adds o m hs ≡ 0 → cond b (cond t (carried m) 0) 0 + adds o m hs ≡ 0
      go true true f h = absurd (let z : ◌≡◌ {A = ℕ} 0 1 = cc in omega arith)
      go true false f h = omega (arith, h)
      go false t f h = omega (arith, h)

  adds_little : (o : ℕ) (m : M) (hs : List H) → Apart numbered hs → adds o m hs ≤ carried m
  adds_little o m [] a = omega arith
  adds_little o m (h ∷ hs) a = go (eqb (owned h) o) (eqb (belongs m) (numbered h)) refl (adds_little o m hs a.1)
    where
      go : (b t : Bool) → eqb (belongs m) (numbered h) ≡ t → adds o m hs ≤ carried m → cond b (cond t (carried m) 0) 0 + adds o m hs ≤ carried m
      go true true f h' = let z = adds_none o m (numbered h) hs (eqb-true (belongs m) (numbered h) f) a.0 in omega (arith, z)
      go true false f h' = omega (arith, h')
      go false t f h' = omega (arith, h')

  -- heads apart claim no more than the members carry
  pub claimed-within : (o : ℕ) (ms : List M) (hs : List H) → Apart numbered hs → claimed o ms hs ≤ sum_by carried ms
  claimed-within o [] hs a = omega (arith, claimed-none o hs)
  claimed-within o (m ∷ ms) hs a = omega (arith, claimed-cons o m ms hs, adds_little o m hs a, claimed-within o ms hs a, sum_by-cons carried m ms)

  -- one turn of the loop that divides the heads' parts, at the head x
  module _ (rule : ℕ → List ℕ → List ℕ) (o : ℕ) (ms : List M) (hs : List H) (ps : List ℤ) (k : ℕ) (x : H) (within : k < length hs) (read : x ≡ get_or hs k x) (l : k < length ps) where
    spread_at : (xs : List ℤ) → figures_of_members rule owned numbered belongs carried o ms (drop k hs) (drop k ps) xs
        ≡ figures_of_members rule owned numbered belongs carried o ms (drop (k + 1) hs) (drop (k + 1) ps) (cond (eqb (owned x) o) (shared rule belongs carried (numbered x) (get_or ps k (pos 0)) ms xs) xs)
    spread_at xs =
        ap (λ q. figures_of_members rule owned numbered belongs carried o ms (drop k hs) q xs) (drop_more ps k (pos 0) l)
        ∙ at_drop_more (λ q. figures_of_members rule owned numbered belongs carried o ms q (get_or ps k (pos 0) ∷ drop (k + 1) ps) xs) hs k x within
        ∙ ap (λ y. figures_of_members rule owned numbered belongs carried o ms (drop (k + 1) hs) (drop (k + 1) ps) (cond (eqb (owned y) o) (shared rule belongs carried (numbered y) (get_or ps k (pos 0)) ms xs) xs)) (sym read)

    pub spread_yes : (xs new all : List ℤ) → owned x ≡ o → new ≡ shared rule belongs carried (numbered x) (get_or ps k (pos 0)) ms xs →
        figures_of_members rule owned numbered belongs carried o ms (drop k hs) (drop k ps) xs ≡ all → figures_of_members rule owned numbered belongs carried o ms (drop (k + 1) hs) (drop (k + 1) ps) new ≡ all
    spread_yes xs new all m e inv =
        ap (figures_of_members rule owned numbered belongs carried o ms (drop (k + 1) hs) (drop (k + 1) ps)) (e ∙ sym (cond-true _ _ _ (eq-eqb (owned x) o m))) ∙ sym (spread_at xs) ∙ inv

    pub spread_no : (xs all : List ℤ) → (owned x ≡ o → ⊥) →
        figures_of_members rule owned numbered belongs carried o ms (drop k hs) (drop k ps) xs ≡ all → figures_of_members rule owned numbered belongs carried o ms (drop (k + 1) hs) (drop (k + 1) ps) xs ≡ all
    spread_no xs all m inv =
        ap (figures_of_members rule owned numbered belongs carried o ms (drop (k + 1) hs) (drop (k + 1) ps)) (sym (cond-false _ _ _ (ne_eqb (owned x) o m))) ∙ sym (spread_at xs) ∙ inv

  pub spread_all : (rule : ℕ → List ℕ → List ℕ) (o : ℕ) (ms : List M) (hs : List H) (ps xs all : List ℤ) (k : ℕ) → length hs ≤ k →
      figures_of_members rule owned numbered belongs carried o ms (drop k hs) (drop k ps) xs ≡ all → xs ≡ all
  spread_all rule o ms hs ps xs all k h inv = sym (ap (λ q. figures_of_members rule owned numbered belongs carried o ms q (drop k ps) xs) (drop_all k hs h)) ∙ inv

module _ {H M : Type 0} (rule : ℕ → List ℕ → List ℕ) (keeps : Keeps rule) (owned numbered : H → ℕ) (belongs carried : M → ℕ) (o : ℕ) (members : List M) where
  abbrev after : List H → List ℤ → List ℤ → List ℤ
  after hs ps xs = figures_of_members rule owned numbered belongs carried o members hs ps xs

  abbrev one : H → ℤ → List ℤ → List ℤ
  one h p xs = cond (eqb (owned h) o) (shared rule belongs carried (numbered h) p members xs) xs

  length-one : (h : H) (p : ℤ) (xs : List ℤ) → length (one h p xs) ≡ length xs
  length-one h p xs = go (eqb (owned h) o)
    where
      go : (b : Bool) → length (cond b (shared rule belongs carried (numbered h) p members xs) xs) ≡ length xs
      go true = length-shared rule belongs carried (numbered h) p members xs
      go false = refl

  pub length-after : (hs : List H) (ps xs : List ℤ) → length (after hs ps xs) ≡ length xs
  length-after [] ps xs = refl
  length-after (h ∷ hs) [] xs = refl
  length-after (h ∷ hs) (p ∷ ps) xs = length-after hs ps (one h p xs) ∙ length-one h p xs

  -- a number that none of the owner's heads has keeps its members' figures
  after-others : (n : ℕ) (hs : List H) (ps xs : List ℤ) → length xs ≡ length members → AllByRecursion (λ h. owned h ≡ o → numbered h ≡ n → ⊥) hs → figures_of belongs n members (after hs ps xs) ≡ figures_of belongs n members xs
  after-others n [] ps xs l a = refl
  after-others n (h ∷ hs) [] xs l a = refl
  after-others n (h ∷ hs) (p ∷ ps) xs l a =
      after-others n hs ps (one h p xs) (length-one h p xs ∙ l) a.1 ∙ go (eqb (owned h) o) refl
    where
      go : (b : Bool) → eqb (owned h) o ≡ b → figures_of belongs n members (cond b (shared rule belongs carried (numbered h) p members xs) xs) ≡ figures_of belongs n members xs
      go true t = figures-others rule keeps belongs carried (numbered h) n p members xs l (λ e. a.0 (eqb-true (owned h) o t) (sym e))
      go false t = refl

  free : (n : ℕ) (hs : List H) → AllByRecursion (λ k. numbered k ≡ n → ⊥) hs → AllByRecursion (λ h. owned h ≡ o → numbered h ≡ n → ⊥) hs
  free n [] a = tt
  free n (h ∷ hs) a = ((λ m. a.0), free n hs a.1)

  -- the figures of the members of each of the owner's heads are the parts of the head's figure
  pub after-parts : (hs : List H) (ps xs : List ℤ) → length xs ≡ length members → length ps ≡ length hs → Apart numbered hs →
      (k : ℕ) (h : H) → k < length hs → h ≡ get_or hs k h → owned h ≡ o →
      figures_of belongs (numbered h) members (after hs ps xs) ≡ parts_for rule belongs carried (numbered h) (get_or ps k (pos 0)) members
  after-parts [] ps xs l q a k h lt e m = absurd (omega arith)
  after-parts (g ∷ hs) [] xs l q a k h lt e m = absurd (omega arith)
  after-parts (g ∷ hs) (p ∷ ps) xs l q a zero h lt e m =
      let n : numbered h ≡ numbered g = ap numbered e in
      let t : eqb (owned g) o ≡ true = eq-eqb (owned g) o (ap owned (sym e) ∙ m) in
      ap (λ i. figures_of belongs i members (after hs ps (one g p xs))) n
      ∙ after-others (numbered g) hs ps (one g p xs) (length-one g p xs ∙ l) (free (numbered g) hs a.0)
      ∙ ap (figures_of belongs (numbered g) members) (cond-true _ _ _ t)
      ∙ shared-parts rule keeps belongs carried (numbered g) p members xs l
      ∙ sym (ap (λ i. parts_for rule belongs carried i p members) n)
  after-parts (g ∷ hs) (p ∷ ps) xs l q a (suc k) h lt e m =
      after-parts hs ps (one g p xs) (length-one g p xs ∙ l) (omega arith) a.1 k h (omega arith) e m

  -- and come to the head's figure
  pub after-adds : (hs : List H) (ps xs : List ℤ) → length xs ≡ length members → length ps ≡ length hs → Apart numbered hs →
      (k : ℕ) (h : H) → k < length hs → h ≡ get_or hs k h → owned h ≡ o → 1 ≤ count_of belongs (numbered h) members → added_up (figures_of belongs (numbered h) members (after hs ps xs)) ≡ get_or ps k (pos 0)
  after-adds hs ps xs l q a k h lt e m some =
      ap added_up (after-parts hs ps xs l q a k h lt e m) ∙ parts_add rule keeps belongs carried (numbered h) (get_or ps k (pos 0)) members some

  -- a member of none of the owner's heads keeps its figure
  pub after_keeps : (hs : List H) (ps xs : List ℤ) (i : ℕ) (m : M) → i < length members → m ≡ get_or members i m → AllByRecursion (λ h. owned h ≡ o → numbered h ≡ belongs m → ⊥) hs → get_or (after hs ps xs) i (pos 0) ≡ get_or xs i (pos 0)
  after_keeps [] ps xs i m l e a = refl
  after_keeps (h ∷ hs) [] xs i m l e a = refl
  after_keeps (h ∷ hs) (p ∷ ps) xs i m l e a = after_keeps hs ps (one h p xs) i m l e a.1 ∙ go (eqb (owned h) o) refl
    where
      go : (b : Bool) → eqb (owned h) o ≡ b → get_or (cond b (shared rule belongs carried (numbered h) p members xs) xs) i (pos 0) ≡ get_or xs i (pos 0)
      go true t = shared_keeps rule keeps belongs carried (numbered h) p members xs i m l e (λ z. a.0 (eqb-true (owned h) o t) (sym z))
      go false t = refl

-- What the two levels do, by two rules that keep their terms.
module _ {H M : Type 0} (first second : ℕ → List ℕ → List ℕ) (keeps1 : Keeps first) (keeps2 : Keeps second) (claimed : H → ℕ → ℕ) (owned numbered : H → ℕ) (belongs carried : M → ℕ) (o : ℕ) (w : ℤ)
    (heads : List H) (members : List M) (old_heads new_heads old_members new_members : List ℤ) where
  pub shared_on_levels : Apart numbered heads → length old_heads ≡ length heads → length old_members ≡ length members →
      new_heads ≡ figures_of_heads first claimed owned numbered belongs carried o w members heads old_heads →
      new_members ≡ figures_of_members second owned numbered belongs carried o members heads new_heads old_members →
      SharedOnLevels first second claimed owned numbered belongs carried o w heads members old_heads new_heads old_members new_members
  shared_on_levels apart lh lm eh em =
      let ln : length new_heads ≡ length heads = ap length eh ∙ length-shared first owned (claim_of claimed numbered belongs carried members) o w heads old_heads ∙ lh in
      record {
        heads_shared = shared_out first keeps1 owned (claim_of claimed numbered belongs carried members) o w heads old_heads new_heads lh eh;
        parts = λ k h lt e m. ap (figures_of belongs (numbered h) members) em ∙ after-parts second keeps2 owned numbered belongs carried o members heads new_heads old_members lm ln apart k h lt e m;
        others = λ i b li ei a. ap (λ ys. get_or ys i (pos 0)) em ∙ after_keeps second keeps2 owned numbered belongs carried o members heads new_heads old_members i b li ei a;
        adds = λ k h lt e m some. ap (λ ys. added_up (figures_of belongs (numbered h) members ys)) em ∙ after-adds second keeps2 owned numbered belongs carried o members heads new_heads old_members lm ln apart k h lt e m some;
      }
