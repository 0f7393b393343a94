-- Where the parts of one owner's rows stand after a whole is shared out, and what they come to, from the rule's terms alone.
use Rattle.std.proofs.Common.{◌≡◌, ℕ, zero, suc, ◌+◌, ◌<◌, ◌≤◌, Bool, true, false, cond, eqb, List, [], ◌∷◌, map, length, get_or, drop, ℤ, pos, negsuc, ◌+ℤ◌, neg_ℤ, nat_abs, sum_by, sum, sym, refl, ap, ◌∙◌, subst, arith}
use Rattle.std.specs.List.{AllByRecursion}
use Rattle.std.proofs.lemmas.List.{length-map}
use Rattle.std.proofs.ByRecursion.{All-map, All-weaker}
use Rattle.std.proofs.lemmas.Int.{ints}
use Rattle.std.proofs.lemmas.List.Sums.{sum_by-cons}
use Rattle.std.proofs.lemmas.Bool.{eq-eqb, ne_eqb, eqb-true, cond-true, cond-false}
use Rattle.tables.specs.Carried.{claims_of}
use Rattle.tables.proofs.Carrying.{sum-cons}
use Rattle.division.specs.Signed.{with_sign, signed_parts}
use Rattle.division.specs.Terms.{Keeps}
use Rattle.division.proofs.Signs.{nat_abs-sign, parts_small}
use Rattle.sharing.specs.Owners.{count_of, figures_of, added_up, placed, parts_for, shared, SharedOut}
use Rattle.sharing.proofs.Steps.{length-claims}

module _ {T : Type 0} (owned : T → ℕ) (o : ℕ) where
  pub length-placed : (rows : List T) (ps xs : List ℤ) → length (placed owned o rows ps xs) ≡ length xs
  length-placed [] ps xs = refl
  length-placed (r ∷ rs) ps [] = refl
  length-placed (r ∷ rs) ps (x ∷ xs) = go (eqb (owned r) o) (length-placed rs (drop 1 ps) xs) (length-placed rs ps xs)
    where
      go : (b : Bool) → length (placed owned o rs (drop 1 ps) xs) ≡ length xs → length (placed owned o rs ps xs) ≡ length xs →
          length (cond b (get_or ps 0 x ∷ placed owned o rs (drop 1 ps) xs) (x ∷ placed owned o rs ps xs)) ≡ suc (length xs)
      go true a b = ap suc a
      go false a b = ap suc b

  pub figures-placed : (rows : List T) (ps xs : List ℤ) → length ps ≡ count_of owned o rows → length xs ≡ length rows → figures_of owned o rows (placed owned o rows ps xs) ≡ ps
  figures-placed [] [] xs e l = refl
  figures-placed [] (p ∷ ps) xs e l = absurd (omega arith)
  figures-placed (r ∷ rs) ps [] e l = absurd (omega arith)
  figures-placed (r ∷ rs) ps (x ∷ xs) e l = go (eqb (owned r) o) refl ps e (λ qs f. figures-placed rs qs xs f (omega arith))
    where
      go : (b : Bool) → eqb (owned r) o ≡ b → (ps : List ℤ) → length ps ≡ cond b 1 0 + count_of owned o rs →
          ((qs : List ℤ) → length qs ≡ count_of owned o rs → figures_of owned o rs (placed owned o rs qs xs) ≡ qs) →
          figures_of owned o (r ∷ rs) (cond b (get_or ps 0 x ∷ placed owned o rs (drop 1 ps) xs) (x ∷ placed owned o rs ps xs)) ≡ ps
      go true t [] e ih = absurd (omega arith)
      go true t (p ∷ ps) e ih = cond-true _ _ _ t ∙ ap (λ qs. p ∷ qs) (ih ps (omega arith))
      go false t ps e ih = cond-false _ _ _ t ∙ ih ps (omega arith)

  -- the owner's figures agree where they do row by row
  pub figures-same : (rows : List T) (xs ys : List ℤ) → length xs ≡ length rows → length ys ≡ length rows →
      ((k : ℕ) (r : T) → k < length rows → r ≡ get_or rows k r → owned r ≡ o → get_or xs k (pos 0) ≡ get_or ys k (pos 0)) → figures_of owned o rows xs ≡ figures_of owned o rows ys
  figures-same [] xs ys a b h = refl
  figures-same (r ∷ rs) [] ys a b h = absurd (omega arith)
  figures-same (r ∷ rs) (x ∷ xs) [] a b h = absurd (omega arith)
  figures-same (r ∷ rs) (x ∷ xs) (y ∷ ys) a b h =
      go (eqb (owned r) o) refl (figures-same rs xs ys (omega arith) (omega arith) (λ k q l e m. h (suc k) q (omega arith) e m))
    where
      go : (b : Bool) → eqb (owned r) o ≡ b → figures_of owned o rs xs ≡ figures_of owned o rs ys → cond b (x ∷ figures_of owned o rs xs) (figures_of owned o rs xs) ≡ cond b (y ∷ figures_of owned o rs ys) (figures_of owned o rs ys)
      go true t ih = ap (λ z. z ∷ figures_of owned o rs xs) (h 0 r (omega arith) refl (eqb-true (owned r) o t)) ∙ ap (λ zs. y ∷ zs) ih
      go false t ih = ih

  -- what holds of all the owner's figures holds of the figure of each of the owner's rows
  pub own-figure : (P : ℤ → Type 0) (rows : List T) (xs : List ℤ) → length xs ≡ length rows → AllByRecursion P (figures_of owned o rows xs) →
      (k : ℕ) (r : T) → k < length rows → r ≡ get_or rows k r → owned r ≡ o → P (get_or xs k (pos 0))
  own-figure P [] xs l a k r h e m = absurd (omega arith)
  own-figure P (q ∷ rs) [] l a k r h e m = absurd (omega arith)
  own-figure P (q ∷ rs) (x ∷ xs) l a zero r h e m =
      let t : eqb (owned q) o ≡ true = eq-eqb (owned q) o (ap owned (sym e) ∙ m) in
      (subst (λ (b : Bool). AllByRecursion P (cond b (x ∷ figures_of owned o rs xs) (figures_of owned o rs xs))) t a).0
  own-figure P (q ∷ rs) (x ∷ xs) l a (suc k) r h e m = go (eqb (owned q) o) a (λ b. own-figure P rs xs (omega arith) b k r (omega arith) e m)
    where
      go : (b : Bool) → AllByRecursion P (cond b (x ∷ figures_of owned o rs xs) (figures_of owned o rs xs)) → (AllByRecursion P (figures_of owned o rs xs) → P (get_or xs k (pos 0))) → P (get_or xs k (pos 0))
      go true c f = f c.1
      go false c f = f c

  -- an owner who has a row has one at least
  pub some-row : (rows : List T) (k : ℕ) (r : T) → k < length rows → r ≡ get_or rows k r → owned r ≡ o → 1 ≤ count_of owned o rows
  some-row [] k r h e m = absurd (omega arith)
  some-row (q ∷ rs) zero r h e m =
      let t : eqb (owned q) o ≡ true = eq-eqb (owned q) o (ap owned (sym e) ∙ m) in
      let c : ◌≡◌ {A = ℕ} (cond (eqb (owned q) o) 1 0) 1 = ap (λ b. cond b 1 0) t in
      omega (arith, c)
  some-row (q ∷ rs) (suc k) r h e m = omega (arith, some-row rs k r (omega arith) e m)

  pub placed-other : (rows : List T) (ps xs : List ℤ) (k : ℕ) (r : T) → k < length rows → r ≡ get_or rows k r → (owned r ≡ o → ⊥) →
      get_or (placed owned o rows ps xs) k (pos 0) ≡ get_or xs k (pos 0)
  placed-other [] ps xs k r h e m = refl
  placed-other (q ∷ rs) ps [] k r h e m = refl
  placed-other (q ∷ rs) ps (x ∷ xs) zero r h e m =
      let t : eqb (owned q) o ≡ false = ne_eqb (owned q) o (λ z. m (ap owned e ∙ z)) in
      ap (λ b. get_or (cond b (get_or ps 0 x ∷ placed owned o rs (drop 1 ps) xs) (x ∷ placed owned o rs ps xs)) 0 (pos 0)) t
  placed-other (q ∷ rs) ps (x ∷ xs) (suc k) r h e m =
      go (eqb (owned q) o) (placed-other rs (drop 1 ps) xs k r (omega arith) e m) (placed-other rs ps xs k r (omega arith) e m)
    where
      go : (b : Bool) → get_or (placed owned o rs (drop 1 ps) xs) k (pos 0) ≡ get_or xs k (pos 0) → get_or (placed owned o rs ps xs) k (pos 0) ≡ get_or xs k (pos 0) →
          get_or (cond b (get_or ps 0 x ∷ placed owned o rs (drop 1 ps) xs) (x ∷ placed owned o rs ps xs)) (suc k) (pos 0) ≡ get_or xs k (pos 0)
      go true f g = f
      go false f g = g

plus-pos : (ps : List ℕ) → added_up (map (λ (p : ℕ). pos p) ps) ≡ pos (sum ps)
plus-pos [] = refl
plus-pos (p ∷ ps) = ap (λ z. pos p +ℤ z) (plus-pos ps) ∙ ap pos (sym (sum-cons p ps))

plus_neg : (ps : List ℕ) → added_up (map (λ (p : ℕ). neg_ℤ (pos p)) ps) ≡ neg_ℤ (pos (sum ps))
plus_neg [] = refl
plus_neg (p ∷ ps) =
    let s = sum-cons p ps in
    let ih = plus_neg ps in
    ap (λ z. neg_ℤ (pos p) +ℤ z) ih ∙ omega (arith, ints, s)

-- signed parts come to their sum with the sign
pub signed_sum : (w : ℤ) (ps : List ℕ) → added_up (signed_parts w ps) ≡ with_sign w (sum ps)
signed_sum (pos n) ps = plus-pos ps
signed_sum (negsuc n) ps = plus_neg ps

pub own_sign : (w : ℤ) → with_sign w (nat_abs w) ≡ w
own_sign (pos n) = refl
own_sign (negsuc n) = refl

signed_adds : (w : ℤ) (ps : List ℕ) → sum ps ≡ nat_abs w → added_up (signed_parts w ps) ≡ w
signed_adds w ps e = signed_sum w ps ∙ ap (with_sign w) e ∙ own_sign w

-- signed parts come to as much in magnitude as the parts
magnitudes : (w : ℤ) (ps : List ℕ) → sum_by nat_abs (signed_parts w ps) ≡ sum ps
magnitudes w [] = refl
magnitudes w (p ∷ ps) = omega (arith, sum_by-cons nat_abs (with_sign w p) (signed_parts w ps), nat_abs-sign w p, magnitudes w ps, sum-cons p ps)

sum-none : (ps : List ℕ) → length ps ≡ 0 → sum ps ≡ 0
sum-none [] e = refl
sum-none (p ∷ ps) e = absurd (omega arith)

-- a rule gives out no more than the whole
rule_light : (rule : ℕ → List ℕ → List ℕ) → Keeps rule → (whole : ℕ) (claims : List ℕ) → sum (rule whole claims) ≤ whole
rule_light rule keeps whole [] = omega (arith, sum-none (rule whole []) (keeps.each whole []))
rule_light rule keeps whole (c ∷ cs) = omega (arith, keeps.all whole (c ∷ cs) (omega arith))

pub length-shared : {T : Type 0} (rule : ℕ → List ℕ → List ℕ) (owned carried : T → ℕ) (o : ℕ) (w : ℤ) (rows : List T) (xs : List ℤ) → length (shared rule owned carried o w rows xs) ≡ length xs
length-shared rule owned carried o w rows xs = length-placed owned o rows (parts_for rule owned carried o w rows) xs

module _ {T : Type 0} (rule : ℕ → List ℕ → List ℕ) (keeps : Keeps rule) (owned claimed : T → ℕ) (o : ℕ) (w : ℤ) (rows : List T) where
  abbrev claims : List ℕ
  claims = claims_of owned claimed o rows

  abbrev parts : List ℤ
  parts = parts_for rule owned claimed o w rows

  length-parts : length parts ≡ count_of owned o rows
  length-parts = length-map (rule (nat_abs w) claims) (with_sign w) ∙ keeps.each (nat_abs w) claims ∙ length-claims owned o claimed rows

  -- the parts come to the whole
  pub parts_add : 1 ≤ count_of owned o rows → added_up parts ≡ w
  parts_add some = signed_adds w (rule (nat_abs w) claims) (keeps.all (nat_abs w) claims (omega (arith, length-claims owned o claimed rows)))

  -- no part is larger than the whole
  all-within : 1 ≤ length claims → AllByRecursion (λ z. nat_abs z ≤ nat_abs w) parts
  all-within some =
      let low : AllByRecursion (λ p. p ≤ nat_abs w) (rule (nat_abs w) claims) = parts_small (rule (nat_abs w) claims) (nat_abs w) (nat_abs w) (keeps.all (nat_abs w) claims some) (omega arith) in
      All-map (λ (z : ℤ). nat_abs z ≤ nat_abs w) (with_sign w) (rule (nat_abs w) claims) (All-weaker (λ p. p ≤ nat_abs w) (λ p. nat_abs (with_sign w p) ≤ nat_abs w) (λ p q. omega (arith, nat_abs-sign w p)) (rule (nat_abs w) claims) low)

  -- in magnitude the parts come to no more than the whole
  pub parts-light : sum_by nat_abs parts ≤ nat_abs w
  parts-light = omega (arith, magnitudes w (rule (nat_abs w) claims), rule_light rule keeps (nat_abs w) claims)

  module _ (xs : List ℤ) where
    -- parts given out by gathered claims
    pub given-shared : (cs : List ℕ) (z : ℤ) (new : List ℤ) → cs ≡ claims → z ≡ w → new ≡ placed owned o rows (signed_parts z (rule (nat_abs z) cs)) xs → new ≡ shared rule owned claimed o w rows xs
    given-shared cs z new c e is =
        is ∙ ap (λ ds. placed owned o rows (signed_parts z (rule (nat_abs z) ds)) xs) c ∙ ap (λ (y : ℤ). placed owned o rows (signed_parts y (rule (nat_abs y) claims)) xs) e

    -- the owner's figures are the parts
    pub shared-parts : length xs ≡ length rows → figures_of owned o rows (shared rule owned claimed o w rows xs) ≡ parts
    shared-parts l = figures-placed owned o rows parts xs length-parts l

    shared-adds : length xs ≡ length rows → 1 ≤ count_of owned o rows → added_up (figures_of owned o rows (shared rule owned claimed o w rows xs)) ≡ w
    shared-adds l some = ap added_up (shared-parts l) ∙ parts_add some

    -- other owners' figures stay
    pub shared_keeps : (k : ℕ) (r : T) → k < length rows → r ≡ get_or rows k r → (owned r ≡ o → ⊥) → get_or (shared rule owned claimed o w rows xs) k (pos 0) ≡ get_or xs k (pos 0)
    shared_keeps k r h e m = placed-other owned o rows parts xs k r h e m

    shared-within : length xs ≡ length rows → (k : ℕ) (r : T) → k < length rows → r ≡ get_or rows k r → owned r ≡ o → nat_abs (get_or (shared rule owned claimed o w rows xs) k (pos 0)) ≤ nat_abs w
    shared-within l k r h e m =
        let P : ℤ → Type 0 = λ z. nat_abs z ≤ nat_abs w in
        let some : 1 ≤ length claims = omega (arith, some-row owned o rows k r h e m, length-claims owned o claimed rows) in
        own-figure owned o P rows (shared rule owned claimed o w rows xs) (length-shared rule owned claimed o w rows xs ∙ l) (subst (AllByRecursion P) (sym (shared-parts l)) (all-within some)) k r h e m

    pub shared_out : (new : List ℤ) → length xs ≡ length rows → new ≡ shared rule owned claimed o w rows xs → SharedOut rule owned claimed o w rows xs new
    shared_out new l e = subst (λ (ys : List ℤ). SharedOut rule owned claimed o w rows xs ys) (sym e) (record {
      parts = shared-parts l;
      others = shared_keeps;
      adds = shared-adds l;
      within = shared-within l;
    })

pub figures-others : {T : Type 0} (rule : ℕ → List ℕ → List ℕ) (keeps : Keeps rule) (owned claimed : T → ℕ) (o q : ℕ) (w : ℤ) (rows : List T) (xs : List ℤ) → length xs ≡ length rows → (q ≡ o → ⊥) →
    figures_of owned q rows (shared rule owned claimed o w rows xs) ≡ figures_of owned q rows xs
figures-others rule keeps owned claimed o q w rows xs l ne =
    figures-same owned q rows (shared rule owned claimed o w rows xs) xs (length-shared rule owned claimed o w rows xs ∙ l) l
    (λ k r h e m. shared_keeps rule keeps owned claimed o w rows xs k r h e (λ z. ne (sym m ∙ z)))
