-- The lines of a working show the division: claims, parts rounded down, the kWh left over, the parts and their sum.
use Rattle.std.proofs.Common.{◌≡◌, ℕ, zero, suc, ◌+◌, ◌<◌, ◌≤◌, Bool, true, false, cond, eqb, ltb, List, [], ◌∷◌, map, length, get_or, drop, ℤ, pos, nat_abs, sum, sym, refl, ap, ◌∙◌, arith}
use mathlib.Core.List.{map-map}
use Rattle.std.specs.List.{AllByRecursion}
use Rattle.std.proofs.ByRecursion.{All-get_or}
use Rattle.std.proofs.lemmas.List.{map-id, length-map, get_or-map, nil_from_length}
use Rattle.std.proofs.lemmas.Bool.Decides.{nat_tests}
use Rattle.tables.specs.Carried.{carried_if}
use Rattle.tables.proofs.Carrying.{carried_everyone}
use Rattle.division.specs.Rules.{rounded_down, floors, topped, left_over, pro_rata}
use Rattle.division.specs.Signed.{with_sign, signed_parts}
use Rattle.division.specs.Proportions.{length-floors, length_pro_rata, sum_pro_rata}
use Rattle.division.proofs.Signs.{nat_abs-sign}
use Rattle.sharing.specs.Owners.{count_of, figures_of, added_up}
use Rattle.sharing.proofs.Placing.{signed_sum, own_sign}
use Rattle.planning.specs.declared.working.Working.{Working}
use Rattle.planning.specs.Workings.{working_of, workings, names_of, Explains}

module _ {T : Type 0} (owned known : T → ℕ) (o : ℕ) (line : ℕ → ℕ → ℤ → Working) where
  -- what the lines show of each claim
  lines-claims : {B : Type 0} (shown : Working → B) (f : ℕ → B) → ((k c : ℕ) (x : ℤ) → shown (line k c x) ≡ f c) →
      (rows : List T) (cs : List ℕ) (xs : List ℤ) → length cs ≡ count_of owned o rows → length xs ≡ length rows → map shown (workings owned known o line rows cs xs) ≡ map f cs
  lines-claims shown f is [] [] xs n l = refl
  lines-claims shown f is [] (c ∷ cs) xs n l = absurd (omega arith)
  lines-claims shown f is (r ∷ rs) cs [] n l = absurd (omega arith)
  lines-claims shown f is (r ∷ rs) cs (x ∷ xs) n l = go (eqb (owned r) o) cs n (λ ds m. lines-claims shown f is rs ds xs m (omega arith))
    where
      go : (b : Bool) (cs : List ℕ) → length cs ≡ cond b 1 0 + count_of owned o rs → ((ds : List ℕ) → length ds ≡ count_of owned o rs → map shown (workings owned known o line rs ds xs) ≡ map f ds) →
          map shown (cond b (line (known r) (get_or cs 0 0) x ∷ workings owned known o line rs (drop 1 cs) xs) (workings owned known o line rs cs xs)) ≡ map f cs
      go true [] m ih = absurd (omega arith)
      go true (c ∷ cs) m ih = ap (λ y. y ∷ map shown (workings owned known o line rs cs xs)) (is (known r) c x) ∙ ap (λ ys. f c ∷ ys) (ih cs (omega arith))
      go false cs m ih = ih cs (omega arith)

  -- what they show of each figure, and of each row
  lines-figures : (shown : Working → ℤ) → ((k c : ℕ) (x : ℤ) → shown (line k c x) ≡ x) → (rows : List T) (cs : List ℕ) (xs : List ℤ) →
      map shown (workings owned known o line rows cs xs) ≡ figures_of owned o rows xs
  lines-figures shown is [] cs xs = refl
  lines-figures shown is (r ∷ rs) cs [] = refl
  lines-figures shown is (r ∷ rs) cs (x ∷ xs) = go (eqb (owned r) o) (lines-figures shown is rs (drop 1 cs) xs) (lines-figures shown is rs cs xs)
    where
      go : (b : Bool) → map shown (workings owned known o line rs (drop 1 cs) xs) ≡ figures_of owned o rs xs → map shown (workings owned known o line rs cs xs) ≡ figures_of owned o rs xs →
          map shown (cond b (line (known r) (get_or cs 0 0) x ∷ workings owned known o line rs (drop 1 cs) xs) (workings owned known o line rs cs xs)) ≡ cond b (x ∷ figures_of owned o rs xs) (figures_of owned o rs xs)
      go true f g = ap (λ y. y ∷ map shown (workings owned known o line rs (drop 1 cs) xs)) (is (known r) (get_or cs 0 0) x) ∙ ap (λ ys. x ∷ ys) f
      go false f g = g

  pub lines-names : (shown : Working → ℕ) → ((k c : ℕ) (x : ℤ) → shown (line k c x) ≡ k) → (rows : List T) (cs : List ℕ) (xs : List ℤ) → length xs ≡ length rows →
      map shown (workings owned known o line rows cs xs) ≡ names_of owned known o rows
  lines-names shown is [] cs xs l = refl
  lines-names shown is (r ∷ rs) cs [] l = absurd (omega arith)
  lines-names shown is (r ∷ rs) cs (x ∷ xs) l = go (eqb (owned r) o) (lines-names shown is rs (drop 1 cs) xs (omega arith)) (lines-names shown is rs cs xs (omega arith))
    where
      go : (b : Bool) → map shown (workings owned known o line rs (drop 1 cs) xs) ≡ names_of owned known o rs → map shown (workings owned known o line rs cs xs) ≡ names_of owned known o rs →
          map shown (cond b (line (known r) (get_or cs 0 0) x ∷ workings owned known o line rs (drop 1 cs) xs) (workings owned known o line rs cs xs)) ≡ cond b (known r ∷ names_of owned known o rs) (names_of owned known o rs)
      go true f g = ap (λ y. y ∷ map shown (workings owned known o line rs (drop 1 cs) xs)) (is (known r) (get_or cs 0 0) x) ∙ ap (λ ys. known r ∷ ys) f
      go false f g = g

  lines-all_are : (P : Working → Type 0) → ((k c : ℕ) (x : ℤ) → P (line k c x)) → (rows : List T) (cs : List ℕ) (xs : List ℤ) → AllByRecursion P (workings owned known o line rows cs xs)
  lines-all_are P is [] cs xs = tt
  lines-all_are P is (r ∷ rs) cs [] = tt
  lines-all_are P is (r ∷ rs) cs (x ∷ xs) = go (eqb (owned r) o) (lines-all_are P is rs (drop 1 cs) xs) (lines-all_are P is rs cs xs)
    where
      go : (b : Bool) → AllByRecursion P (workings owned known o line rs (drop 1 cs) xs) → AllByRecursion P (workings owned known o line rs cs xs) →
          AllByRecursion P (cond b (line (known r) (get_or cs 0 0) x ∷ workings owned known o line rs (drop 1 cs) xs) (workings owned known o line rs cs xs))
      go true f g = (is (known r) (get_or cs 0 0) x, f)
      go false f g = g

-- the first m have one more
topped-at : (m : ℕ) (xs : List ℕ) (n : ℕ) → n < length xs → get_or (topped m xs) n 0 ≡ get_or xs n 0 + cond (ltb n m) 1 0
topped-at zero xs n h = grind (arith, nat_tests)
topped-at (suc m) [] n h = absurd (omega arith)
topped-at (suc m) (x ∷ xs) zero h = grind (arith, nat_tests)
topped-at (suc m) (x ∷ xs) (suc n) h =
    let e : ltb (suc n) (suc m) ≡ ltb n m = grind (arith, nat_tests) in
    topped-at m xs n (omega arith) ∙ ap (λ b. get_or xs n 0 + cond b 1 0) (sym e)

more_by_one : (a : ℕ) (b : Bool) → ltb a (a + cond b 1 0) ≡ b
more_by_one a true = grind (arith, nat_tests)
more_by_one a false = grind (arith, nat_tests)

-- the sum of the magnitudes shown
pub magnitudes : (w : ℤ) (ps : List ℕ) (lines : List Working) → map (λ (v : Working). v.part) lines ≡ signed_parts w ps → map (λ (v : Working). nat_abs v.part) lines ≡ ps
magnitudes w ps lines e =
    sym (map-map nat_abs (λ (v : Working). v.part) lines) ∙ ap (map nat_abs) e ∙ map-map nat_abs (with_sign w) ps ∙ go ps
  where
    go : (qs : List ℕ) → map (λ (p : ℕ). nat_abs (with_sign w p)) qs ≡ qs
    go [] = refl
    go (q ∷ qs) = ap (λ y. y ∷ map (λ (p : ℕ). nat_abs (with_sign w p)) qs) (nat_abs-sign w q) ∙ ap (λ ys. q ∷ ys) (go qs)

pub parts_within : (w : ℕ) (cs : List ℕ) → sum (pro_rata w cs) ≤ w
parts_within w [] = omega (arith, ap sum (nil_from_length (pro_rata w []) (length_pro_rata w [])))
parts_within w (c ∷ cs) = omega (arith, sum_pro_rata w (c ∷ cs) (omega arith))

blank : Working
blank = record { number = 0; claim = 0; floor = 0; extra = false; part = pos 0 }

module _ {T : Type 0} (owned known : T → ℕ) (o : ℕ) (w : ℤ) (rows : List T) (cs : List ℕ) (xs : List ℤ) (each : length cs ≡ count_of owned o rows) (room : length xs ≡ length rows)
    (divided : figures_of owned o rows xs ≡ signed_parts w (pro_rata (nat_abs w) cs)) where
  abbrev shown : List Working
  shown = workings owned known o (working_of w (sum cs) (length cs)) rows cs xs

  abbrev floor_is : ℕ → ℕ
  floor_is c = rounded_down (nat_abs w) (sum cs) (length cs) c

  show_claims : map (λ (v : Working). v.claim) shown ≡ cs
  show_claims = lines-claims owned known o (working_of w (sum cs) (length cs)) (λ v. v.claim) (λ c. c) (λ k c x. refl) rows cs xs each room ∙ map-id cs

  show_floors : map (λ (v : Working). v.floor) shown ≡ floors (nat_abs w) cs
  show_floors = lines-claims owned known o (working_of w (sum cs) (length cs)) (λ v. v.floor) floor_is (λ k c x. refl) rows cs xs each room

  pub show_parts : map (λ (v : Working). v.part) shown ≡ signed_parts w (pro_rata (nat_abs w) cs)
  show_parts = lines-figures owned known o (working_of w (sum cs) (length cs)) (λ v. v.part) (λ k c x. refl) rows cs xs ∙ divided

  length-shown : length shown ≡ length cs
  length-shown = sym (length-map shown (λ (v : Working). v.claim)) ∙ ap length show_claims

  -- whether the n-th got one of the kWh left over
  show_extra : (n : ℕ) → n < length cs → get_or (map (λ (v : Working). v.extra) shown) n false ≡ ltb n (left_over (nat_abs w) cs)
  show_extra n h =
      let lt : n < length shown = omega (arith, length-shown) in
      let lf : n < length (floors (nat_abs w) cs) = omega (arith, length-floors (nat_abs w) cs) in
      let lp : n < length (pro_rata (nat_abs w) cs) = omega (arith, length_pro_rata (nat_abs w) cs) in
      let v : Working = get_or shown n blank in
      let E : Working → Type 0 = λ u. u.extra ≡ ltb u.floor (nat_abs u.part) in
      let rule : E v = All-get_or E shown n blank lt (lines-all_are owned known o (working_of w (sum cs) (length cs)) E (λ k c x. refl) rows cs xs) in
      let f : v.floor ≡ get_or (floors (nat_abs w) cs) n 0 = sym (get_or-map (λ (u : Working). u.floor) shown n blank 0 lt) ∙ ap (λ l. get_or l n 0) show_floors in
      let p : nat_abs v.part ≡ get_or (pro_rata (nat_abs w) cs) n 0 =
      sym (get_or-map (λ (u : Working). nat_abs u.part) shown n blank 0 lt) ∙ ap (λ l. get_or l n 0) (magnitudes w (pro_rata (nat_abs w) cs) shown show_parts) in
      get_or-map (λ (u : Working). u.extra) shown n blank false lt
      ∙ rule
      ∙ ap (λ a. ltb a (nat_abs v.part)) f
      ∙ ap (ltb (get_or (floors (nat_abs w) cs) n 0)) (p ∙ topped-at (left_over (nat_abs w) cs) (floors (nat_abs w) cs) n lf)
      ∙ more_by_one (get_or (floors (nat_abs w) cs) n 0) (ltb n (left_over (nat_abs w) cs))

  -- lines of the whole as the machine holds it are lines of the whole
  pub as_shown : (lines : List Working) (z : ℤ) → z ≡ w → lines ≡ workings owned known o (working_of z (sum cs) (length cs)) rows cs xs → lines ≡ shown
  as_shown lines z e is = is ∙ ap (λ (y : ℤ). workings owned known o (working_of y (sum cs) (length cs)) rows cs xs) e

  -- the total over the lines
  pub show_sum : (lines : List Working) → lines ≡ shown → sum (carried_if (λ (v : Working). true) (λ (v : Working). nat_abs v.part) lines) ≡ sum (pro_rata (nat_abs w) cs)
  show_sum lines e =
      ap sum (carried_everyone (λ (v : Working). nat_abs v.part) lines) ∙ ap (λ l. sum (map (λ (v : Working). nat_abs v.part) l)) e ∙ ap sum (magnitudes w (pro_rata (nat_abs w) cs) shown show_parts)

  pub explained : (together : ℤ) → together ≡ with_sign w (sum (pro_rata (nat_abs w) cs)) → Explains w cs shown together
  explained together e = record {
    claims_shown = show_claims;
    floors_shown = show_floors;
    parts_shown = show_parts;
    first_ones = show_extra;
    sum_shown = e ∙ sym (signed_sum w (pro_rata (nat_abs w) cs)) ∙ sym (ap added_up show_parts);
    whole_divided = λ some. e ∙ ap (with_sign w) (sum_pro_rata (nat_abs w) cs some) ∙ own_sign w;
  }

-- parts of a whole among claims are parts of the whole as the machine holds it, among the claims as they were gathered
pub divided_as : (fs : List ℤ) (w z : ℤ) (cs ds : List ℕ) → z ≡ w → ds ≡ cs → fs ≡ signed_parts w (pro_rata (nat_abs w) cs) → fs ≡ signed_parts z (pro_rata (nat_abs z) ds)
divided_as fs w z cs ds e c is =
    is ∙ sym (ap (λ (y : ℤ). signed_parts y (pro_rata (nat_abs y) cs)) e) ∙ sym (ap (λ qs. signed_parts z (pro_rata (nat_abs z) qs)) c)
