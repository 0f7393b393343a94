-- The steps of the loop that gives the owner's rows their parts.
use Rattle.std.proofs.Common.{◌≡◌, ℕ, ◌+◌, ◌<◌, ◌≤◌, Bool, true, false, cond, eqb, List, [], ◌∷◌, ◌++◌, length, get_or, take, drop, set, ℤ, pos, sym, refl, ap, ◌∙◌, arith}
use Rattle.std.proofs.lemmas.List.{at_drop_more, drop_more, drop-drop, get_or-drop, get_or_default, take_more, take_more_set, append_assoc, append-nil, drop-set-lt, take_all, drop_all}
use Rattle.std.proofs.lemmas.Bool.{eq-eqb, ne_eqb, cond-true, cond-false}
use Rattle.tables.specs.Carried.{claims_of}
use Rattle.sharing.specs.Owners.{count_of, placed}

module _ {T : Type 0} (owned : T → ℕ) (owner : ℕ) where
  -- the row at i, read as x, is the owner's or is not
  module _ (rows : List T) (i : ℕ) (x : T) (within : i < length rows) (read : x ≡ get_or rows i x) where
    count_at : count_of owned owner (drop i rows) ≡ cond (eqb (owned x) owner) 1 0 + count_of owned owner (drop (i + 1) rows)
    count_at =
        at_drop_more (count_of owned owner) rows i x within
        ∙ ap (λ y. cond (eqb (owned y) owner) 1 0 + count_of owned owner (drop (i + 1) rows)) (sym read)

    pub count_yes : owned x ≡ owner → count_of owned owner (drop i rows) ≡ 1 + count_of owned owner (drop (i + 1) rows)
    count_yes mine = count_at ∙ ap (λ b. cond b 1 0 + count_of owned owner (drop (i + 1) rows)) (eq-eqb (owned x) owner mine)

    pub count_no : (owned x ≡ owner → ⊥) → count_of owned owner (drop i rows) ≡ count_of owned owner (drop (i + 1) rows)
    count_no other = count_at ∙ ap (λ b. cond b 1 0 + count_of owned owner (drop (i + 1) rows)) (ne_eqb (owned x) owner other) ∙ omega arith

    placed_at : (ps xs : List ℤ) → i < length xs →
        placed owned owner (drop i rows) ps (drop i xs)
        ≡ cond (eqb (owned x) owner) (get_or ps 0 (get_or xs i (pos 0)) ∷ placed owned owner (drop (i + 1) rows) (drop 1 ps) (drop (i + 1) xs)) (get_or xs i (pos 0) ∷ placed owned owner (drop (i + 1) rows) ps (drop (i + 1) xs))
    placed_at ps xs k =
        ap (λ q. placed owned owner (drop i rows) ps q) (drop_more xs i (pos 0) k)
        ∙ at_drop_more (λ q. placed owned owner q ps (get_or xs i (pos 0) ∷ drop (i + 1) xs)) rows i x within
        ∙ ap (λ y. cond (eqb (owned y) owner) (get_or ps 0 (get_or xs i (pos 0)) ∷ placed owned owner (drop (i + 1) rows) (drop 1 ps) (drop (i + 1) xs)) (get_or xs i (pos 0) ∷ placed owned owner (drop (i + 1) rows) ps (drop (i + 1) xs))) (sym read)

    -- one turn of the loop that gives the parts
    pub scatter_yes : (n : ℕ) (ps xs all : List ℤ) (v : ℤ) → i < length xs → n < length ps → owned x ≡ owner → v ≡ get_or ps n (pos 0) →
        take i xs ++ placed owned owner (drop i rows) (drop n ps) (drop i xs) ≡ all →
        take (i + 1) (set xs i v) ++ placed owned owner (drop (i + 1) rows) (drop (n + 1) ps) (drop (i + 1) (set xs i v)) ≡ all
    scatter_yes n ps xs all v k l mine is inv =
        let lt : i < i + 1 = omega arith in
        let d : ℤ = get_or xs i (pos 0) in
        let rest : List ℤ = placed owned owner (drop (i + 1) rows) (drop (n + 1) ps) (drop (i + 1) xs) in
        let z : n + 0 ≡ n = omega arith in
        let head : get_or (drop n ps) 0 d ≡ v = get_or-drop n ps 0 d ∙ ap (λ m. get_or ps m d) z ∙ get_or_default ps n d (pos 0) l ∙ sym is in
        let step : placed owned owner (drop i rows) (drop n ps) (drop i xs) ≡ v ∷ rest =
        placed_at (drop n ps) xs k ∙ cond-true _ _ _ (eq-eqb (owned x) owner mine)
        ∙ ap (λ h. h ∷ placed owned owner (drop (i + 1) rows) (drop 1 (drop n ps)) (drop (i + 1) xs)) head
        ∙ ap (λ q. v ∷ placed owned owner (drop (i + 1) rows) q (drop (i + 1) xs)) (drop-drop 1 n ps) in
        ap (λ q. take (i + 1) (set xs i v) ++ placed owned owner (drop (i + 1) rows) (drop (n + 1) ps) q) (drop-set-lt (i + 1) xs i v lt)
        ∙ ap (λ q. q ++ rest) (take_more_set xs i v k)
        ∙ append_assoc (take i xs) (v ∷ []) rest
        ∙ sym (ap (λ q. take i xs ++ q) step)
        ∙ inv

    -- the same where the parts still to give are p and then qs
    pub scatter_next : (ps qs xs all : List ℤ) (p v : ℤ) → i < length xs → owned x ≡ owner → ps ≡ p ∷ qs → v ≡ p →
        take i xs ++ placed owned owner (drop i rows) ps (drop i xs) ≡ all →
        take (i + 1) (set xs i v) ++ placed owned owner (drop (i + 1) rows) qs (drop (i + 1) (set xs i v)) ≡ all
    scatter_next ps qs xs all p v k mine e is inv =
        scatter_yes 0 (p ∷ qs) xs all v k (omega arith) mine is (ap (λ q. take i xs ++ placed owned owner (drop i rows) q (drop i xs)) (sym e) ∙ inv)

    pub scatter_no : (ps xs all : List ℤ) → i < length xs → (owned x ≡ owner → ⊥) →
        take i xs ++ placed owned owner (drop i rows) ps (drop i xs) ≡ all →
        take (i + 1) xs ++ placed owned owner (drop (i + 1) rows) ps (drop (i + 1) xs) ≡ all
    scatter_no ps xs all k other inv =
        let d : ℤ = get_or xs i (pos 0) in
        let rest : List ℤ = placed owned owner (drop (i + 1) rows) ps (drop (i + 1) xs) in
        let step : placed owned owner (drop i rows) ps (drop i xs) ≡ d ∷ rest = placed_at ps xs k ∙ cond-false _ _ _ (ne_eqb (owned x) owner other) in
        ap (λ q. q ++ rest) (take_more xs i (pos 0) k)
        ∙ append_assoc (take i xs) (d ∷ []) rest
        ∙ sym (ap (λ q. take i xs ++ q) step)
        ∙ inv

  pub scatter_all : (rows : List T) (i : ℕ) (ps xs all : List ℤ) → length rows ≤ i → length xs ≤ i →
      take i xs ++ placed owned owner (drop i rows) ps (drop i xs) ≡ all → xs ≡ all
  scatter_all rows i ps xs all h k inv =
      sym (take_all i xs k) ∙ sym (append-nil (take i xs)) ∙ sym (ap (λ q. take i xs ++ q) (drop_all i xs k)) ∙ sym (ap (λ q. take i xs ++ placed owned owner q ps (drop i xs)) (drop_all i rows h)) ∙ inv

  -- where there are no parts, nothing changes
  pub placed-none : (rows : List T) (xs : List ℤ) → placed owned owner rows [] xs ≡ xs
  placed-none [] xs = refl
  placed-none (r ∷ rs) [] = refl
  placed-none (r ∷ rs) (x ∷ xs) = same (eqb (owned r) owner) (placed-none rs xs)
    where
      same : (b : Bool) → placed owned owner rs [] xs ≡ xs → cond b (x ∷ placed owned owner rs [] xs) (x ∷ placed owned owner rs [] xs) ≡ x ∷ xs
      same true e = ap (λ q. x ∷ q) e
      same false e = ap (λ q. x ∷ q) e

  pub length-claims : (claimed : T → ℕ) (rows : List T) → length (claims_of owned claimed owner rows) ≡ count_of owned owner rows
  length-claims claimed [] = refl
  length-claims claimed (r ∷ rs) = go (eqb (owned r) owner) (length-claims claimed rs)
    where
      go : (b : Bool) → length (claims_of owned claimed owner rs) ≡ count_of owned owner rs →
          length (cond b (claimed r ∷ claims_of owned claimed owner rs) (claims_of owned claimed owner rs)) ≡ cond b 1 0 + count_of owned owner rs
      go true e = omega (arith, e)
      go false e = omega (arith, e)

  pub count_within : (rows : List T) → count_of owned owner rows ≤ length rows
  count_within [] = omega arith
  count_within (r ∷ rs) = go (eqb (owned r) owner) (count_within rs)
    where
      go : (b : Bool) → count_of owned owner rs ≤ length rs → cond b 1 0 + count_of owned owner rs ≤ length (r ∷ rs)
      go true e = omega (arith, e)
      go false e = omega (arith, e)
