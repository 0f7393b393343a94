-- The steps of the loop that lists the working of an owner's rows.
use Rattle.std.proofs.Common.{◌≡◌, ℕ, ◌+◌, ◌<◌, ◌≤◌, cond, eqb, List, [], ◌∷◌, ◌++◌, length, get_or, drop, ℤ, pos, sym, ap, ◌∙◌, arith}
use Rattle.std.proofs.lemmas.List.{at_drop_more, at_drop_all, drop_more, drop-drop, get_or-drop, append_assoc, append-nil}
use Rattle.std.proofs.lemmas.Bool.{eq-eqb, ne_eqb, cond-true, cond-false}
use Rattle.planning.specs.declared.working.Working.{Working}
use Rattle.planning.specs.Workings.{workings}

module _ {T : Type 0} (owned known : T → ℕ) (owner : ℕ) (line : ℕ → ℕ → ℤ → Working) where
  module _ (rows : List T) (i : ℕ) (x : T) (within : i < length rows) (read : x ≡ get_or rows i x) (claims : List ℕ) (n : ℕ) (figures : List ℤ) (k : i < length figures) where
    abbrev rest : ℕ → List Working
    rest m = workings owned known owner line (drop (i + 1) rows) (drop m claims) (drop (i + 1) figures)

    abbrev turn : T → List Working
    turn y = cond (eqb (owned y) owner) (line (known y) (get_or (drop n claims) 0 0) (get_or figures i (pos 0)) ∷ workings owned known owner line (drop (i + 1) rows) (drop 1 (drop n claims)) (drop (i + 1) figures)) (rest n)

    lines_at : workings owned known owner line (drop i rows) (drop n claims) (drop i figures) ≡ turn x
    lines_at =
        ap (λ q. workings owned known owner line (drop i rows) (drop n claims) q) (drop_more figures i (pos 0) k)
        ∙ at_drop_more (λ q. workings owned known owner line q (drop n claims) (get_or figures i (pos 0) ∷ drop (i + 1) figures)) rows i x within
        ∙ ap turn (sym read)

    pub lines_yes : (out out' all : List Working) (v : Working) → owned x ≡ owner → v ≡ line (known x) (get_or claims n 0) (get_or figures i (pos 0)) → out' ≡ out ++ v ∷ [] →
        out ++ workings owned known owner line (drop i rows) (drop n claims) (drop i figures) ≡ all → out' ++ rest (n + 1) ≡ all
    lines_yes out out' all v mine is pushed inv =
        let z : n + 0 ≡ n = omega arith in
        let first : get_or (drop n claims) 0 0 ≡ get_or claims n 0 = get_or-drop n claims 0 0 ∙ ap (λ m. get_or claims m 0) z in
        let step : workings owned known owner line (drop i rows) (drop n claims) (drop i figures) ≡ v ∷ rest (n + 1) =
        lines_at ∙ cond-true _ _ _ (eq-eqb (owned x) owner mine)
        ∙ ap (λ cs. line (known x) (get_or (drop n claims) 0 0) (get_or figures i (pos 0)) ∷ workings owned known owner line (drop (i + 1) rows) cs (drop (i + 1) figures)) (drop-drop 1 n claims)
        ∙ ap (λ c. line (known x) c (get_or figures i (pos 0)) ∷ rest (n + 1)) first
        ∙ ap (λ w. w ∷ rest (n + 1)) (sym is) in
        ap (λ q. q ++ rest (n + 1)) pushed ∙ append_assoc out (v ∷ []) (rest (n + 1)) ∙ sym (ap (λ q. out ++ q) step) ∙ inv

    pub lines_no : (out out' all : List Working) → (owned x ≡ owner → ⊥) → out' ≡ out →
        out ++ workings owned known owner line (drop i rows) (drop n claims) (drop i figures) ≡ all → out' ++ rest n ≡ all
    lines_no out out' all other same inv =
        ap (λ q. q ++ rest n) same ∙ sym (ap (λ q. out ++ q) (lines_at ∙ cond-false _ _ _ (ne_eqb (owned x) owner other))) ∙ inv

  -- the same turn where the claims still to show are p and then qs
  pub lines_next : (rows : List T) (i : ℕ) (x : T) → i < length rows → x ≡ get_or rows i x → (figures : List ℤ) → i < length figures → (ps qs : List ℕ) (p : ℕ) → ps ≡ p ∷ qs →
      (out out' all : List Working) (v : Working) → owned x ≡ owner → v ≡ line (known x) p (get_or figures i (pos 0)) → out' ≡ out ++ v ∷ [] →
      out ++ workings owned known owner line (drop i rows) ps (drop i figures) ≡ all → out' ++ workings owned known owner line (drop (i + 1) rows) qs (drop (i + 1) figures) ≡ all
  lines_next rows i x within read figures k ps qs p e out out' all v mine is pushed inv =
      lines_yes rows i x within read (p ∷ qs) 0 figures k out out' all v mine is pushed (ap (λ q. out ++ workings owned known owner line (drop i rows) q (drop i figures)) (sym e) ∙ inv)

  pub lines-all : (rows : List T) (i : ℕ) (claims : List ℕ) (figures : List ℤ) (out all : List Working) → length rows ≤ i →
      out ++ workings owned known owner line (drop i rows) claims figures ≡ all → out ≡ all
  lines-all rows i claims figures out all h inv =
      sym (append-nil out) ∙ sym (ap (λ q. out ++ q) (at_drop_all (λ q. workings owned known owner line q claims figures) rows i h)) ∙ inv
