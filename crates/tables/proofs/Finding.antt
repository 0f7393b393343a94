-- A search and a count, one row on; what a search tells of the row that it found, and of filing under its key.
use Rattle.std.specs.List.{filter}
use Rattle.std.proofs.Common.{◌≡◌, ℕ, zero, suc, ◌+◌, ◌-◌, ◌<◌, ◌≤◌, max, Bool, true, false, cond, ◌||◌, List, [], ◌∷◌, ◌++◌, length, get_or, drop, set, is_some, Some, None, sym, refl, ap, ◌∙◌, subst, arith}
use Rattle.tables.specs.Apart.{has}
use Rattle.tables.specs.Keys.{find_from, find, first_of, count_if}
use Rattle.tables.specs.Figures.{figure_of}
use Rattle.tables.specs.Filing.{upsert, Filed}
use Rattle.tables.proofs.Steps.{at_row}

module _ {T : Type 0} (passes : T → Bool) where
  -- the row at i, read as x, is tested with the answer b
  module _ (rows : List T) (i : ℕ) (x : T) (b : Bool) (within : i < length rows) (read : x ≡ get_or rows i x) (told : b ≡ passes x) where
    pub find_on : find_from passes i (drop i rows) ≡ cond b (Some i) (find_from passes (i + 1) (drop (i + 1) rows))
    find_on = at_row (find_from passes i) rows i x within read ∙ ap (λ t. cond t (Some i) (find_from passes (i + 1) (drop (i + 1) rows))) (sym told)

    pub count_on : count_if passes (drop i rows) ≡ cond b 1 0 + count_if passes (drop (i + 1) rows)
    count_on = at_row (count_if passes) rows i x within read ∙ ap (λ t. cond t 1 0 + count_if passes (drop (i + 1) rows)) (sym told)

  -- a place that a search from n on answers, as the place `at` of the list
  pub record Found (rows : List T) (n j : ℕ) : Type 0 where
    pub at : ℕ
    pub is : j ≡ n + at
    pub within : at < length rows
    pub first : (x : T) → x ≡ get_or rows at x → first_of passes rows ≡ Some x
    pub amended : (amend : T → T) (new x : T) → x ≡ get_or rows at x → upsert passes amend new rows ≡ set rows at (amend x)

  found_from : (rows : List T) (n j : ℕ) → find_from passes n rows ≡ Some j → Found rows n j
  found_from [] n j e = absurd (let z : ◌≡◌ {A = ℕ} 0 1 = cc in omega arith)
  found_from (r ∷ rs) n j e = either (passes r) refl e (found_from rs (n + 1) j)
    where
      either : (b : Bool) → passes r ≡ b → cond b (Some n) (find_from passes (n + 1) rs) ≡ Some j → (find_from passes (n + 1) rs ≡ Some j → Found rs (n + 1) j) → Found (r ∷ rs) n j
      either true q e more =
          let same : n ≡ j = cc in
          record {
            at = 0;
            is = omega arith;
            within = omega arith;
            first = λ x read. ap (λ b. cond b (Some r) (first_of passes rs)) q ∙ ap (λ y. Some y) (sym read);
            amended = λ amend new x read. ap (λ b. cond b (amend r ∷ rs) (r ∷ upsert passes amend new rs)) q ∙ ap (λ y. amend y ∷ rs) (sym read);
          }
      either false q e more =
          let rest = more e in
          record {
            at = suc rest.at;
            is = omega (arith, rest.is);
            within = omega (arith, rest.within);
            first = λ x read. ap (λ b. cond b (Some r) (first_of passes rs)) q ∙ rest.first x read;
            amended = λ amend new x read. ap (λ b. cond b (amend r ∷ rs) (r ∷ upsert passes amend new rs)) q ∙ ap (λ ys. r ∷ ys) (rest.amended amend new x read);
          }

  -- a place that a search of the whole list answers
  pub record First (rows : List T) (j : ℕ) : Type 0 where
    pub within : j < length rows
    pub first : (x : T) → x ≡ get_or rows j x → first_of passes rows ≡ Some x
    pub amended : (amend : T → T) (new x : T) → x ≡ get_or rows j x → upsert passes amend new rows ≡ set rows j (amend x)

  pub found : (rows : List T) (j : ℕ) → find passes rows ≡ Some j → First rows j
  found rows j e =
      let h = found_from rows 0 j e in
      let same : h.at ≡ j = omega (arith, h.is) in
      subst (First rows) same (record { within = h.within; first = h.first; amended = h.amended })

  -- what a search tells that finds no row
  pub record Absent (rows : List T) : Type 0 where
    pub first : first_of passes rows ≡ None
    pub added : (amend : T → T) (new : T) → upsert passes amend new rows ≡ rows ++ new ∷ []

  pub absent : (rows : List T) (n : ℕ) → find_from passes n rows ≡ None → Absent rows
  absent [] n e = record { first = refl; added = λ amend new. refl }
  absent (r ∷ rs) n e = either (passes r) refl e (absent rs (n + 1))
    where
      either : (b : Bool) → passes r ≡ b → cond b (Some n) (find_from passes (n + 1) rs) ≡ None → (find_from passes (n + 1) rs ≡ None → Absent rs) → Absent (r ∷ rs)
      either true q e more = absurd (let z : ◌≡◌ {A = ℕ} 0 1 = cc in omega arith)
      either false q e more =
          let rest = more e in
          record {
            first = ap (λ b. cond b (Some r) (first_of passes rs)) q ∙ rest.first;
            added = λ amend new. ap (λ b. cond b (amend r ∷ rs) (r ∷ upsert passes amend new rs)) q ∙ ap (λ ys. r ∷ ys) (rest.added amend new);
          }

  module _ (amend : T → T) (new : T) where
    filed-others : (rows : List T) (i : ℕ) (blank : T) → i < length rows → passes (get_or rows i blank) ≡ false → get_or (upsert passes amend new rows) i blank ≡ get_or rows i blank
    filed-others [] i blank h e = absurd (omega arith)
    filed-others (r ∷ rs) zero blank h e = ap (λ b. get_or (cond b (amend r ∷ rs) (r ∷ upsert passes amend new rs)) zero blank) e
    filed-others (r ∷ rs) (suc i) blank h e = either (passes r) (filed-others rs i blank (omega arith) e)
      where
        either : (b : Bool) → get_or (upsert passes amend new rs) i blank ≡ get_or rs i blank → get_or (cond b (amend r ∷ rs) (r ∷ upsert passes amend new rs)) (suc i) blank ≡ get_or rs i blank
        either true more = refl
        either false more = more

    filed-fitting : passes new ≡ true → ((row : T) → passes row ≡ true → passes (amend row) ≡ true) → (rows : List T) → count_if passes (upsert passes amend new rows) ≡ max 1 (count_if passes rows)
    filed-fitting fresh keeps [] = ap (λ b. cond b 1 0 + 0) fresh
    filed-fitting fresh keeps (r ∷ rs) = either (passes r) refl (filed-fitting fresh keeps rs)
      where
        either : (b : Bool) → passes r ≡ b → count_if passes (upsert passes amend new rs) ≡ max 1 (count_if passes rs) → count_if passes (cond b (amend r ∷ rs) (r ∷ upsert passes amend new rs)) ≡ max 1 (cond b 1 0 + count_if passes rs)
        either true q more = ap (λ b. cond b 1 0 + count_if passes rs) (keeps r q) ∙ omega arith
        either false q more = ap (λ b. cond b 1 0 + count_if passes (upsert passes amend new rs)) q ∙ omega arith

    pub filed : (rows after : List T) → after ≡ upsert passes amend new rows → Filed passes amend new rows after
    filed rows after e =
        let there : Filed passes amend new rows (upsert passes amend new rows) = record {
          others = filed-others rows;
          amended = λ i row e read. (found rows i e).amended amend new row read;
          added = λ e. (absent rows 0 e).added amend new;
          fitting = λ fresh keeps. filed-fitting fresh keeps rows;
        } in
        subst (Filed passes amend new rows) (sym e) there

-- the figure beside the row that a search from n on answers
pub figure-found : {T F : Type 0} (other : F) (passes : T → Bool) (rows : List T) (xs : List F) (n k : ℕ) → length xs ≡ length rows → find_from passes n rows ≡ Some k →
    (n ≤ k) × (get_or xs (k - n) other ≡ figure_of other passes rows xs)
figure-found other passes [] xs n k l e = absurd (let z : ◌≡◌ {A = ℕ} 0 1 = cc in omega arith)
figure-found other passes (r ∷ rs) [] n k l e = absurd (omega arith)
figure-found other passes (r ∷ rs) (x ∷ xs) n k l e = either (passes r) e (figure-found other passes rs xs (n + 1) k (omega arith))
  where
    either : (b : Bool) → cond b (Some n) (find_from passes (n + 1) rs) ≡ Some k → (find_from passes (n + 1) rs ≡ Some k → (n + 1 ≤ k) × (get_or xs (k - (n + 1)) other ≡ figure_of other passes rs xs)) →
        (n ≤ k) × (get_or (x ∷ xs) (k - n) other ≡ cond b x (figure_of other passes rs xs))
    either true e more =
        let same : n ≡ k = cc in
        let none : k - n ≡ 0 = omega arith in
        (omega arith, ap (λ m. get_or (x ∷ xs) m other) none)
    either false e more =
        let rest = more e in
        let on : k - n ≡ suc (k - (n + 1)) = omega (arith, rest.0) in
        (omega (arith, rest.0), ap (λ m. get_or (x ∷ xs) m other) on ∙ rest.1)

pub figure-absent : {T F : Type 0} (other : F) (passes : T → Bool) (rows : List T) (xs : List F) (n : ℕ) → find_from passes n rows ≡ None → figure_of other passes rows xs ≡ other
figure-absent other passes [] xs n e = refl
figure-absent other passes (r ∷ rs) [] n e = refl
figure-absent other passes (r ∷ rs) (x ∷ xs) n e = either (passes r) e (figure-absent other passes rs xs (n + 1))
  where
    either : (b : Bool) → cond b (Some n) (find_from passes (n + 1) rs) ≡ None → (find_from passes (n + 1) rs ≡ None → figure_of other passes rs xs ≡ other) → cond b x (figure_of other passes rs xs) ≡ other
    either true e more = absurd (let z : ◌≡◌ {A = ℕ} 0 1 = cc in omega arith)
    either false e more = more e

-- a search finds a row exactly where one passes
pub found-has : {T : Type 0} (passes : T → Bool) (rows : List T) (n : ℕ) → is_some (find_from passes n rows) ≡ has passes rows
found-has passes [] n = refl
found-has passes (r ∷ rs) n = either (passes r) (found-has passes rs (n + 1))
  where
    either : (b : Bool) → is_some (find_from passes (n + 1) rs) ≡ has passes rs → is_some (cond b (Some n) (find_from passes (n + 1) rs)) ≡ (b || has passes rs)
    either true more = refl
    either false more = more

-- as many rows pass as are left by filtering
pub length-filtered : {T : Type 0} (passes : T → Bool) (rows : List T) → length (filter passes rows) ≡ count_if passes rows
length-filtered passes [] = refl
length-filtered passes (r ∷ rs) = either (passes r) (length-filtered passes rs)
  where
    either : (b : Bool) → length (filter passes rs) ≡ count_if passes rs → length (cond b (r ∷ filter passes rs) (filter passes rs)) ≡ cond b 1 0 + count_if passes rs
    either true e = omega (arith, e)
    either false e = omega (arith, e)
