-- The steps of loops that write figures of rows, one after another: of every row, or of those that pass.
use Rattle.std.proofs.Common.{◌≡◌, ℕ, zero, suc, ◌+◌, ◌<◌, ◌≤◌, Bool, true, false, cond, ◌||◌, List, [], ◌∷◌, ◌++◌, map, length, get_or, take, set, sym, refl, ap, ◌∙◌, add-one, arith}
use Rattle.std.specs.List.{AllByRecursion}
use Rattle.std.proofs.lemmas.List.{map_more, take_more_set, take_all}
use Rattle.std.proofs.lemmas.Bool.{cond-true, cond-false}
use Rattle.tables.specs.Figures.{figured_if}

module _ {T F : Type 0} (figure : T → F) (rows : List T) (xs : List F) (i : ℕ) where
  pub written_more : (d : T) (v : F) → i < length rows → i < length xs → v ≡ figure (get_or rows i d) →
      take i xs ≡ map figure (take i rows) → take (i + 1) (set xs i v) ≡ map figure (take (i + 1) rows)
  written_more d v h k e inv =
      take_more_set xs i v k ∙ ap (λ q. q ++ v ∷ []) inv ∙ ap (λ y. map figure (take i rows) ++ y ∷ []) e ∙ sym (map_more figure rows i d h)

  pub written_all : length xs ≡ length rows → length rows ≤ i → take i xs ≡ map figure (take i rows) → xs ≡ map figure rows
  written_all l h inv = sym (take_all i xs (omega arith)) ∙ inv ∙ ap (map figure) (take_all i rows h)

-- one row more: it gets its figure if it passes
module _ {T F : Type 0} (passes : T → Bool) (figure : T → F) where
  figured_suc : (rows : List T) (xs : List F) (i : ℕ) (r : T) → i < length rows → i < length xs → r ≡ get_or rows i r →
      figured_if passes figure (take (suc i) rows) xs ≡ cond (passes r) (set (figured_if passes figure (take i rows) xs) i (figure r)) (figured_if passes figure (take i rows) xs)
  figured_suc [] xs i r h k e = absurd (omega arith)
  figured_suc (q ∷ rows) [] i r h k e = absurd (omega arith)
  figured_suc (q ∷ rows) (x ∷ xs) zero r h k e = ap (λ y. cond (passes y) (figure y) x ∷ xs) (sym e) ∙ go (passes r)
    where
      go : (b : Bool) → cond b (figure r) x ∷ xs ≡ cond b (figure r ∷ xs) (x ∷ xs)
      go true = refl
      go false = refl
  figured_suc (q ∷ rows) (x ∷ xs) (suc i) r h k e = ap (λ ys. cond (passes q) (figure q) x ∷ ys) (figured_suc rows xs i r (omega arith) (omega arith) e) ∙ go (passes r)
    where
      rest : List F
      rest = figured_if passes figure (take i rows) xs

      go : (b : Bool) → cond (passes q) (figure q) x ∷ cond b (set rest i (figure r)) rest ≡ cond b (cond (passes q) (figure q) x ∷ set rest i (figure r)) (cond (passes q) (figure q) x ∷ rest)
      go true = refl
      go false = refl

  module _ (rows : List T) (xs now' : List F) (i : ℕ) (r : T) (h : i < length rows) (k : length xs ≡ length rows) (read : r ≡ get_or rows i r) (inv : now' ≡ figured_if passes figure (take i rows) xs) where
    figured_on : figured_if passes figure (take (i + 1) rows) xs ≡ cond (passes r) (set (figured_if passes figure (take i rows) xs) i (figure r)) (figured_if passes figure (take i rows) xs)
    figured_on = ap (λ n. figured_if passes figure (take n rows) xs) (add-one i) ∙ figured_suc rows xs i r h (omega arith) read

    pub figured_yes : (v : F) → passes r ≡ true → v ≡ figure r → set now' i v ≡ figured_if passes figure (take (i + 1) rows) xs
    figured_yes v mine is = ap (λ ys. set ys i v) inv ∙ ap (λ y. set (figured_if passes figure (take i rows) xs) i y) is ∙ sym (figured_on ∙ cond-true _ _ _ mine)

    pub figured_no : passes r ≡ false → now' ≡ figured_if passes figure (take (i + 1) rows) xs
    figured_no other = inv ∙ sym (figured_on ∙ cond-false _ _ _ other)

  pub length_figured : (rows : List T) (xs : List F) → length (figured_if passes figure rows xs) ≡ length xs
  length_figured [] xs = refl
  length_figured (r ∷ rs) [] = refl
  length_figured (r ∷ rs) (x ∷ xs) = ap suc (length_figured rs xs)

  -- where no row passes, every row keeps its figure
  pub figured_never : ((r : T) → passes r ≡ false) → (rows : List T) (xs : List F) → figured_if passes figure rows xs ≡ xs
  figured_never w [] xs = refl
  figured_never w (r ∷ rs) [] = refl
  figured_never w (r ∷ rs) (x ∷ xs) = ap (λ y. y ∷ figured_if passes figure rs xs) (cond-false _ _ _ (w r)) ∙ ap (λ ys. x ∷ ys) (figured_never w rs xs)

  -- where every row passes, every figure is its row's
  pub figured_every : (rows : List T) (xs : List F) → length xs ≡ length rows → AllByRecursion (λ r. passes r ≡ true) rows → figured_if passes figure rows xs ≡ map figure rows
  figured_every [] [] l a = refl
  figured_every [] (x ∷ xs) l a = absurd (omega arith)
  figured_every (r ∷ rs) [] l a = absurd (omega arith)
  figured_every (r ∷ rs) (x ∷ xs) l a = ap (λ y. y ∷ figured_if passes figure rs xs) (cond-true _ _ _ a.0) ∙ ap (λ ys. figure r ∷ ys) (figured_every rs xs (omega arith) a.1)

-- two tests, one after the other
pub figured_twice : {T F : Type 0} (p q both : T → Bool) (f g h : T → F) → ((r : T) → both r ≡ (p r || q r)) → ((r : T) → p r ≡ true → f r ≡ h r) → ((r : T) → q r ≡ true → g r ≡ h r) →
    (rows : List T) (xs : List F) → figured_if q g rows (figured_if p f rows xs) ≡ figured_if both h rows xs
figured_twice p q both f g h e pf qg [] xs = refl
figured_twice p q both f g h e pf qg (r ∷ rs) [] = refl
figured_twice p q both f g h e pf qg (r ∷ rs) (x ∷ xs) =
    ap (λ y. y ∷ figured_if q g rs (figured_if p f rs xs)) (go (p r) (q r) refl refl ∙ ap (λ b. cond b (h r) x) (sym (e r))) ∙ ap (λ ys. cond (both r) (h r) x ∷ ys) (figured_twice p q both f g h e pf qg rs xs)
  where
    go : (a b : Bool) → p r ≡ a → q r ≡ b → cond b (g r) (cond a (f r) x) ≡ cond (a || b) (h r) x
    go true true s t = qg r t
    go false true s t = qg r t
    go true false s t = pf r s
    go false false s t = refl
