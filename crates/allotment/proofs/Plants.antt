-- The output of all plants, one plant on.
use Rattle.std.proofs.Common.{◌≡◌, ℕ, zero, suc, ◌+◌, ◌<◌, Bool, true, false, ◌||◌, eqb, List, [], ◌∷◌, length, get_or, take, ℤ, sym, refl, ap, ◌∙◌, add-one, arith}
use Rattle.std.proofs.lemmas.Bool.{eqb-true}
use Rattle.tables.specs.Apart.{has}
use Rattle.tables.specs.Figures.{figured_if}
use Rattle.tables.proofs.Writing.{figured_twice, figured_never}
use Rattle.terms.specs.declared.records.Plant.{Plant}
use Rattle.terms.specs.declared.records.Share.{Share}
use Rattle.allotment.specs.Output.{part_at, allotted_to, is_at, at_one, outputs}

-- one more row is looked at
has-suc : {T : Type 0} (t : T → Bool) (xs : List T) (n : ℕ) (x : T) → n < length xs → x ≡ get_or xs n x → has t (take (suc n) xs) ≡ (has t (take n xs) || t x)
has-suc t [] n x h e = absurd (omega arith)
has-suc t (y ∷ ys) zero x h e = ap (λ z. t z || false) (sym e) ∙ or_none (t x)
  where
    or_none : (b : Bool) → (b || false) ≡ b
    or_none true = refl
    or_none false = refl
has-suc t (y ∷ ys) (suc n) x h e = ap (λ b. t y || b) (has-suc t ys n x (omega arith) e) ∙ or_assoc (t y) (has t (take n ys)) (t x)
  where
    or_assoc : (a b c : Bool) → (a || (b || c)) ≡ ((a || b) || c)
    or_assoc true b c = refl
    or_assoc false b c = refl

module _ (rule : ℕ → List ℕ → List ℕ) (reads : ℕ → ℕ) (plants : List Plant) (shares : List Share) (plans : List ℤ) (xs : List ℕ) where
  pub outputs-none : xs ≡ outputs rule reads (take 0 plants) shares plans xs
  outputs-none = sym (figured_never (at_one []) (allotted_to rule reads shares plans) (λ s. refl) shares xs)

  module _ (n : ℕ) (p : Plant) (within : n < length plants) (read : p ≡ get_or plants n p) (reading : ℕ) (is : reading ≡ reads p.meter) (now' new : List ℕ) (inv : now' ≡ outputs rule reads (take n plants) shares plans xs) where
    at_plant : (s : Share) → is_at p.meter s ≡ true → part_at rule p.meter (reads p.meter) shares plans s ≡ allotted_to rule reads shares plans s
    at_plant s e = ap (λ m. part_at rule m (reads m) shares plans s) (sym (eqb-true s.plant p.meter e))

    both : (s : Share) → at_one (take (n + 1) plants) s ≡ (at_one (take n plants) s || is_at p.meter s)
    both s = ap (λ m. has (λ (q : Plant). eqb s.plant q.meter) (take m plants)) (add-one n) ∙ has-suc (λ (q : Plant). eqb s.plant q.meter) plants n p within read

    pub outputs_more : new ≡ figured_if (is_at p.meter) (part_at rule p.meter reading shares plans) shares now' → new ≡ outputs rule reads (take (n + 1) plants) shares plans xs
    outputs_more step =
        step ∙ ap (λ r. figured_if (is_at p.meter) (part_at rule p.meter r shares plans) shares now') is
        ∙ ap (figured_if (is_at p.meter) (part_at rule p.meter (reads p.meter) shares plans) shares) inv
        ∙ figured_twice (at_one (take n plants)) (is_at p.meter) (at_one (take (n + 1) plants)) (allotted_to rule reads shares plans) (part_at rule p.meter (reads p.meter) shares plans) (allotted_to rule reads shares plans)
        both (λ s e. refl) at_plant shares xs
