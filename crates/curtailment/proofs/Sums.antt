-- Supplied and imbalance together, under both methods.
use Rattle.std.proofs.Common.{◌≡◌, ℕ, ◌-◌, ◌≤◌, Bool, true, false, cond, ltb, ℤ, pos, ◌+ℤ◌, ◌-ℤ◌, refl, sym, subst, arith, ltb-false, ltb-true}
use Rattle.std.proofs.lemmas.Int.{ints}
use Rattle.terms.specs.declared.codes.Method.{Method}
use Rattle.terms.specs.declared.codes.Method.TheVariants.{One, Two}
use Rattle.curtailment.specs.declared.methods.Settled.{Settled}
use Rattle.curtailment.specs.Methods.{figures, settled_by, MethodsAgreeInSum}

abbrev pub Together : ℕ → ℤ → ℕ → Settled → Type 0
Together plan deemed used x = pos x.supplied +ℤ x.imbalance ≡ deemed +ℤ pos used -ℤ pos plan

either : (p : ℕ) (d : ℤ) (u : ℕ) (t : Bool) (x y : Settled) → (t ≡ true → Together p d u x) → (t ≡ false → Together p d u y) → Together p d u (cond t x y)
either p d u true x y f g = f refl
either p d u false x y f g = g refl

pub methods_agree_in_sum : MethodsAgreeInSum
methods_agree_in_sum One b p d u h =
    either p d u (ltb b u) (figures (u - p) 0 (d -ℤ pos 0)) _ (λ e. let l = ltb-true b u e in omega (arith, ints))
    (λ e. let k = ltb-false b u e in
    either p d u (ltb u (b - p)) (figures u p (d -ℤ pos p)) (figures (b - p) (b - u) (d -ℤ pos (b - u))) (λ f. omega (arith, ints)) (λ f. let m = ltb-false u (b - p) f in omega (arith, ints)))
methods_agree_in_sum Two b p d u h = omega (arith, ints)

-- so it is with whatever is settled by a method
pub settled-together : (method : Method) (b p : ℕ) (d : ℤ) (u : ℕ) (x : Settled) → x ≡ settled_by method b p d u → p ≤ b → Together p d u x
settled-together method b p d u x is h = subst (Together p d u) (sym is) (methods_agree_in_sum method b p d u h)
