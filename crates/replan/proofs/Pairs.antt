-- Groups and their plans, pair by pair.
use Rattle.std.proofs.Common.{◌≡◌, ℕ, ◌<◌, ◌≤◌, suc, List, [], ◌∷◌, length, get_or, ℤ, pos, nat_abs, refl, subst, arith}
use Rattle.terms.specs.declared.records.Group.{Group}
use Rattle.terms.specs.declared.records.Share.{Share}
use Rattle.division.specs.Rules.{pro_rata}
use Rattle.division.specs.Signed.{signed_parts}
use Rattle.planning.specs.Plans.{plans_of_shares, share_claims}

-- a plan small enough to be worked out, that was divided pro rata among the group's shares
pub record Workable (shares : List Share) (plans : List ℤ) (group : ℕ) (plan : ℤ) : Type 0 where
  pub small : nat_abs plan ≤ 128000000
  pub divided : plans_of_shares group shares plans ≡ signed_parts plan (pro_rata (nat_abs plan) (share_claims group shares))

abbrev pub AllWorkable : List Share → List ℤ → List Group → List ℤ → Type 0
AllWorkable shares plans [] ps = Unit {0}
AllWorkable shares plans (g ∷ gs) [] = Unit {0}
AllWorkable shares plans (g ∷ gs) (p ∷ ps) = Workable shares plans g.number p × AllWorkable shares plans gs ps

pub all_workable : (shares : List Share) (plans : List ℤ) (gs : List Group) (ps : List ℤ) →
    ((k : ℕ) (g : Group) → k < length gs → g ≡ get_or gs k g → Workable shares plans g.number (get_or ps k (pos 0))) → AllWorkable shares plans gs ps
all_workable shares plans [] ps each = tt
all_workable shares plans (g ∷ gs) [] each = tt
all_workable shares plans (g ∷ gs) (p ∷ ps) each = (each 0 g (omega arith) refl, all_workable shares plans gs ps (λ k h lt is. each (suc k) h (omega arith) is))

-- the next group and its plan, and those behind them
pub next_pair : {shares : List Share} {plans : List ℤ} {gs hs : List Group} {ps qs : List ℤ} {g : Group} {p : ℤ} →
    gs ≡ g ∷ hs → ps ≡ p ∷ qs → AllWorkable shares plans gs ps → Workable shares plans g.number p × AllWorkable shares plans hs qs
next_pair {shares} {plans} {gs} {hs} {ps} {qs} {g} {p} left right all =
    subst (λ (xs : List ℤ). AllWorkable shares plans (g ∷ hs) xs) right (subst (λ (xs : List Group). AllWorkable shares plans xs ps) left all)
