-- No group's part is larger than a contract's trades can be.
use Rattle.std.proofs.Common.{◌≡◌, ℕ, ◌<◌, ◌≤◌, ◌⊎◌, List, [], ◌∷◌, length, get_or, ℤ, pos, nat_abs, sym, refl, ◌∙◌, subst, inl, inr, arith}
use Rattle.std.specs.List.{AllByRecursion}
use Rattle.std.proofs.ByRecursion.{All-get_or, All-from_get_or, All-map, All-weaker}
use Rattle.std.proofs.lemmas.List.{get_or_default}
use Rattle.std.proofs.lemmas.Bool.{cases_eq}
use Rattle.terms.specs.declared.codes.Direction.TheVariants.{Sale, Purchase}
use Rattle.terms.specs.declared.records.Contract.{Contract}
use Rattle.terms.specs.declared.records.Group.{Group}
use Rattle.terms.specs.declared.records.GroupSort.TheVariants.{Generation}
use Rattle.terms.specs.declared.records.Line.{Line}
use Rattle.terms.specs.declared.records.Share.{Share}
use Rattle.terms.specs.Plans.{claim_in}
use Rattle.trades.specs.Trades.{traded}
use Rattle.trades.proofs.Sums.{traded-light}
use Rattle.division.specs.Terms.{Keeps}
use Rattle.division.specs.Signed.{with_sign, signed_parts}
use Rattle.division.proofs.Signs.{nat_abs-sign, parts_small}
use Rattle.sharing.specs.Levels.{claim_of}
use Rattle.sharing.proofs.Steps.{length-claims}
use Rattle.sharing.proofs.Placing.{own-figure, some-row}
use Rattle.planning.specs.Plans.{group_claims}
use Rattle.planning.specs.All.{PlansCorrected}
use Rattle.trades.specs.Trades.{net_of, Trading}
use Rattle.planning.proofs.Deemed.{apart-small}
use Rattle.figures.specs.Rows.{homed}

abbrev pub Small : ℤ → Type 0
Small z = nat_abs z ≤ 128000000

own-small : (c : ℕ) (ls : List Line) (fs : List ℕ) → Trading ls fs → nat_abs (net_of c ls fs) ≤ 128000000
own-small c ls fs t =
    apart-small (traded Sale c ls fs) (traded Purchase c ls fs) 128000000 (traded-light Sale c ls fs (t.allowed c) t.small) (traded-light Purchase c ls fs (t.allowed c) t.small)

signed_small : (rule : ℕ → List ℕ → List ℕ) → Keeps rule → (w : ℤ) (claims : List ℕ) → 1 ≤ length claims → nat_abs w ≤ 128000000 → AllByRecursion Small (signed_parts w (rule (nat_abs w) claims))
signed_small rule keeps w claims some small =
    let low : AllByRecursion (λ p. p ≤ 128000000) (rule (nat_abs w) claims) = parts_small (rule (nat_abs w) claims) (nat_abs w) 128000000 (keeps.all (nat_abs w) claims some) small in
    All-map Small (with_sign w) (rule (nat_abs w) claims) (All-weaker (λ p. p ≤ 128000000) (λ p. Small (with_sign w p)) (λ p q. omega (arith, nat_abs-sign w p)) (rule (nat_abs w) claims) low)

module _ (first second : ℕ → List ℕ → List ℕ) (keeps : Keeps first) (contracts : List Contract) (lines : List Line) (figures : List ℕ) (trading : Trading lines figures) (groups : List Group) (shares : List Share)
    (gb ga sb sa : List ℤ) (room : length ga ≡ length groups) (done : PlansCorrected first second contracts lines figures groups shares gb ga sb sa) where
  -- the part of a group of the contract at j
  part_small : (j : ℕ) (c : Contract) → j < length contracts → c ≡ get_or contracts j c → (k : ℕ) (g : Group) → k < length groups → g ≡ get_or groups k g → g.contract ≡ c.number → Small (get_or ga k (pos 0))
  part_small j c l e k g h r o =
      let claimed : Group → ℕ = claim_of (λ (g : Group). claim_in g.sort) (λ (g : Group). g.number) (λ (s : Share). s.group) (λ (s : Share). s.planned) shares in
      let some : 1 ≤ length (group_claims c.number groups shares) = omega (arith, some-row (λ (g : Group). g.contract) c.number groups k g h r o, length-claims (λ (g : Group). g.contract) c.number claimed groups) in
      own-figure (λ (g : Group). g.contract) c.number Small groups ga room
      (subst (AllByRecursion Small) (sym (done.group_parts j c l e)) (signed_small first keeps (net_of c.number lines figures) (group_claims c.number groups shares) some (own-small c.number lines figures trading)))
      k g h r o

one_of : (n : ℕ) → homed n → (n ≡ 11) ⊎ ((n ≡ 12) ⊎ (n ≡ 13))
one_of n h =
    elim (cases_eq n 11) [
      | inl e ↦ inl e
      | inr x ↦ elim (cases_eq n 12) [
        | inl e ↦ inr (inl e)
        | inr y ↦ inr (inr (omega (arith, h.0, h.1)))
      ]
    ]

pub all-parts-small : (first second : ℕ → List ℕ → List ℕ) → Keeps first → (x y z : Contract) → x.number ≡ 11 → y.number ≡ 12 → z.number ≡ 13 →
    (lines : List Line) (figures : List ℕ) → Trading lines figures → (groups : List Group) (shares : List Share) → AllByRecursion (λ (g : Group). homed g.contract) groups →
    (gb ga sb sa : List ℤ) → length ga ≡ length groups → PlansCorrected first second (x ∷ y ∷ z ∷ []) lines figures groups shares gb ga sb sa → AllByRecursion Small ga
all-parts-small first second keeps x y z ex ey ez lines figures trading groups shares homes gb ga sb sa room done = All-from_get_or Small ga (pos 0) at
  where
    at : (k : ℕ) → k < length ga → Small (get_or ga k (pos 0))
    at k h =
        let blank : Group = record { number = 0; contract = 0; sort = Generation } in
        let lt : k < length groups = omega (arith, room) in
        let g = get_or groups k blank in
        let r : g ≡ get_or groups k g = get_or_default groups k blank g lt in
        let small = part_small first second keeps (x ∷ y ∷ z ∷ []) lines figures trading groups shares gb ga sb sa room done in
        elim (one_of g.contract (All-get_or (λ (g : Group). homed g.contract) groups k blank lt homes)) [
          | inl e ↦ small 0 x (omega arith) refl k g lt r (e ∙ sym ex)
          | inr s ↦ elim s [
            | inl e ↦ small 1 y (omega arith) refl k g lt r (e ∙ sym ey)
            | inr e ↦ small 2 z (omega arith) refl k g lt r (e ∙ sym ez)
          ]
        ]
