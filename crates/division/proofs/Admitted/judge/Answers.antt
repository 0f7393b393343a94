use Rattle.std.proofs.Common.{rules, ◌≡◌, ℕ, ◌<◌, ◌≤◌, List, Some, None, sum, sym, ap, ◌∙◌, subst, arith}
use Rattle.std.proofs.lemmas.Bool.Decides.{nat_tests}
use Rattle.std.specs.Prelude.{MatchOption, Option}
use Rattle.tables.specs.Carried.{carried_by}
use Rattle.tables.specs.declared.totals.Whose.TheVariants.{Everyone}
use Rattle.tables.proofs.Asking.{ok_or-Ok, ok_or-Err}
use Rattle.tables.proofs.Carrying.{carried_all}
use Rattle.division.proofs.Admitting.{too_heavy}
use Rattle.division.proofs.Admitted.judge.Goals as goal

-- what the totalling of the claims answers
abbrev Told : List ℕ → Option ℕ → Type 0
Told claims o =
    let all = sum (carried_by Everyone (λ _. 0) (λ x. x) claims) in
    MatchOption o (6144000000 < all) (λ t. (t ≡ all) × (t ≤ 6144000000))

pub returns-in_err-total : goal.returns-in_err-total
returns-in_err-total c =
    let none = ok_or-Err _ _ _ (sym c.ok_or.ensures.value ∙ c.in_err-total.was) in
    let heavy : Told c.args.claims.now None = subst (Told c.args.claims.now) none.0 c.total_within.ensures in
    let refused = too_heavy c.args.whole c.args.claims.now c.args.room (omega (arith, ap sum (carried_all c.args.claims.now), heavy)) in
    search rules

pub invariant_of-result : goal.invariant_of-result
invariant_of-result c =
    let told : Told c.args.claims.now (Some c.in_ok-total.total) = subst (Told c.args.claims.now) (ok_or-Ok _ _ _ (sym c.ok_or.ensures.value ∙ c.in_ok-total.was)) c.total_within.ensures in
    let s = ap sum (carried_all c.args.claims.now) in
    record {
      some = grind (arith, nat_tests);
      few = omega arith;
      small = omega arith;
      light = omega (arith, s, told.0, told.1);
      added = told.0 ∙ s;
    }
