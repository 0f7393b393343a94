use Rattle.std.proofs.Common.{ℕ, ◌≤◌, List, length, sym, ap, ◌∙◌, subst}
use Rattle.std.specs.List.{AllByRecursion}
use Rattle.division.proofs.Admitting.{admits}
use Rattle.division.proofs.Signs.{parts_small}
use Rattle.division.proofs.signed.divide_signed.Goals as goal

pub sign_parts-requires : goal.sign_parts-requires
sign_parts-requires g c =
    let rule = c.args.rule.now in
    let cs = c.args.claims.now in
    let met = g.met.R.DivisionRule in
    let e = c.in_ok-divide.ensures in
    let m = c.unsigned_abs.result in
    let a = admits m cs _ e.0 in
    let P : List ℕ → Type 0 = λ l. AllByRecursion (λ p. p ≤ 128000000) l in
    record {
      room = c.if-into-claims.false ∙ sym (ap length e.1 ∙ met.each rule m cs);
      small = subst P (sym e.1) (parts_small (g.R.DivisionRule.parts rule m cs) m 128000000 (met.all rule m cs a.some) a.small);
    }
