use Rattle.std.proofs.Common.{rules, ◌≡◌, [], nat_abs, sym, ap, ◌∙◌}
use Rattle.std.proofs.lemmas.List.{nil_from_length}
use Rattle.division.specs.Signed.{signed_parts}
use Rattle.sharing.specs.Owners.{placed}
use Rattle.sharing.proofs.Steps.{placed-none}
use Rattle.sharing.proofs.rows.give_out.Goals as goal

pub returns-then-is_empty : goal.returns-then-is_empty
returns-then-is_empty g c =
    let owned = g.T.Owned.owned in
    let rule = c.args.rule.now in
    let m = nat_abs c.args.whole in
    let cs = c.args.claims.now in
    let rows = c.args.rows.now in
    let none : g.R.DivisionRule.parts rule m cs ≡ [] = nil_from_length _ (g.met.R.DivisionRule.each rule m cs ∙ (search rules)) in
    sym (ap (λ ps. placed owned c.args.owner rows (signed_parts c.args.whole ps) c.args.figures.now) none ∙ placed-none owned c.args.owner rows c.args.figures.now)
