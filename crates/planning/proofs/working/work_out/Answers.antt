use Rattle.std.proofs.Common.{List, map, length, ℤ, nat_abs, sum, sym, refl, ap, ◌∙◌, subst, arith, w64, to_z, of_z}
use Rattle.tables.specs.Listed.{listed}
use Rattle.division.specs.Signed.{with_sign}
use Rattle.division.proofs.Signs.{back}
use Rattle.planning.specs.declared.working.Working.{Working}
use Rattle.planning.specs.Workings.{working_of, Explains}
use Rattle.planning.proofs.Explaining.{as_shown, show_sum, parts_within, explained, lines-names}
use Rattle.planning.proofs.working.work_out.Goals as goal

pub total-requires : goal.total-requires
total-requires g c =
    let e = as_shown g.T.Owned.owned g.T.Claimant.known c.args.owner c.args.whole c.args.rows.now c.args.claims.now c.args.figures.now c.requires.each c.requires.room c.requires.divided (listed c.list_lines-lines.result) (to_z w64 (of_z w64 c.args.whole)) (back c.args.whole c.ranges.whole) c.list_lines-lines.ensures in
    omega (arith, show_sum g.T.Owned.owned g.T.Claimant.known c.args.owner c.args.whole c.args.rows.now c.args.claims.now c.args.figures.now c.requires.each c.requires.room c.requires.divided c.as_slice.result.now (c.as_slice.ensures ∙ e), parts_within (nat_abs c.args.whole) c.args.claims.now, c.requires.small)

pub with_sign-together-requires : goal.with_sign-together-requires
with_sign-together-requires g c =
    let e = as_shown g.T.Owned.owned g.T.Claimant.known c.args.owner c.args.whole c.args.rows.now c.args.claims.now c.args.figures.now c.requires.each c.requires.room c.requires.divided (listed c.list_lines-lines.result) (to_z w64 (of_z w64 c.args.whole)) (back c.args.whole c.ranges.whole) c.list_lines-lines.ensures in
    omega (arith, c.total.ensures, show_sum g.T.Owned.owned g.T.Claimant.known c.args.owner c.args.whole c.args.rows.now c.args.claims.now c.args.figures.now c.requires.each c.requires.room c.requires.divided c.as_slice.result.now (c.as_slice.ensures ∙ e), parts_within (nat_abs c.args.whole) c.args.claims.now, c.requires.small)

pub returns : goal.returns
returns g c =
    let owned = g.T.Owned.owned in
    let known = g.T.Claimant.known in
    let rows = c.args.rows.now in
    let cs = c.args.claims.now in
    let xs = c.args.figures.now in
    let e = as_shown g.T.Owned.owned g.T.Claimant.known c.args.owner c.args.whole c.args.rows.now c.args.claims.now c.args.figures.now c.requires.each c.requires.room c.requires.divided (listed c.list_lines-lines.result) (to_z w64 (of_z w64 c.args.whole)) (back c.args.whole c.ranges.whole) c.list_lines-lines.ensures in
    let s = c.total.ensures ∙ show_sum g.T.Owned.owned g.T.Claimant.known c.args.owner c.args.whole c.args.rows.now c.args.claims.now c.args.figures.now c.requires.each c.requires.room c.requires.divided c.as_slice.result.now (c.as_slice.ensures ∙ e) in
    let w = c.with_sign-together in
    let together = back w.result (record { sfits = w.type_inv }) ∙ w.ensures ∙ ap (λ (z : ℤ). with_sign z c.total.result) (back c.args.whole c.ranges.whole) ∙ ap (with_sign c.args.whole) s in
    record {
      named = ap (map (λ (v : Working). v.number)) e ∙ lines-names owned known c.args.owner (working_of c.args.whole (sum cs) (length cs)) (λ v. v.number) (λ k l x. refl) rows cs xs c.requires.room;
      explained = subst (λ (l : List Working). Explains c.args.whole cs l (to_z w64 (of_z w64 w.result))) (sym e) (explained g.T.Owned.owned g.T.Claimant.known c.args.owner c.args.whole c.args.rows.now c.args.claims.now c.args.figures.now c.requires.each c.requires.room c.requires.divided (to_z w64 (of_z w64 w.result)) together);
    }
