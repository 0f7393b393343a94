use Rattle.std.proofs.Common.{length, nat_abs, sum, ap, ◌∙◌, arith, w64, to_z, of_z}
use Rattle.division.specs.Terms.{Keeps}
use Rattle.division.proofs.Signs.{back}
use Rattle.sharing.proofs.Steps.{length-claims, count_within}
use Rattle.sharing.proofs.Placing.{given-shared, shared_out}
use Rattle.sharing.proofs.rows.share_out.Goals as goal

pub give_out-requires : goal.give_out-requires
give_out-requires g c =
    let owned = g.T.Owned.owned in
    let rows = c.args.rows.now in
    let listed = c.as_slice.ensures ∙ c.gather-claims.ensures in
    let n = ap length listed ∙ length-claims owned c.args.owner g.T.Carries.carried rows in
    record {
      few = omega (arith, n, count_within owned c.args.owner rows, c.requires.few);
      each = n;
      light = omega (arith, ap sum listed, c.requires.light);
      small = omega (arith, ap nat_abs (back c.args.whole c.ranges.whole), c.requires.small);
      room = c.requires.room;
    }

pub returns : goal.returns
returns g c =
    let owned = g.T.Owned.owned in
    let rule = c.args.rule.now in
    let f = g.R.DivisionRule.parts rule in
    let met = g.met.R.DivisionRule in
    let rows = c.args.rows.now in
    let xs = c.args.figures.now in
    let listed = c.as_slice.ensures ∙ c.gather-claims.ensures in
    let keeps : Keeps f = record { each = met.each rule; all = met.all rule } in
    let e = given-shared f keeps owned g.T.Carries.carried c.args.owner c.args.whole rows xs c.as_slice.result.now (to_z w64 (of_z w64 c.args.whole)) c.give_out.new.figures listed (back c.args.whole c.ranges.whole) c.give_out.ensures in
    record {
      value = e;
      placed = shared_out f keeps owned g.T.Carries.carried c.args.owner c.args.whole rows xs c.give_out.new.figures c.requires.room e;
    }
