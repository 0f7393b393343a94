use Rattle.std.proofs.Common.{length, nat_abs, sum, ap, ◌∙◌, arith, w64, to_z, of_z}
use Rattle.division.specs.Terms.{Keeps}
use Rattle.division.proofs.Signs.{back}
use Rattle.sharing.specs.Levels.{claim_of}
use Rattle.sharing.proofs.Steps.{length-claims, count_within}
use Rattle.sharing.proofs.Placing.{given-shared, shared_out}
use Rattle.sharing.proofs.Levelling.{shared_on_levels}
use Rattle.sharing.proofs.levels.share_out_levels.Goals as goal

pub give_out-requires : goal.give_out-requires
give_out-requires g c =
    let owned = g.H.Owned.owned in
    let heads = c.args.levels.now.heads.now in
    let members = c.args.levels.now.members.now in
    let claimed = claim_of g.H.Head.claimed g.H.Head.numbered g.M.Owned.owned g.M.Carries.carried members in
    let listed = c.as_slice.ensures ∙ c.gather_heads-claims.ensures in
    let n = ap length listed ∙ length-claims owned c.args.owner claimed heads in
    record {
      few = omega (arith, n, count_within owned c.args.owner heads, c.args.levels.now.few);
      each = n;
      light = omega (arith, ap sum listed, c.requires.claims);
      small = omega (arith, ap nat_abs (back c.args.whole c.ranges.whole), c.requires.small);
      room = c.requires.heads;
    }

pub spread_out-requires : goal.spread_out-requires
spread_out-requires g c =
    let rule = c.args.first.now in
    let keeps : Keeps (g.A.DivisionRule.parts rule) = record { each = g.met.A.DivisionRule.each rule; all = g.met.A.DivisionRule.all rule } in
    let heads = c.args.levels.now.heads.now in
    let claimed = claim_of g.H.Head.claimed g.H.Head.numbered g.M.Owned.owned g.M.Carries.carried c.args.levels.now.members.now in
    let old = c.args.head_figures.now in
    let new = c.give_out.new.figures in
    let e = given-shared (g.A.DivisionRule.parts rule) keeps g.H.Owned.owned claimed c.args.owner c.args.whole heads old c.as_slice.result.now (to_z w64 (of_z w64 c.args.whole)) new (c.as_slice.ensures ∙ c.gather_heads-claims.ensures) (back c.args.whole c.ranges.whole) c.give_out.ensures in
    record {
      few = c.requires.few;
      heads = c.give_out.auto.figures ∙ c.requires.heads;
      members = c.requires.members;
      small = λ k h lt read mine. omega (arith, (shared_out (g.A.DivisionRule.parts rule) keeps g.H.Owned.owned claimed c.args.owner c.args.whole heads old new c.requires.heads e).within k h lt read mine, c.requires.small);
    }

pub returns : goal.returns
returns g c =
    let rule = c.args.first.now in
    let keeps : Keeps (g.A.DivisionRule.parts rule) = record { each = g.met.A.DivisionRule.each rule; all = g.met.A.DivisionRule.all rule } in
    let rule2 = c.args.second.now in
    let keeps2 : Keeps (g.B.DivisionRule.parts rule2) = record { each = g.met.B.DivisionRule.each rule2; all = g.met.B.DivisionRule.all rule2 } in
    let heads = c.args.levels.now.heads.now in
    let members = c.args.levels.now.members.now in
    let claimed = claim_of g.H.Head.claimed g.H.Head.numbered g.M.Owned.owned g.M.Carries.carried members in
    let old = c.args.head_figures.now in
    let new = c.give_out.new.figures in
    let e = given-shared (g.A.DivisionRule.parts rule) keeps g.H.Owned.owned claimed c.args.owner c.args.whole heads old c.as_slice.result.now (to_z w64 (of_z w64 c.args.whole)) new (c.as_slice.ensures ∙ c.gather_heads-claims.ensures) (back c.args.whole c.ranges.whole) c.give_out.ensures in
    record {
      heads = e;
      members = c.spread_out.ensures;
      levels = shared_on_levels (g.A.DivisionRule.parts rule) (g.B.DivisionRule.parts rule2) keeps keeps2 g.H.Head.claimed g.H.Owned.owned g.H.Head.numbered g.M.Owned.owned g.M.Carries.carried c.args.owner c.args.whole heads members old new c.args.member_figures.now c.spread_out.new.member_figures c.requires.apart c.requires.heads c.requires.members e c.spread_out.ensures;
    }
