use Rattle.std.proofs.Common.{length, nat_abs, sum, ap, ◌∙◌, arith}
use Rattle.terms.specs.declared.records.Group.{Group}
use Rattle.terms.specs.declared.records.Share.{Share}
use Rattle.terms.specs.Plans.{claim_in}
use Rattle.division.proofs.Signs.{back}
use Rattle.sharing.specs.Levels.{claim_of}
use Rattle.sharing.proofs.Steps.{length-claims}
use Rattle.planning.specs.Plans.{group_claims, plans_of_groups}
use Rattle.planning.proofs.Deemed.{shares-light, claims-light, limits_of}
use Rattle.planning.proofs.Explaining.{divided_as}
use Rattle.planning.proofs.working.work_out_groups.Goals as goal

pub invariant_of-levels : goal.invariant_of-levels
invariant_of-levels c = record { few = omega (arith, c.args.holdings.now.few_groups); light = omega (arith, shares-light c.args.holdings.now.shares.now c.args.holdings.now.few_shares c.args.holdings.now.planned) }

pub work_out-requires : goal.work_out-requires
work_out-requires c =
    let l = limits_of c.args.holdings.now in
    let groups = c.args.holdings.now.groups.now in
    let shares = c.args.holdings.now.shares.now in
    let listed = c.as_slice.ensures ∙ c.gather_heads-claims.ensures in
    let whole = back c.args.deemed c.ranges.deemed in
    record {
      few = omega (arith, l.few_groups);
      room = c.requires.room;
      each = ap length listed ∙ length-claims (λ (g : Group). g.contract) c.args.contract (claim_of (λ (g : Group). claim_in g.sort) (λ (g : Group). g.number) (λ (s : Share). s.group) (λ (s : Share). s.planned) shares) groups;
      light = omega (arith, ap sum listed, claims-light c.args.contract groups shares l);
      small = omega (arith, ap nat_abs whole, c.requires.small);
      divided = divided_as (plans_of_groups c.args.contract groups c.args.group_plans.now) c.args.deemed _ (group_claims c.args.contract groups shares) _ whole listed c.requires.divided;
    }
