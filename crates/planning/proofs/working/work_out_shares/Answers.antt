use Rattle.std.proofs.Common.{length, nat_abs, sum, ap, ◌∙◌, arith}
use Rattle.terms.specs.declared.records.Share.{Share}
use Rattle.division.proofs.Signs.{back}
use Rattle.sharing.proofs.Steps.{length-claims}
use Rattle.sharing.proofs.Levelling.{claims-within}
use Rattle.planning.specs.Plans.{share_claims, plans_of_shares}
use Rattle.planning.proofs.Deemed.{shares-light}
use Rattle.planning.proofs.Explaining.{divided_as}
use Rattle.planning.proofs.working.work_out_shares.Goals as goal

pub work_out-requires : goal.work_out-requires
work_out-requires c =
    let shares = c.args.shares.now in
    let listed = c.as_slice.ensures ∙ c.gather-claims.ensures in
    let within = claims-within (λ (s : Share). s.group) (λ (s : Share). s.planned) c.args.group shares in
    let whole = back c.args.plan c.ranges.plan in
    record {
      few = c.requires.few;
      room = c.requires.room;
      each = ap length listed ∙ length-claims (λ (s : Share). s.group) c.args.group (λ (s : Share). s.planned) shares;
      light = omega (arith, ap sum listed, within, shares-light shares c.requires.few c.requires.planned);
      small = omega (arith, ap nat_abs whole, c.requires.small);
      divided = divided_as (plans_of_shares c.args.group shares c.args.share_plans.now) c.args.plan _ (share_claims c.args.group shares) _ whole listed c.requires.divided;
    }
