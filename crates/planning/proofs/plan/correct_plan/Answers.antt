use Rattle.std.proofs.Common.{◌≤◌, ℤ, nat_abs, sym, ◌∙◌, subst, arith}
use Rattle.division.proofs.Signs.{back}
use Rattle.planning.proofs.Deemed.{apart-small, shares-light, claims-light, limits_of}
use Rattle.planning.proofs.plan.correct_plan.Goals as goal

pub share_out_levels-requires : goal.share_out_levels-requires
share_out_levels-requires g c =
    let l = limits_of c.args.holdings.now in
    let own = c.own.ensures in
    let P : ℤ → Type 0 = λ z. nat_abs z ≤ 128000000 in
    record {
      few = l.few_shares;
      apart = l.apart;
      claims = claims-light c.args.contract c.args.holdings.now.groups.now c.args.holdings.now.shares.now l;
      heads = c.requires.groups;
      members = c.requires.shares;
      small = subst P (sym (back c.own.result (record { sfits = c.own.type_inv }) ∙ own)) (apart-small c.args.balance.now.sold c.args.balance.now.bought 128000000 c.requires.traded.0 c.requires.traded.1);
    }

pub invariant_of-levels : goal.invariant_of-levels
invariant_of-levels g c = record { few = omega (arith, c.args.holdings.now.few_groups); light = omega (arith, shares-light c.args.holdings.now.shares.now c.args.holdings.now.few_shares c.args.holdings.now.planned) }
