use Rattle.std.proofs.Common.{◌≡◌, ℕ, ◌<◌, List, [], ◌∷◌, length, get_or, ℤ, pos, nat_abs, sym, refl, ap, ◌∙◌, subst, arith}
use Rattle.std.proofs.ByRecursion.{All-get_or}
use Rattle.terms.specs.declared.records.Group.{Group}
use Rattle.division.proofs.Signs.{back-small}
use Rattle.planning.specs.Plans.{plans_of_shares, share_claims}
use Rattle.planning.proofs.Deemed.{apart-small}
use Rattle.planning.proofs.Explaining.{divided_as}
use Rattle.replan.proofs.Pairs.{Workable, AllWorkable, all_workable, next_pair}
use Rattle.replan.proofs.replan.Goals as goal

pub loop-group-init : goal.loop-group-init
loop-group-init c =
    let shares = c.args.example.now.shares.now in
    let plans = c.correct_plan.new.share_plans in
    let groups : List Group = c.group.result ∷ c.group-2.result ∷ [] in
    let p = c.correct_plan.ensures in
    let whole = apart-small c.of-balance.result.sold c.of-balance.result.bought 128000000 (omega arith) (omega arith) in
    let own : (k : ℕ) (g : Group) → k < length groups → g ≡ get_or groups k g → g.contract ≡ 11 = λ k g lt is.
    ap (λ (h : Group). h.contract) is ∙ All-get_or (λ (h : Group). h.contract ≡ 11) groups k g lt (c.group.ensures.contract, (c.group-2.ensures.contract, tt)) in
    let each : (k : ℕ) (g : Group) → k < length groups → g ≡ get_or groups k g → Workable shares plans g.number (get_or c.correct_plan.new.group_plans k (pos 0)) = λ k g lt is.
    record { small = omega (arith, p.heads_shared.within k g lt is (own k g lt is), whole); divided = p.parts k g lt is (own k g lt is) } in
    let left : c.into_iter-group-iterator.result.a.rest.now ≡ groups = cc in
    let right : c.into_iter-group-iterator.result.b.rest.now ≡ c.correct_plan.new.group_plans = cc in
    subst (λ (gs : List Group). AllWorkable shares plans gs c.into_iter-group-iterator.result.b.rest.now) (sym left)
    (subst (λ (ps : List ℤ). AllWorkable shares plans groups ps) (sym right) (all_workable shares plans groups c.correct_plan.new.group_plans each))

pub loop-group-preserved : goal.loop-group-preserved
loop-group-preserved c = (next_pair c.in-Some.ensures.steps.0 c.in-Some.ensures.steps.1 c.loop-group.invariant).1

pub work_out_shares-worked-requires-clause-small : goal.work_out_shares-worked-requires-clause-small
work_out_shares-worked-requires-clause-small c =
    let workable = (next_pair c.in-Some.ensures.steps.0 c.in-Some.ensures.steps.1 c.loop-group.invariant).0 in
    omega (arith, workable.small, ap nat_abs (back-small c.in-Some.plan.now workable.small))

pub work_out_shares-worked-requires-clause-divided : goal.work_out_shares-worked-requires-clause-divided
work_out_shares-worked-requires-clause-divided c =
    let shares = c.args.example.now.shares.now in
    let number = c.in-Some.group.now.number in
    let plan = c.in-Some.plan.now in
    let workable = (next_pair c.in-Some.ensures.steps.0 c.in-Some.ensures.steps.1 c.loop-group.invariant).0 in
    divided_as (plans_of_shares number shares c.correct_plan.new.share_plans) plan _ (share_claims number shares) (share_claims number shares) (back-small plan workable.small) refl workable.divided
