use Rattle.std.proofs.Common.{refl, ◌≡◌, rules, arith, length, ap, List, subst, sym, ◌≤◌, ℤ, nat_abs}
use Rattle.std.specs.List.{AllByRecursion}
use Rattle.terms.specs.declared.codes.Kind.TheVariants.{Generation, Negawatt}
use Rattle.terms.specs.declared.records.Group.{Group}
use Rattle.terms.specs.declared.records.Share.{Share}
use Rattle.terms.specs.Plans.{plan_of}
use Rattle.division.specs.Terms.{Keeps}
use Rattle.division.proofs.Signs.{back-small}
use Rattle.figures.specs.Rows.{of_kind}
use Rattle.figures.specs.Rules.{parts_by, length-parts_by, sum-parts_by}
use Rattle.figures.proofs.Parted.{Small, all-parts-small}
use Rattle.figures.proofs.plans.case.Goals as goal

pub invariant_of-holdings : goal.invariant_of-holdings
invariant_of-holdings c = record {
  few_groups = search rules;
  few_shares = omega (arith, ap length c.as_slice.ensures, c.draw_rows-shares.ensures.count);
  apart = c.groups-groups.ensures.apart;
  plans = c.groups-groups.ensures.plans;
  planned = subst (λ (xs : List Share). AllByRecursion (λ s. s.planned ≤ 2000000) xs) (sym c.as_slice.ensures) c.draw_rows-shares.ensures.fine;
}

-- no part of a group is larger than a contract's trades can be
pub loop-group-init : goal.loop-group-init
loop-group-init c =
    let t = c.corrected.result in
    let first = c.draw-first.result in
    let keeps : Keeps (parts_by first) = record { each = length-parts_by first; all = sum-parts_by first } in
    let kind = c.draw-pattern.result.second in
    let small : AllByRecursion Small c.correct.new.parts =
    all-parts-small (parts_by first) (parts_by c.draw-second.result) keeps (of_kind 11 Generation) (of_kind 12 kind) (of_kind 13 Negawatt) refl refl refl
    t.lines.now t.figures.now (record { room = t.room; small = t.small; allowed = t.allowed }) c.groups-groups.result c.as_slice.result.now c.groups-groups.ensures.homes
    _ c.correct.new.parts _ c.correct.new.plans (omega (arith, c.correct.auto.parts)) c.correct.ensures in
    let groups : c.into_iter-group-iterator.result.a.rest.now ≡ c.groups-groups.result = cc in
    let parts : c.into_iter-group-iterator.result.b.rest.now ≡ c.correct.new.parts = cc in
    record {
      filed = subst (λ (gs : List Group). AllByRecursion (λ g. plan_of g ≤ 2000000) gs) (sym groups) c.groups-groups.ensures.plans;
      small = subst (λ (ps : List ℤ). AllByRecursion Small ps) (sym parts) small;
    }

pub loop-group-preserved : goal.loop-group-preserved
loop-group-preserved c =
    let steps = c.in-Some.ensures.steps in
    record {
      filed = (subst (λ (gs : List Group). AllByRecursion (λ g. plan_of g ≤ 2000000) gs) steps.0 c.loop-group.invariant.filed).1;
      small = (subst (λ (ps : List ℤ). AllByRecursion Small ps) steps.1 c.loop-group.invariant.small).1;
    }

pub group_plan-requires : goal.group_plan-requires
group_plan-requires c =
    let steps = c.in-Some.ensures.steps in
    let small = (subst (λ (ps : List ℤ). AllByRecursion Small ps) steps.1 c.loop-group.invariant.small).0 in (
      omega (arith, small, ap nat_abs (back-small c.in-Some.part.now small)),
      (subst (λ (gs : List Group). AllByRecursion (λ g. plan_of g ≤ 2000000) gs) steps.0 c.loop-group.invariant.filed).0,
    )
