use Rattle.std.proofs.Common.{rules, refl, ◌≡◌, ◌≤◌, ◌∷◌, ◌++◌, length, drop, get_or, pos, sum, sym, ap, subst, ◌∙◌, arith, w64, SFits, to_z, of_z}
use Rattle.std.specs.Slice.Iter.{iter_rest}
use Rattle.std.proofs.lemmas.List.{length_push}
use Rattle.std.proofs.lemmas.Slice.Zip.{zip_turn}
use Rattle.tables.specs.Listed.{listed}
use Rattle.tables.proofs.Carrying.{sum-cons, carried_all}
use Rattle.division.proofs.Signs.{back}
use Rattle.sharing.specs.Owners.{count_of}
use Rattle.sharing.proofs.Steps.{count_yes, count_no}
use Rattle.planning.specs.Workings.{working_of, workings}
use Rattle.planning.proofs.Lines.{lines_next, lines_no}
use Rattle.planning.proofs.working.list_lines.Goals as goal

pub total-all-requires : goal.total-all-requires
total-all-requires g c = omega (arith, ap sum (carried_all c.args.claims.now), c.requires.light)

pub work_out_part-requires-clause-some : goal.work_out_part-requires-clause-some
work_out_part-requires-clause-some g c =
    let t = zip_turn c.args.rows.now c.args.figures.now c.loop-row.yielded _ _ c.next.new.self c.next.result (cc) (cc) c.loop-row.yielded_by _ c.in-Some.is c.next.ensures.steps in
    let m = count_yes g.T.Owned.owned c.args.owner c.args.rows.now (length c.loop-row.yielded) c.in-Some.row.now t.0 (t.2 c.in-Some.row.now) (sym c.owner.ensures ∙ c.if-owner.true) in
    omega (arith, m, c.loop-row.invariant.1, c.loop-row.invariant.2)

pub loop-row-preserved-in-Some-next : goal.loop-row-preserved-in-Some-next
loop-row-preserved-in-Some-next g c =
    let owned = g.T.Owned.owned in
    let rows = c.args.rows.now in
    let xs = c.args.figures.now in
    let cs = c.args.claims.now in
    let i = length c.loop-row.yielded in
    let x = c.in-Some.row.now in
    let out = listed c.loop-row.lines in
    let ps = iter_rest c.loop-row.left in
    let qs = iter_rest c.next-then-owner.new.self in
    let p = c.in-Some-next.claim.now in
    let line = working_of (to_z w64 (of_z w64 c.args.whole)) (sum cs) (length cs) in
    let all = workings owned g.T.Claimant.known c.args.owner line in
    let t = zip_turn rows xs c.loop-row.yielded _ _ c.next.new.self c.next.result (cc) (cc) c.loop-row.yielded_by _ c.in-Some.is c.next.ensures.steps in
    let mine = sym c.owner.ensures ∙ c.if-owner.true in
    let m = count_yes owned c.args.owner rows i x t.0 (t.2 x) mine in
    let step : ps ≡ p ∷ qs = search rules in
    let fits : SFits w64 c.in-Some.figure.now = search rules in
    let is : c.work_out_part.result ≡ line (g.T.Claimant.known x) p (get_or xs i (pos 0)) =
    c.work_out_part.ensures
    ∙ ap (λ n. working_of (to_z w64 (of_z w64 c.args.whole)) n (length cs) c.known_by.result p (to_z w64 (of_z w64 c.in-Some.figure.now))) (c.total-all.ensures ∙ ap sum (carried_all cs))
    ∙ ap (λ k. line k p (to_z w64 (of_z w64 c.in-Some.figure.now))) c.known_by.ensures
    ∙ ap (line (g.T.Claimant.known x) p) (back c.in-Some.figure.now fits ∙ t.3 (pos 0)) in
    subst (λ n. (length (listed c.push.new.self) ≤ n) × (count_of owned c.args.owner (drop n rows) ≡ length qs) × (length qs ≤ length cs) × (sum qs ≤ sum cs) × (listed c.push.new.self ++ all (drop n rows) qs (drop n xs) ≡ all rows cs xs))
    (sym (length_push c.loop-row.yielded (c.in-Some.row, c.in-Some.figure))) (
      omega (arith, ap length c.push.ensures, length_push out c.work_out_part.result, c.loop-row.invariant.0),
      omega (arith, m, c.loop-row.invariant.1, ap length step),
      omega (arith, c.loop-row.invariant.2, ap length step),
      omega (arith, c.loop-row.invariant.3, ap sum step, sum-cons p qs),
      lines_next owned g.T.Claimant.known c.args.owner line rows i x t.0 (t.2 x) xs t.1 ps qs p step out _ _ c.work_out_part.result mine is c.push.ensures c.loop-row.invariant.4,
    )

pub loop-row-preserved : goal.loop-row-preserved
loop-row-preserved g c =
    let owned = g.T.Owned.owned in
    let rows = c.args.rows.now in
    let xs = c.args.figures.now in
    let cs = c.args.claims.now in
    let i = length c.loop-row.yielded in
    let x = c.in-Some.row.now in
    let ps = iter_rest c.loop-row.left in
    let line = working_of (to_z w64 (of_z w64 c.args.whole)) (sum cs) (length cs) in
    let all = workings owned g.T.Claimant.known c.args.owner line in
    let t = zip_turn rows xs c.loop-row.yielded _ _ c.next.new.self c.next.result (cc) (cc) c.loop-row.yielded_by _ c.in-Some.is c.next.ensures.steps in
    let other : owned x ≡ c.args.owner → ⊥ = λ e. c.if-owner.false (c.owner.ensures ∙ e) in
    let m = count_no owned c.args.owner rows i x t.0 (t.2 x) other in
    subst (λ n. (length (listed c.loop-row.lines) ≤ n) × (count_of owned c.args.owner (drop n rows) ≡ length ps) × (length ps ≤ length cs) × (sum ps ≤ sum cs) × (listed c.loop-row.lines ++ all (drop n rows) ps (drop n xs) ≡ all rows cs xs))
    (sym (length_push c.loop-row.yielded (c.in-Some.row, c.in-Some.figure))) (
      omega (arith, c.loop-row.invariant.0),
      sym m ∙ c.loop-row.invariant.1,
      c.loop-row.invariant.2,
      c.loop-row.invariant.3,
      lines_no owned g.T.Claimant.known c.args.owner line rows i x t.0 (t.2 x) ps 0 xs t.1 (listed c.loop-row.lines) _ _ other refl c.loop-row.invariant.4,
    )

-- a claim is left where a row is the owner's
pub loop-row-preserved-in_default : goal.loop-row-preserved-in_default
loop-row-preserved-in_default g c =
    let t = zip_turn c.args.rows.now c.args.figures.now c.loop-row.yielded _ _ c.next.new.self c.next.result (cc) (cc) c.loop-row.yielded_by _ c.in-Some.is c.next.ensures.steps in
    let m = count_yes g.T.Owned.owned c.args.owner c.args.rows.now (length c.loop-row.yielded) c.in-Some.row.now t.0 (t.2 c.in-Some.row.now) (sym c.owner.ensures ∙ c.if-owner.true) in
    absurd (omega (arith, m, c.loop-row.invariant.1, c.in_default.ensures.steps.0))
