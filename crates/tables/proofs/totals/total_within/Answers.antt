use Rattle.std.proofs.Common.{◌≡◌, ℕ, Bool, sum, sym, ap, ◌∙◌, arith}
use Rattle.tables.specs.declared.totals.Whose.{Whose}
use Rattle.tables.specs.Carried.{counts}
use Rattle.tables.proofs.Carrying.{sum_yes, carried_no, carried_end}
use Rattle.tables.proofs.totals.total_within.Goals as goal
use Rattle.tables.proofs.totals.total_within.Goals.{then-counts+else-kwh-most, else-counts}

-- the test of the row's owner, as the answer of `counts` has it
tested : (whose : Whose) (owner owned : ℕ) (answer : Bool) → answer ≡ counts whose owner → owner ≡ owned → counts whose owned ≡ answer
tested whose owner owned answer e o = sym (e ∙ ap (counts whose) o)

pub returns-then-kwh-most : goal.returns-then-kwh-most
returns-then-kwh-most g c =
    let x = c.row-item.result in
    let p = tested c.args.whose _ _ _ c.if-counts.ensures c.owner.ensures in
    let step = sum_yes (λ r. counts c.args.whose (g.T.Owned.owned r)) g.T.Carries.carried c.args.rows.now c.loop-row.row-index x c.loop-row-test.true c.row-item.is p in
    omega (arith, step, c.kwh-kwh.ensures, c.loop-row.invariant.1)

pub loop-row-preserved : goal.loop-row-preserved
loop-row-preserved g c =
    let x = c.row-item.result in
    elim c.if-counts.branch [
      | then-counts+else-kwh-most w ↦
          let p = tested c.args.whose _ _ _ w.if-counts.ensures c.owner.ensures in
          let step = sum_yes (λ r. counts c.args.whose (g.T.Owned.owned r)) g.T.Carries.carried c.args.rows.now c.loop-row.row-index x c.loop-row-test.true c.row-item.is p in
          (omega (arith, w.total-is, w.if-kwh-most.false, c.loop-row.invariant.0), omega (arith, w.total-is, step, w.kwh-kwh.ensures, c.loop-row.invariant.1))
      | else-counts w ↦
          let p = tested c.args.whose _ _ _ w.if-counts.ensures c.owner.ensures in
          let step = ap sum (carried_no (λ r. counts c.args.whose (g.T.Owned.owned r)) g.T.Carries.carried c.args.rows.now c.loop-row.row-index x c.loop-row-test.true c.row-item.is p) in
          (omega (arith, w.total-is, c.loop-row.invariant.0), omega (arith, w.total-is, step, c.loop-row.invariant.1))
    ]

pub returns : goal.returns
returns g c =
    (omega (arith, c.loop-row.invariant.1, ap sum (carried_end (λ r. counts c.args.whose (g.T.Owned.owned r)) g.T.Carries.carried c.args.rows.now c.loop-row.row-index c.loop-row-test.false)), c.loop-row.invariant.0)
