use Rattle.std.proofs.Common.{arith}
use Rattle.std.proofs.lemmas.List.{at_drop_all}
use Rattle.tables.specs.Keys.{count_if}
use Rattle.tables.proofs.Finding.{count_on}
use Rattle.tables.proofs.keys.count_fitting.Goals as goal
use Rattle.tables.proofs.keys.count_fitting.Goals.{then-is, else-is}

pub loop-row-preserved : goal.loop-row-preserved
loop-row-preserved g c =
    let on = count_on (g.T.Keyed.fits c.args.key) c.args.rows.now c.loop-row.row-index c.row-item.result c.is.result c.loop-row-test.true c.row-item.is c.is.ensures in
    elim c.if-is.branch [
      | then-is w ↦ let here = simp w.if-is.true at on in (omega (arith, w.count-is), omega (arith, w.count-is, here, c.loop-row.invariant.1))
      | else-is w ↦ let here = simp w.if-is.false at on in (omega (arith, w.count-is), omega (arith, w.count-is, here, c.loop-row.invariant.1))
    ]

pub returns : goal.returns
returns g c =
    omega (arith, c.loop-row.invariant.1, at_drop_all (count_if (g.T.Keyed.fits c.args.key)) c.args.rows.now c.loop-row.row-index c.loop-row-test.false)
