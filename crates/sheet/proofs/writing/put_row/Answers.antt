use Rattle.std.proofs.Common.{arith, w64, SFits, rules}
use Rattle.std.proofs.lemmas.Int.{to_z-of_z}
use Rattle.sheet.proofs.Puts.{put_then, put_is}
use Rattle.sheet.proofs.Rows.{row_joined, row_long}
use Rattle.sheet.proofs.writing.put_row.Goals as goal

pub put_figure-contract-requires : goal.put_figure-contract-requires
put_figure-contract-requires c = simp c.code.ensures (omega (arith, row_long c.args.row))

pub put_figure-group-requires : goal.put_figure-group-requires
put_figure-group-requires c =
    let p0 = simp c.code.ensures at c.put_figure-contract.ensures.ends in
    omega (arith, row_long c.args.row)

pub put_figure-plan-requires : goal.put_figure-plan-requires
put_figure-plan-requires c =
    let p0 = simp c.code.ensures at c.put_figure-contract.ensures.ends in
    omega (arith, row_long c.args.row)

pub put_figure-measured-requires : goal.put_figure-measured-requires
put_figure-measured-requires c =
    let f : SFits w64 c.args.row.plan = search rules in
    let p0 = simp c.code.ensures at c.put_figure-contract.ensures.ends in
    simp to_z-of_z (omega (arith, row_long c.args.row))

pub put_figure-imbalance-requires : goal.put_figure-imbalance-requires
put_figure-imbalance-requires c =
    let f : SFits w64 c.args.row.plan = search rules in
    let p0 = simp c.code.ensures at c.put_figure-contract.ensures.ends in
    let p3 = simp to_z-of_z at c.put_figure-measured.ensures.ends in
    omega (arith, row_long c.args.row)

pub put_figure-requires : goal.put_figure-requires
put_figure-requires c =
    let f : SFits w64 c.args.row.plan = search rules in
    let g : SFits w64 c.args.row.imbalance = search rules in
    let p0 = simp c.code.ensures at c.put_figure-contract.ensures.ends in
    let p3 = simp to_z-of_z at c.put_figure-measured.ensures.ends in
    simp to_z-of_z (omega (arith, row_long c.args.row))

pub returns : goal.returns
returns c =
    let f : SFits w64 c.args.row.plan = search rules in
    let g : SFits w64 c.args.row.imbalance = search rules in
    let p0 = simp c.code.ensures at c.put_figure-contract.ensures in
    let p3 = simp to_z-of_z at c.put_figure-measured.ensures in
    let p5 = simp to_z-of_z at c.put_figure.ensures in
    put_is (row_joined c.args.row) (put_then _ _ (put_then _ _ (put_then _ _ (put_then _ _ (put_then _ _ p0 c.put_figure-group.ensures) c.put_figure-plan.ensures) p3) c.put_figure-imbalance.ensures) p5)
