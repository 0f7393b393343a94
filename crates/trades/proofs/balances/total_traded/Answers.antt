use Rattle.std.proofs.Common.{sum, ap, ◌∙◌, arith, lit<}
use Rattle.tables.proofs.Carrying.{carried_all}
use Rattle.trades.proofs.Sums.{trades-few, traded-light}
use Rattle.trades.proofs.balances.total_traded.Goals as goal

pub gather_fitting-gathered-requires : goal.gather_fitting-gathered-requires
gather_fitting-gathered-requires c =
    (lit< tt, (c.requires.room, omega (arith, trades-few c.args.direction c.args.contract c.args.lines.now, c.requires.allowed)))

pub total-requires : goal.total-requires
total-requires c =
    omega (arith, ap sum (carried_all c.as_slice.result.now), ap sum (c.as_slice.ensures ∙ c.gather_fitting-gathered.ensures), traded-light c.args.direction c.args.contract c.args.lines.now c.args.figures.now c.requires.allowed c.requires.small)

pub overflow_cast-result : goal.overflow_cast-result
overflow_cast-result c =
    record { fits = omega (arith, c.total.ensures, ap sum (carried_all c.as_slice.result.now), ap sum (c.as_slice.ensures ∙ c.gather_fitting-gathered.ensures), traded-light c.args.direction c.args.contract c.args.lines.now c.args.figures.now c.requires.allowed c.requires.small) }

pub returns : goal.returns
returns c =
    let e = c.total.ensures ∙ ap sum (carried_all c.as_slice.result.now) ∙ ap sum (c.as_slice.ensures ∙ c.gather_fitting-gathered.ensures) in
    record { value = e; within = omega (arith, e, traded-light c.args.direction c.args.contract c.args.lines.now c.args.figures.now c.requires.allowed c.requires.small) }
