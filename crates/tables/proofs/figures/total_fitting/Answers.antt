use Rattle.std.proofs.Common.{ℕ, ◌^◌, ◌<◌, sum, sym, ap, ◌∙◌, subst, arith, lit<}
use Rattle.tables.proofs.Carrying.{carried_all}
use Rattle.tables.proofs.Gathering.{count_few}
use Rattle.tables.proofs.figures.total_fitting.Goals as goal

pub gather_fitting-gathered-requires : goal.gather_fitting-gathered-requires
gather_fitting-gathered-requires g c = (lit< tt, (c.requires.room, omega (arith, count_few (g.T.Keyed.fits c.args.key) c.args.rows.now, c.requires.few)))

pub total-requires : goal.total-requires
total-requires g c =
    let e = ap sum (carried_all c.as_slice.result.now) ∙ ap sum (c.as_slice.ensures ∙ c.gather_fitting-gathered.ensures) in
    subst (λ (n : ℕ). n < 2 ^ 64) (sym e) c.requires.light

pub returns : goal.returns
returns g c = c.total.ensures ∙ ap sum (carried_all c.as_slice.result.now) ∙ ap sum (c.as_slice.ensures ∙ c.gather_fitting-gathered.ensures)
