use Rattle.std.proofs.Common.{rules, ◌≡◌, ◌∷◌, length, sym, ap, ◌∙◌, arith, w64, SFits, to_z, of_z}
use Rattle.std.specs.Slice.Iter.{iter_rest}
use Rattle.division.proofs.Signs.{back}
use Rattle.sharing.proofs.Steps.{count_yes, count_no, scatter_next, scatter_no, scatter_all}
use Rattle.sharing.proofs.rows.scatter.Goals as goal
use Rattle.sharing.proofs.rows.scatter.Goals.{then-owner, else-owner}

pub loop-i-preserved : goal.loop-i-preserved
loop-i-preserved g c =
    let owned = g.T.Owned.owned in
    let rows = c.args.rows.now in
    let i = c.loop-i.i in
    let x = c.index-rows-i.result in
    let parts = iter_rest c.loop-i.left in
    elim c.if-owner.branch [
      | then-owner w ↦
          let mine = sym c.owner.ensures ∙ w.if-owner.true in
          let m = count_yes owned c.args.owner rows i x (omega arith) c.index-rows-i.is mine in
          let p = w.unwrap.result.now in
          let step : parts ≡ p ∷ iter_rest w.next.new.self = search rules in
          let fits : SFits w64 p = search rules in (
            omega (arith, m, c.loop-i.invariant.0, ap length step, ap (λ l. length (iter_rest l)) w.left-is),
            rw (w.left-is, w.figures-is) (scatter_next owned c.args.owner rows i x (omega arith) c.index-rows-i.is parts (iter_rest w.next.new.self) c.loop-i.figures _ p (to_z w64 (of_z w64 p)) (omega arith) mine step (back p fits) c.loop-i.invariant.1),
          )
      | else-owner w ↦
          let other : owned x ≡ c.args.owner → ⊥ = λ e. w.if-owner.false (c.owner.ensures ∙ e) in
          let m = count_no owned c.args.owner rows i x (omega arith) c.index-rows-i.is other in (
            sym m ∙ c.loop-i.invariant.0 ∙ ap (λ l. length (iter_rest l)) (sym w.left-is),
            rw (w.left-is, w.figures-is) (scatter_no owned c.args.owner rows i x (omega arith) c.index-rows-i.is parts c.loop-i.figures _ (omega arith) other c.loop-i.invariant.1),
          )
    ]

pub returns : goal.returns
returns g c =
    scatter_all g.T.Owned.owned c.args.owner c.args.rows.now c.loop-i.i (iter_rest c.loop-i.left) c.loop-i.figures _ (omega arith) (omega arith) c.loop-i.invariant.1
