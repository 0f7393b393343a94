use Rattle.std.proofs.Common.{◌≡◌, ◌++◌, length, take, drop}
use Rattle.std.specs.Slice.Iter.{iter_rest}
use Rattle.sharing.specs.Owners.{count_of, placed}
use Rattle.sharing.proofs.rows.scatter.Given as goal

abbrev pub invariant-loop-i : goal.invariant-loop-i
invariant-loop-i g l =
    let owned = g.T.Owned.owned in
    (count_of owned l.owner (drop l.i l.rows) ≡ length (iter_rest l.left))
    × (take l.i l.figures ++ placed owned l.owner (drop l.i l.rows) (iter_rest l.left) (drop l.i l.figures) ≡ placed owned l.owner l.rows l.parts l.initial.figures)
