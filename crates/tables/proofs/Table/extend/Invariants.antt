use Rattle.std.proofs.Common.{◌≡◌, ◌++◌}
use Rattle.tables.specs.Listed.{listed}
use Rattle.tables.proofs.Table.extend.Given as goal

abbrev pub invariant-loop-item : goal.invariant-loop-item
invariant-loop-item g l =
    (goal.iterator-loop-item g).can_next l.item-iterator × (goal.iterator-loop-item g).is_finite l.item-iterator
    × (listed l.self ≡ listed l.initial.self ++ l.yielded)
