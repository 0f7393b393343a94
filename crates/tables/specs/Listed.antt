use Rattle.std.specs.Prelude.{ℕ, Bool, List, length, take, ◌==◌}
use Rattle.tables.specs.declared.Table.{Table}

-- The listed rows of a table, in order.
abbrev pub listed : {T : Type 0} {N : ℕ} → Table T N → List T
listed t = take t.len t.rows

-- What stands at each place of a table, listed or not.
abbrev pub places : {T : Type 0} {N : ℕ} → Table T N → List T
places t = t.rows

-- Whether as many rows are listed as the table has places.
abbrev pub full : {T : Type 0} {N : ℕ} → Table T N → Bool
full {T} {N} t = length (listed t) == N
