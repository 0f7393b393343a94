-- What a line call and a result call set.
use Rattle.std.specs.Prelude.{ℕ}
use Rattle.book.specs.declared.rows.Figure.{Figure}
use Rattle.book.specs.declared.rows.Figure.TheVariants.{Planned, Agreed}

abbrev pub kwh_of : Figure → ℕ
kwh_of (Planned kwh) = kwh
kwh_of (Agreed kwh) = kwh
