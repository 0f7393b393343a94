-- The readings that the two kinds of row give.
use Rattle.std.specs.Prelude.{ℕ, ◌+◌, ◌-◌, ◌*◌, ◌%◌, Bool, cond, ◌&&◌, Some, None, Option, nat_le}
use Rattle.metering.specs.Lookup.{is_number}
use Rattle.metering.specs.declared.half_hour.HalfHourRow.{HalfHourRow}
use Rattle.metering.specs.declared.register.RegisterRow.{RegisterRow}

-- The kWh of a reading; a meter without one counts as 0.
abbrev pub kwh_of : Option ℕ → ℕ
kwh_of None = 0
kwh_of (Some kwh) = kwh

-- A half-hour row with a meter number and at most 2,000,000 kWh gives its kWh; any other gives none.
abbrev pub half_hour_reading : HalfHourRow → Option ℕ
half_hour_reading row = cond (is_number row.number && nat_le row.kwh 2000000) (Some row.kwh) None

-- How far a register went on: end less start modulo 100,000, which is never below zero.
-- Start is at most 99,999, so adding 100,000 first keeps the difference above zero and leaves the remainder as it is.
abbrev pub advance : ℕ → ℕ → ℕ
advance start end = (end + 100000 - start) % 100000

-- The ranges of a register row: a meter number, start and end of 0 to 99,999, a factor of 1 to 20.
abbrev pub register_fits : RegisterRow → Bool
register_fits row = is_number row.number && nat_le row.start 99999 && nat_le row.end 99999 && nat_le 1 row.factor && nat_le row.factor 20

-- A register row within its ranges gives its advance times its factor; any other gives none.
abbrev pub register_reading : RegisterRow → Option ℕ
register_reading row = cond (register_fits row) (Some (advance row.start row.end * row.factor)) None
