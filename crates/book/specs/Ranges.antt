-- The ranges of what a caller files.
use Rattle.std.specs.Prelude.{ℕ, Bool, cond, ◌&&◌, ◌==◌, nat_le}
use Rattle.metering.specs.Lookup.{is_number}

-- The exchange, kind 1, is numbered 0, every other partner from 1 to 99,999.
abbrev pub is_partner : ℕ → ℕ → Bool
is_partner kind number = cond (kind == 1) (number == 0) (is_number number)

-- A kWh figure, a rank and a loss multiplier in ten-thousandths.
abbrev pub is_figure : ℕ → Bool
is_figure kwh = nat_le kwh 2000000

abbrev pub is_rank : ℕ → Bool
is_rank rank = nat_le 1 rank && nat_le rank 99

abbrev pub is_multiplier : ℕ → Bool
is_multiplier multiplier = nat_le 10000 multiplier && nat_le multiplier 12000
