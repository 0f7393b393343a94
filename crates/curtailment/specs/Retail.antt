-- A retailer's imbalance.
use Rattle.std.specs.Prelude.{ℕ, ℤ, pos, ◌-ℤ◌}

-- What was supplied less the deemed demand: positive is shortage.
abbrev pub retail_imbalance : ℕ → ℤ → ℤ
retail_imbalance supplied deemed_demand = pos supplied -ℤ deemed_demand
