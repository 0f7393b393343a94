-- What the places of an owner used, by what each meter reads.
use Rattle.std.specs.Prelude.{ℕ, List, map, Some, None, sum, Option, nat_eq}
use Rattle.tables.specs.Carried.{carried_if}
use Rattle.tables.specs.Keys.{first_of}
use Rattle.metering.specs.Demand.{multiplied}
use Rattle.metering.specs.Readings.{kwh_of}
use Rattle.terms.specs.Owners.{is_of}
use Rattle.terms.specs.declared.records.Contract.{Contract}
use Rattle.terms.specs.declared.records.Owner.{Owner}
use Rattle.terms.specs.declared.records.Place.{Place}

-- What each meter reads; one without a reading counts as 0.
abbrev pub kwh_read : (ℕ → Option ℕ) → ℕ → ℕ
kwh_read read meter = kwh_of (read meter)

-- The meters of the owner's places, in listed order.
abbrev pub meters_of : Owner → List Place → List ℕ
meters_of owner places = carried_if (is_of owner) (λ (p : Place). p.meter) places

-- The metered demand of an owner: the sum of its places times the multiplier, rounded down.
abbrev pub demand_by : (ℕ → ℕ) → List Place → ℕ → Owner → ℕ
demand_by reads places multiplier owner = multiplied (sum (map reads (meters_of owner places))) multiplier

-- The loss multiplier of the contract with this number; 0 where there is none.
abbrev pub multiplier_of : Option Contract → ℕ
multiplier_of None = 0
multiplier_of (Some c) = c.multiplier

abbrev pub loss_of : ℕ → List Contract → ℕ
loss_of number contracts = multiplier_of (first_of (λ (c : Contract). nat_eq c.number number) contracts)
