-- What the readings of an owner's meters come to.
use Rattle.std.specs.Prelude.{ℕ, ◌*◌, ◌/◌, List, [], ◌∷◌, Some, None, Ok, Err, sum, Option, Result}
use Rattle.metering.specs.declared.demand.Unread.{Unread}

-- One meter's reading before those of the meters listed behind it. Where the meter has none, it is the first without;
-- where a later one has none, that is.
abbrev pub before : ℕ → Option ℕ → Result (List ℕ) Unread → Result (List ℕ) Unread
before meter None behind = Err (record { meter = meter })
before meter (Some kwh) (Ok kwhs) = Ok (kwh ∷ kwhs)
before meter (Some kwh) (Err without) = Err without

-- The readings of the meters in listed order, or the first meter that has none.
abbrev pub readings : (ℕ → Option ℕ) → List ℕ → Result (List ℕ) Unread
readings read [] = Ok []
readings read (meter ∷ meters) = before meter (read meter) (readings read meters)

-- A sum times a multiplier in ten-thousandths, rounded down.
abbrev pub multiplied : ℕ → ℕ → ℕ
multiplied kwh multiplier = kwh * multiplier / 10000

-- What readings come to at a multiplier; where a meter has none, that meter.
abbrev pub demand_from : ℕ → Result (List ℕ) Unread → Result ℕ Unread
demand_from multiplier (Ok kwhs) = Ok (multiplied (sum kwhs) multiplier)
demand_from multiplier (Err without) = Err without

-- The sum of the meters' readings times the multiplier, rounded down once on the sum; or the first meter that has no reading.
abbrev pub demand_of : (ℕ → Option ℕ) → List ℕ → ℕ → Result ℕ Unread
demand_of read meters multiplier = demand_from multiplier (readings read meters)
