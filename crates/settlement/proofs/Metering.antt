-- What the places of an owner used, where each of them has a reading.
use Rattle.std.proofs.Common.{◌≡◌, ℕ, ◌+◌, ◌*◌, ◌≤◌, Bool, true, false, cond, eqb, List, [], ◌∷◌, map, length, is_some, Some, None, Ok, sum, Option, Result, sym, refl, ap, ◌∙◌, mul-le-mul, arith}
use Rattle.std.specs.List.{AllByRecursion}
use Rattle.std.proofs.lemmas.Bool.{both_ways}
use Rattle.tables.specs.Keys.{count_if, first_of}
use Rattle.tables.proofs.Carrying.{sum-cons}
use Rattle.metering.specs.declared.demand.Unread.{Unread}
use Rattle.metering.specs.Readings.{kwh_of}
use Rattle.metering.specs.Demand.{before, readings, multiplied, demand_of, demand_from}
use Rattle.terms.specs.Owners.{is_of}
use Rattle.terms.specs.declared.codes.OwnerKind.TheVariants.{RetailContract}
use Rattle.terms.specs.declared.records.Owner.{Owner}
use Rattle.terms.specs.declared.records.Place.{Place}
use Rattle.terms.specs.declared.records.Contract.{Contract}
use Rattle.settlement.specs.Demand.{kwh_read, meters_of, demand_by, multiplier_of, loss_of}

-- what is read past the end of a list of places
abbrev pub blank : Place
blank = record { meter = 0; owner = record { kind = RetailContract; number = 0 } }

module _ (read : ℕ → Option ℕ) where
  -- meters that all have a reading read what they read
  all-readings : (meters : List ℕ) → AllByRecursion (λ m. is_some (read m) ≡ true) meters → readings read meters ≡ Ok (map (kwh_read read) meters)
  all-readings [] a = refl
  all-readings (m ∷ ms) a = go (read m) refl a.0 (all-readings ms a.1)
    where
      go : (o : Option ℕ) → read m ≡ o → is_some (read m) ≡ true → readings read ms ≡ Ok (map (kwh_read read) ms) → before m (read m) (readings read ms) ≡ Ok (kwh_read read m ∷ map (kwh_read read) ms)
      go None e s ih = absurd (both_ways _ (ap is_some e) s)
      go (Some kwh) e s ih =
          ap (λ r. before m (read m) r) ih ∙ ap (λ o. before m o (Ok (map (kwh_read read) ms))) e ∙ ap (λ k. Ok (k ∷ map (kwh_read read) ms)) (sym (ap (λ o. kwh_of o) e))

  -- the owner's meters are places' meters
  owned_read : (owner : Owner) (places : List Place) → AllByRecursion (λ p. is_some (read p.meter) ≡ true) places → AllByRecursion (λ m. is_some (read m) ≡ true) (meters_of owner places)
  owned_read owner [] a = tt
  owned_read owner (p ∷ ps) a = go (is_of owner p) (owned_read owner ps a.1)
    where
      go : (b : Bool) → AllByRecursion (λ m. is_some (read m) ≡ true) (meters_of owner ps) → AllByRecursion (λ m. is_some (read m) ≡ true) (cond b (p.meter ∷ meters_of owner ps) (meters_of owner ps))
      go true ih = (a.0, ih)
      go false ih = ih

  -- so the demand by the owner's meters is granted, and is what the definition says
  pub demand-read : (owner : Owner) (places : List Place) (multiplier : ℕ) → AllByRecursion (λ p. is_some (read p.meter) ≡ true) places →
      (meters : List ℕ) (r : Result ℕ Unread) → r ≡ demand_of read meters multiplier → meters ≡ meters_of owner places → r ≡ Ok (demand_by (kwh_read read) places multiplier owner)
  demand-read owner places multiplier a meters r is owned =
      is ∙ ap (λ ms. demand_of read ms multiplier) owned ∙ ap (demand_from multiplier) (all-readings (meters_of owner places) (owned_read owner places a))

  -- no meter reads more than the largest reading of any source
  pub reads_small : ((meter kwh : ℕ) → read meter ≡ Some kwh → kwh ≤ 2000000) → (meter : ℕ) → kwh_read read meter ≤ 2000000
  reads_small bounded meter = go (read meter) refl
    where
      go : (o : Option ℕ) → read meter ≡ o → kwh_of o ≤ 2000000
      go None e = omega arith
      go (Some kwh) e = bounded meter kwh e

-- what few meters read together
reads_light : (reads : ℕ → ℕ) → ((m : ℕ) → reads m ≤ 2000000) → (meters : List ℕ) → sum (map reads meters) ≤ length meters * 2000000
reads_light reads small [] = omega arith
reads_light reads small (m ∷ ms) = omega (arith, sum-cons (reads m) (map reads ms), small m, reads_light reads small ms)

length_meters : (owner : Owner) (places : List Place) → length (meters_of owner places) ≡ count_if (is_of owner) places
length_meters owner [] = refl
length_meters owner (p ∷ ps) = go (is_of owner p) (length_meters owner ps)
  where
    go : (b : Bool) → length (meters_of owner ps) ≡ count_if (is_of owner) ps → length (cond b (p.meter ∷ meters_of owner ps) (meters_of owner ps)) ≡ cond b 1 0 + count_if (is_of owner) ps
    go true ih = omega arith
    go false ih = omega arith

-- a sum of at most 128,000,000 at a multiplier of at most 12,000
multiplied-small : (total multiplier : ℕ) → total ≤ 128000000 → multiplier ≤ 12000 → multiplied total multiplier ≤ 153600000
multiplied-small total multiplier t m = let most : total * multiplier ≤ 1536000000000 = mul-le-mul t m in omega (arith, most)

pub demand-small : (reads : ℕ → ℕ) → ((m : ℕ) → reads m ≤ 2000000) → (owner : Owner) (places : List Place) (multiplier : ℕ) → count_if (is_of owner) places ≤ 64 → multiplier ≤ 12000 → demand_by reads places multiplier owner ≤ 153600000
demand-small reads small owner places multiplier few m =
    multiplied-small (sum (map reads (meters_of owner places))) multiplier (omega (arith, reads_light reads small (meters_of owner places), length_meters owner places)) m

-- no contract's multiplier is over the largest
pub loss_small : (number : ℕ) (contracts : List Contract) → AllByRecursion (λ c. c.multiplier ≤ 12000) contracts → loss_of number contracts ≤ 12000
loss_small number [] a = omega arith
loss_small number (c ∷ cs) a = go (eqb c.number number) (loss_small number cs a.1)
  where
    go : (b : Bool) → loss_of number cs ≤ 12000 → multiplier_of (cond b (Some c) (first_of (λ (k : Contract). eqb k.number number) cs)) ≤ 12000
    go true ih = a.0
    go false ih = ih
