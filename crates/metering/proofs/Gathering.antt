-- The steps of the loop that gathers readings, and how much they come to.
use Rattle.std.proofs.Common.{◌≡◌, ℕ, ◌+◌, ◌*◌, ◌<◌, ◌≤◌, true, List, [], ◌∷◌, ◌++◌, length, get_or, drop, Some, None, Ok, Err, sum, Option, Result, sym, refl, ap, ◌∙◌, append_assoc, append-nil, arith}
use Rattle.std.proofs.lemmas.List.{at_drop_more, at_drop_all}
use Rattle.tables.specs.Carried.{carried_if}
use Rattle.tables.proofs.Carrying.{sum-cons, carried_all}
use Rattle.metering.specs.Demand.{before, readings, multiplied, demand_from, demand_of}
use Rattle.metering.specs.Bounds.{AtMost}
use Rattle.metering.specs.declared.demand.Unread.{Unread}

-- the readings gathered so far, before those of the meters still to come
abbrev pub behind : List ℕ → Result (List ℕ) Unread → Result (List ℕ) Unread
behind kwhs (Ok more) = Ok (kwhs ++ more)
behind kwhs (Err without) = Err without

pub behind_nothing : (rest : Result (List ℕ) Unread) → behind [] rest ≡ rest
behind_nothing (Ok more) = refl
behind_nothing (Err without) = refl

one_more : (kwhs : List ℕ) (meter kwh : ℕ) (rest : Result (List ℕ) Unread) → behind kwhs (before meter (Some kwh) rest) ≡ behind (kwhs ++ kwh ∷ []) rest
one_more kwhs meter kwh (Ok more) = ap Ok (sym (append_assoc kwhs (kwh ∷ []) more))
one_more kwhs meter kwh (Err without) = refl

module _ (read : ℕ → Option ℕ) (meters : List ℕ) (i : ℕ) (kwhs : List ℕ) where
  module _ (within : i < length meters) where
    -- the meter at i has a reading or has none
    readings-at : (o : Option ℕ) → o ≡ read (get_or meters i 0) → readings read (drop i meters) ≡ before (get_or meters i 0) o (readings read (drop (i + 1) meters))
    readings-at o e = at_drop_more (readings read) meters i 0 within ∙ ap (λ p. before (get_or meters i 0) p (readings read (drop (i + 1) meters))) (sym e)

    -- the reading is put behind those gathered
    pub gather_more : (kwh pushed : ℕ) (kwhs-after : List ℕ) → Some kwh ≡ read (get_or meters i 0) → pushed ≡ kwh → kwhs-after ≡ kwhs ++ pushed ∷ [] →
        behind kwhs (readings read (drop i meters)) ≡ readings read meters → behind kwhs-after (readings read (drop (i + 1) meters)) ≡ readings read meters
    gather_more kwh pushed kwhs-after e p a inv =
        ap (λ ks. behind ks (readings read (drop (i + 1) meters))) (a ∙ ap (λ k. kwhs ++ k ∷ []) p)
        ∙ sym (ap (behind kwhs) (readings-at (Some kwh) e) ∙ one_more kwhs (get_or meters i 0) kwh (readings read (drop (i + 1) meters)))
        ∙ inv

    pub gather_none : None ≡ read (get_or meters i 0) → behind kwhs (readings read (drop i meters)) ≡ readings read meters → readings read meters ≡ Err (record { meter = get_or meters i 0 })
    gather_none e inv = sym inv ∙ ap (behind kwhs) (readings-at None e)

  pub gather_all : length meters ≤ i → behind kwhs (readings read (drop i meters)) ≡ readings read meters → readings read meters ≡ Ok kwhs
  gather_all h inv = sym inv ∙ ap (behind kwhs) (at_drop_all (readings read) meters i h) ∙ ap Ok (append-nil kwhs)

-- the readings of at most 64 meters, none above what the source's kind allows
module _ (read : ℕ → Option ℕ) (largest : ℕ) (bounded : (meter : ℕ) → AtMost largest (read meter)) (small : largest ≤ 2000000) where
  sum-at_most : (meters kwhs : List ℕ) → readings read meters ≡ Ok kwhs → sum kwhs ≤ 2000000 * length meters
  sum-at_most [] kwhs e = let q : [] ≡ kwhs = cc in omega (arith, ap sum q)
  sum-at_most (meter ∷ meters) kwhs e = go (read meter) (readings read meters) (bounded meter) (sum-at_most meters) e
    where
      go : (o : Option ℕ) (rest : Result (List ℕ) Unread) → AtMost largest o → ((ks : List ℕ) → rest ≡ Ok ks → sum ks ≤ 2000000 * length meters) →
          before meter o rest ≡ Ok kwhs → sum kwhs ≤ 2000000 * length (meter ∷ meters)
      go None rest b f e = let z : ◌≡◌ {A = ℕ} 0 1 = cc in absurd (omega arith)
      go (Some kwh) (Err without) b f e = let z : ◌≡◌ {A = ℕ} 0 1 = cc in absurd (omega arith)
      go (Some kwh) (Ok ks) b f e =
          let q : kwh ∷ ks ≡ kwhs = cc in
          omega (arith, sym (ap sum q) ∙ sum-cons kwh ks, b kwh refl, f ks refl)

  pub sum-light : (meters kwhs : List ℕ) → readings read meters ≡ Ok kwhs → length meters ≤ 64 → sum kwhs ≤ 128000000
  sum-light meters kwhs e few = omega (arith, sum-at_most meters kwhs e)

-- figures gathered and lent as a slice come to the sum of the readings
pub total_readings : (lent kwhs : List ℕ) → lent ≡ kwhs → sum (carried_if (λ x. true) (λ x. x) lent) ≡ sum kwhs
total_readings lent kwhs e = ap sum (carried_all lent ∙ e)

pub demand-made : (read : ℕ → Option ℕ) (meters lent kwhs : List ℕ) (multiplier total demand : ℕ) → readings read meters ≡ Ok kwhs → lent ≡ kwhs →
    total ≡ sum (carried_if (λ x. true) (λ x. x) lent) → demand ≡ multiplied total multiplier → Ok demand ≡ demand_of read meters multiplier
demand-made read meters lent kwhs multiplier total demand r e t d =
    ap Ok (d ∙ ap (λ kwh. multiplied kwh multiplier) (t ∙ total_readings lent kwhs e)) ∙ sym (ap (demand_from multiplier) r)
