-- The two laws of the pro rata rule, how near its parts are, and the steps of its loops.
use Rattle.std.specs.Prelude.{◌≡◌, ℕ, zero, suc, ◌+◌, ◌-◌, ◌*◌, ◌/◌, ◌<◌, ◌≤◌, List, [], ◌∷◌, map, length, sum, slice_index, slice_index_or, slice_set, refl}
use Rattle.std.proofs.Common.{sym, ap, ◌∙◌, arith, mul-add, mul-suc, mul-zero, mul_comm, mul-le-mul_left, mul-one}
use Rattle.std.proofs.Math.Nat.{div-add-mod, le_of_mul-le-mul_left, lt_of_mul-lt-mul_left}
use Rattle.std.proofs.lemmas.Nat.{mod_below}
use Rattle.std.proofs.lemmas.Bool.Decides.{nat_tests}
use Rattle.std.proofs.lemmas.List.{get_or-map, length-map}
use Rattle.division.specs.Rules.{counted, basis, floors, topped, pro_rata}
use Rattle.division.specs.Nearness.{EachWithinOne}
use Rattle.tables.proofs.Carrying.{sum-cons}

-- Rounding down each part of w by f, in units of 1 / t, loses less than t a part.
pub floors-below : (w t : ℕ) (f : ℕ → ℕ) (cs : List ℕ) → t * sum (map (λ c. w * f c / t) cs) ≤ w * sum (map f cs)
floors-below w t f [] = omega (arith, mul-zero t, mul-zero w)
floors-below w t f (c ∷ cs) =
    let fs : List ℕ = map (λ x. w * f x / t) cs in
    let ih : t * sum fs ≤ w * sum (map f cs) = floors-below w t f cs in
    rw (sum-cons (w * f c / t) fs, sum-cons (f c) (map f cs), mul-add t (w * f c / t) (sum fs), mul-add w (f c) (sum (map f cs)))
    (omega (arith, div-add-mod (w * f c) t))

pub floors-above : (w t : ℕ) (f : ℕ → ℕ) → 0 < t → (cs : List ℕ) → w * sum (map f cs) + length cs ≤ t * sum (map (λ c. w * f c / t) cs) + t * length cs
floors-above w t f h [] = omega (arith, mul-zero t, mul-zero w)
floors-above w t f h (c ∷ cs) =
    let fs : List ℕ = map (λ x. w * f x / t) cs in
    let ih : w * sum (map f cs) + length cs ≤ t * sum fs + t * length cs = floors-above w t f h cs in
    rw (sum-cons (w * f c / t) fs, sum-cons (f c) (map f cs), mul-add t (w * f c / t) (sum fs), mul-add w (f c) (sum (map f cs)), mul-suc t (length cs))
    (omega (arith, div-add-mod (w * f c) t, mod_below (w * f c) t h))

sum-counted-zero : (cs : List ℕ) → sum (map (counted 0) cs) ≡ length cs
sum-counted-zero [] = refl
sum-counted-zero (c ∷ cs) = sum-cons 1 (map (counted 0) cs) ∙ omega (arith, sum-counted-zero cs)

sum-counted-same : (t : ℕ) → 0 < t → (cs : List ℕ) → sum (map (counted t) cs) ≡ sum cs
sum-counted-same t h [] = refl
sum-counted-same t h (c ∷ cs) =
    let e : counted t c ≡ c = grind (arith, nat_tests) in
    sum-cons (counted t c) (map (counted t) cs) ∙ omega (arith, e, sum-counted-same t h cs, sum-cons c cs)

pub sum-counted : (t : ℕ) (cs : List ℕ) → t ≡ sum cs → sum (map (counted t) cs) ≡ basis t (length cs)
sum-counted zero cs e = sum-counted-zero cs
sum-counted (suc t) cs e =
    let b : basis (suc t) (length cs) ≡ suc t = grind (arith, nat_tests) in
    sum-counted-same (suc t) (omega arith) cs ∙ sym e ∙ sym b

pub basis_positive : (t n : ℕ) → 1 ≤ n → 0 < basis t n
basis_positive t n h = grind (arith, nat_tests)

-- What is left over is below the number of claims.
pub sum-floors_le : (w : ℕ) (cs : List ℕ) → 1 ≤ length cs → sum (floors w cs) ≤ w
sum-floors_le w cs h =
    let t : ℕ = basis (sum cs) (length cs) in
    let p : 0 < t = basis_positive (sum cs) (length cs) h in
    let f : ℕ → ℕ = counted (sum cs) in
    let e : sum (map f cs) ≡ t = sum-counted (sum cs) cs refl in
    let b : t * sum (floors w cs) ≤ w * sum (map f cs) = floors-below w t f cs in
    le_of_mul-le-mul_left (omega (arith, ap (λ n. w * n) e, mul_comm w t)) p

pub left_below : (w : ℕ) (cs : List ℕ) → 1 ≤ length cs → w < sum (floors w cs) + length cs
left_below w cs h =
    let t : ℕ = basis (sum cs) (length cs) in
    let p : 0 < t = basis_positive (sum cs) (length cs) h in
    let f : ℕ → ℕ = counted (sum cs) in
    let e : sum (map f cs) ≡ t = sum-counted (sum cs) cs refl in
    let b : w * sum (map f cs) + length cs ≤ t * sum (floors w cs) + t * length cs = floors-above w t f p cs in
    lt_of_mul-lt-mul_left t (omega (arith, ap (λ n. w * n) e, mul_comm w t, mul-add t (sum (floors w cs)) (length cs)))

pub length-topped : (n : ℕ) (xs : List ℕ) → length (topped n xs) ≡ length xs
length-topped zero xs = refl
length-topped (suc n) [] = refl
length-topped (suc n) (x ∷ xs) = ap suc (length-topped n xs)

pub sum-topped : (n : ℕ) (xs : List ℕ) → n ≤ length xs → sum (topped n xs) ≡ sum xs + n
sum-topped zero xs h = omega arith
sum-topped (suc n) [] h = absurd (omega arith)
sum-topped (suc n) (x ∷ xs) h =
    sum-cons (x + 1) (topped n xs) ∙ omega (arith, sum-topped n xs (omega arith), sum-cons x xs)

pub topped_more : (i : ℕ) (xs : List ℕ) → i < length xs → slice_set (topped i xs) i (slice_index (topped i xs) i + 1) ≡ topped (i + 1) xs
topped_more zero [] h = absurd (omega arith)
topped_more zero (x ∷ xs) h = refl
topped_more (suc i) [] h = absurd (omega arith)
topped_more (suc i) (x ∷ xs) h =
    let e : suc i + 1 ≡ suc (i + 1) = omega arith in
    ap (λ l. (x + 1) ∷ l) (topped_more i xs (omega arith)) ∙ sym (ap (λ n. topped n (x ∷ xs)) e)

pub length_pro_rata : (w : ℕ) (cs : List ℕ) → length (pro_rata w cs) ≡ length cs
length_pro_rata w cs = length-topped (w - sum (floors w cs)) (floors w cs) ∙ length-map cs _

pub sum_pro_rata : (w : ℕ) (cs : List ℕ) → 1 ≤ length cs → sum (pro_rata w cs) ≡ w
sum_pro_rata w cs h =
    let n : ℕ = w - sum (floors w cs) in
    let l : length (floors w cs) ≡ length cs = length-map cs _ in
    sum-topped n (floors w cs) (omega (arith, left_below w cs h)) ∙ omega (arith, sum-floors_le w cs h)

pub get_or-topped : (i : ℕ) (xs : List ℕ) → slice_index (topped i xs) i ≡ slice_index xs i
get_or-topped zero xs = refl
get_or-topped (suc i) [] = refl
get_or-topped (suc i) (x ∷ xs) = get_or-topped i xs

pub get_or-floors : (w : ℕ) (cs : List ℕ) (i : ℕ) → i < length cs → slice_index (floors w cs) i ≡ w * counted (sum cs) (slice_index cs i) / basis (sum cs) (length cs)
get_or-floors w cs i h = get_or-map (λ c. w * counted (sum cs) c / basis (sum cs) (length cs)) cs i 0 0 h

pub length-floors : (w : ℕ) (cs : List ℕ) → length (floors w cs) ≡ length cs
length-floors w cs = length-map cs _

pub counted_le : (t c m : ℕ) → 1 ≤ m → c ≤ m → counted t c ≤ m
counted_le t c m h k = grind (arith, nat_tests)

topped-near : (n : ℕ) (xs : List ℕ) (k : ℕ) → (slice_index xs k ≤ slice_index (topped n xs) k) × (slice_index (topped n xs) k ≤ slice_index xs k + 1)
topped-near zero xs k = (omega arith, omega arith)
topped-near (suc n) [] k = (omega arith, omega arith)
topped-near (suc n) (x ∷ xs) zero = (omega arith, omega arith)
topped-near (suc n) (x ∷ xs) (suc k) = topped-near n xs k

-- Each part is within one kWh of its exact share.
pub near : (w : ℕ) (cs : List ℕ) → EachWithinOne w cs (pro_rata w cs)
near w cs k h =
    let t : ℕ = basis (sum cs) (length cs) in
    let p : 0 < t = basis_positive (sum cs) (length cs) (omega arith) in
    let c : ℕ = counted (sum cs) (slice_index cs k) in
    let f : slice_index_or (floors w cs) k 0 ≡ w * c / t = get_or-floors w cs k h in
    let part : ℕ = slice_index_or (pro_rata w cs) k 0 in
    let two : (slice_index (floors w cs) k ≤ part) × (part ≤ slice_index (floors w cs) k + 1) = topped-near (w - sum (floors w cs)) (floors w cs) k in
    let low : t * (w * c / t) ≤ t * part = mul-le-mul_left t (omega arith) in
    let high : t * part ≤ t * (w * c / t + 1) = mul-le-mul_left t (omega arith) in (
      omega (arith, mul-add t (w * c / t) 1, mul-one t, div-add-mod (w * c) t),
      omega (arith, div-add-mod (w * c) t, mod_below (w * c) t p),
    )
