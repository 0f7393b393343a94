-- The two laws of the ranked rule, and the steps of its loop.
use Rattle.std.specs.Prelude.{◌≡◌, ℕ, suc, ◌+◌, ◌-◌, ◌<◌, ◌≤◌, min, List, [], ◌∷◌, ◌++◌, length, take, drop, sum, slice_index, slice_index_or, slice_set, refl}
use Rattle.std.proofs.Common.{sym, ap, ◌∙◌, arith, length-drop}
use Rattle.tables.proofs.Carrying.{sum-cons}
use Rattle.std.proofs.lemmas.List.{drop_more, drop_all, take_more_set, append_assoc, set_split}
use Rattle.division.specs.Rules.{ranked}

pub length-ranked : (w : ℕ) (cs : List ℕ) → length (ranked w cs) ≡ length cs
length-ranked w [] = refl
length-ranked w (c ∷ []) = refl
length-ranked w (c ∷ d ∷ cs) = ap suc (length-ranked (w - c) (d ∷ cs))

pub sum-ranked : (w : ℕ) (cs : List ℕ) → 1 ≤ length cs → sum (ranked w cs) ≡ w
sum-ranked w [] h = absurd (omega arith)
sum-ranked w (c ∷ []) h = omega (arith, sum-cons w [])
sum-ranked w (c ∷ d ∷ cs) h =
    let rest : sum (ranked (w - c) (d ∷ cs)) ≡ w - c = sum-ranked (w - c) (d ∷ cs) (omega arith) in
    sum-cons (min c w) (ranked (w - c) (d ∷ cs)) ∙ ap (λ n. min c w + n) rest ∙ omega arith

ranked-cons : (w c : ℕ) (ds : List ℕ) → 0 < length ds → ranked w (c ∷ ds) ≡ min c w ∷ ranked (w - c) ds
ranked-cons w c [] h = absurd (omega arith)
ranked-cons w c (d ∷ ds) h = refl

pub ranked_more : (xs cs : List ℕ) (i left : ℕ) (all : List ℕ) → i + 1 < length cs → i < length xs →
    take i xs ++ ranked left (drop i cs) ≡ all →
    take (i + 1) (slice_set xs i (min (slice_index cs i) left)) ++ ranked (left - min (slice_index cs i) left) (drop (i + 1) cs) ≡ all
ranked_more xs cs i left all h k inv =
    let y : ℕ = min (slice_index cs i) left in
    let l : i < length cs = omega arith in
    let z : 0 < length (drop (i + 1) cs) = simp length-drop (omega arith) in
    let e : left - min (slice_index cs i) left ≡ left - slice_index_or cs i 0 = omega arith in
    let step : ranked left (drop i cs) ≡ min (slice_index cs i) left ∷ ranked (left - slice_index cs i) (drop (i + 1) cs) =
    ap (ranked left) (drop_more cs i 0 l) ∙ ranked-cons left (slice_index cs i) (drop (i + 1) cs) z in
    ap (λ t. t ++ ranked (left - y) (drop (i + 1) cs)) (take_more_set xs i y k)
    ∙ append_assoc (take i xs) (y ∷ []) (ranked (left - y) (drop (i + 1) cs))
    ∙ ap (λ n. take i xs ++ (y ∷ ranked n (drop (i + 1) cs))) e
    ∙ sym (ap (λ t. take i xs ++ t) step)
    ∙ inv

pub ranked_last : (xs cs : List ℕ) (last left : ℕ) (all : List ℕ) → last + 1 ≡ length cs → length xs ≡ length cs →
    take last xs ++ ranked left (drop last cs) ≡ all → slice_set xs last left ≡ all
ranked_last xs cs last left all h k inv =
    let l : last < length cs = omega arith in
    let m : last < length xs = omega arith in
    let e : drop last cs ≡ slice_index cs last ∷ [] =
    drop_more cs last 0 l ∙ ap (λ t. slice_index cs last ∷ t) (drop_all (last + 1) cs (omega arith)) in
    set_split xs last left m
    ∙ ap (λ t. take last xs ++ (left ∷ t)) (drop_all (suc last) xs (omega arith))
    ∙ sym (ap (λ t. take last xs ++ ranked left t) e)
    ∙ inv
