-- One text written behind another.
use Rattle.std.proofs.Common.{◌≡◌, ℕ, ◌+◌, ◌≤◌, List, ◌++◌, length, take, drop, sym, ap, ◌∙◌, subst, arith}
use Rattle.std.proofs.lemmas.List.{append_assoc, drop-drop, length-append, take-append-drop}
use Rattle.sheet.specs.Put.{Put}

-- what is the same from a place on is the same from a later place on
later : (xs ys : List ℕ) (m k n : ℕ) → n ≡ m + k → drop m xs ≡ drop m ys → drop n xs ≡ drop n ys
later xs ys m k n e h =
    ap (λ i. drop i xs) e ∙ sym (drop-drop k m xs) ∙ ap (drop k) h ∙ drop-drop k m ys ∙ sym (ap (λ i. drop i ys) e)

pub put_then : {a b c : List ℕ} {at m n : ℕ} (s t : List ℕ) → Put a b at s m → Put b c m t n → Put a c at (s ++ t) n
put_then {a} {b} {c} {at} {m} {n} s t p q = record {
  ends = omega (arith, p.ends, q.ends, length-append s t);
  front = q.front ∙ ap (λ x. x ++ t) p.front ∙ append_assoc (take at a) s t;
  rest = q.rest ∙ later b a m (length t) n q.ends p.rest;
}

-- the same text, written another way
pub put_is : {a b s t : List ℕ} {at n : ℕ} → s ≡ t → Put a b at s n → Put a b at t n
put_is {a} {b} {s} {t} {at} {n} e p = subst (λ x. Put a b at x n) e p

-- a text at the front of a buffer
pub put_whole : {a b s : List ℕ} {n : ℕ} → Put a b 0 s n → (n ≡ length s) × (b ≡ s ++ drop (length s) a)
put_whole {a} {b} {s} {n} p =
    let long : n ≡ length s = omega (arith, p.ends) in (
      long,
      sym (take-append-drop n b) ∙ ap (λ t. t ++ drop n b) p.front ∙ ap (λ t. s ++ t) p.rest ∙ ap (λ k. s ++ drop k a) long,
    )
