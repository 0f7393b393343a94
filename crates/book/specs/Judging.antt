-- How a call is judged: the first reason that applies decides, and a call that is turned down changes nothing.
use Rattle.std.specs.Prelude.{◌≡◌, Bool, cond, List, [], ◌∷◌, Some, None, Ok, Err, Option, Result}
use Rattle.terms.specs.declared.refusal.Refusal.{Refusal}

-- The first refusal whose reason applies.
abbrev pub first : List (Bool × Refusal) → Option Refusal
first [] = None
first (r ∷ rs) = cond r.0 (Some r.1) (first rs)

-- What a call answers, and what it leaves: what was there if it is turned down, else what it does.
abbrev pub answer : {X : Type 0} → Option Refusal → X → Result X Refusal
answer None x = Ok x
answer (Some e) x = Err e

abbrev pub after : {S : Type 0} → Option Refusal → S → S → S
after None before done = done
after (Some e) before done = before

-- A call that is judged tells its refusal, if it has one, and leaves what was there; else it does what it does.
pub record Judges {S : Type 0} (refusal : Option Refusal) (before done now : S) (answered : Result (Unit {0}) Refusal) : Type 0 where
  pub told : answered ≡ answer refusal tt
  pub left : now ≡ after refusal before done
