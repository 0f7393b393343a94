-- What an `Option` tells that was asked for with an error at hand.
use Rattle.std.proofs.Common.{◌≡◌, ℕ, Some, None, Ok, Err, refl, ap, arith}
use Rattle.std.specs.Prelude.{Option, ok_or}

pub ok_or-Ok : {T E : Type 0} (o : Option T) (e : E) (t : T) → ok_or o e ≡ Ok t → o ≡ Some t
ok_or-Ok None e t h = absurd (let z : ◌≡◌ {A = ℕ} 0 1 = cc in omega arith)
ok_or-Ok (Some s) e t h = let q : s ≡ t = cc in ap Some q

pub ok_or-Err : {T E : Type 0} (o : Option T) (e x : E) → ok_or o e ≡ Err x → (o ≡ None) × (e ≡ x)
ok_or-Err None e x h = (refl, cc)
ok_or-Err (Some s) e x h = absurd (let z : ◌≡◌ {A = ℕ} 0 1 = cc in omega arith)
