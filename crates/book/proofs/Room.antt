-- Room in a table for a key that fits no row.
use Rattle.std.proofs.Common.{◌≡◌, ℕ, ◌<◌, Bool, false, not, ◌&&◌, ◌||◌, leb, List, length, is_some, None, sym, ap, ◌∙◌}
use Rattle.std.proofs.lemmas.Bool.{or_parts, leb-false}
use Rattle.tables.specs.Apart.{has}
use Rattle.tables.specs.Keys.{find}
use Rattle.tables.proofs.Finding.{found-has}

pub room_left : {T : Type 0} (passes : T → Bool) (rows : List T) (most : ℕ) (more : Bool) → (not (has passes rows) && (leb most (length rows) || more)) ≡ false → find passes rows ≡ None → length rows < most
room_left passes rows most more e none =
    let absent : has passes rows ≡ false = sym (found-has passes rows 0) ∙ ap is_some none in
    let room : (leb most (length rows) || more) ≡ false = sym (ap (λ b. not b && (leb most (length rows) || more)) absent) ∙ e in
    leb-false most (length rows) (or_parts (leb most (length rows)) more room).0
