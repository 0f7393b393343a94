-- The terms that every division rule keeps.
use Rattle.std.specs.Prelude.{◌≡◌, ℕ, ◌≤◌, List, length, sum}

-- Each claim has a part, and for one claim or more the parts add up to the whole.
pub record Keeps (rule : ℕ → List ℕ → List ℕ) : Type 0 where
  pub each : (whole : ℕ) (claims : List ℕ) → length (rule whole claims) ≡ length claims
  pub all : (whole : ℕ) (claims : List ℕ) → 1 ≤ length claims → sum (rule whole claims) ≡ whole
