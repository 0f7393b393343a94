-- What either rule gives, and what both keep.
use Rattle.std.specs.Prelude.{◌≡◌, ℕ, ◌≤◌, List, length, sum}
use Rattle.division.specs.Rules.{pro_rata, ranked}
use Rattle.division.specs.Proportions.{length_pro_rata, sum_pro_rata}
use Rattle.division.specs.Turns.{length-ranked, sum-ranked}
use Rattle.figures.specs.declared.rule.Rule.{Rule}
use Rattle.figures.specs.declared.rule.Rule.TheVariants.{ProRata, Ranked}

abbrev pub parts_by : Rule → ℕ → List ℕ → List ℕ
parts_by ProRata = pro_rata
parts_by Ranked = ranked

pub length-parts_by : (rule : Rule) (whole : ℕ) (claims : List ℕ) → length (parts_by rule whole claims) ≡ length claims
length-parts_by ProRata whole claims = length_pro_rata whole claims
length-parts_by Ranked whole claims = length-ranked whole claims

pub sum-parts_by : (rule : Rule) (whole : ℕ) (claims : List ℕ) → 1 ≤ length claims → sum (parts_by rule whole claims) ≡ whole
sum-parts_by ProRata whole claims some = sum_pro_rata whole claims some
sum-parts_by Ranked whole claims some = sum-ranked whole claims some
