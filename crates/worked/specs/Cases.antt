-- The twelve marked cases, stated of the definitions that the engine's contracts cite.
use Rattle.std.specs.Prelude.{◌≡◌, ℕ, List, [], ◌∷◌, ◌++◌, map, ℤ, pos, neg_ℤ, Some, None, Option}
use Rattle.terms.specs.declared.codes.Method.{Method}
use Rattle.terms.specs.declared.codes.Method.TheVariants.{One, Two}
use Rattle.division.specs.Rules.{pro_rata, ranked}
use Rattle.metering.specs.Readings.{register_reading}
use Rattle.curtailment.specs.Methods.{settled_by}
use Rattle.curtailment.specs.Retail.{retail_imbalance}

-- The parts of a division.
abbrev pub parts : List ℕ → List ℤ
parts ps = map pos ps

-- A reading, or nothing.
abbrev pub reading : Option ℕ → List ℤ
reading None = []
reading (Some kwh) = pos kwh ∷ []

-- The retailer's and the group's imbalance at a metered demand: baseline 100, plan and deemed plan 50, deemed demand 50.
abbrev pub imbalances : Method → ℕ → List ℤ
imbalances method used =
    retail_imbalance (settled_by method 100 50 (pos 50) used).supplied (pos 50) ∷ (settled_by method 100 50 (pos 50) used).imbalance ∷ []

-- What the definitions give.
abbrev pub given : List (List ℤ)
given =
    parts (pro_rata 7 (4 ∷ 1 ∷ 5 ∷ []))
    ∷ parts (pro_rata 8 (4 ∷ 1 ∷ 5 ∷ []))
    ∷ parts (pro_rata 5 (0 ∷ 0 ∷ 0 ∷ []))
    ∷ parts (pro_rata 5 (0 ∷ 3 ∷ 3 ∷ []))
    ∷ parts (ranked 400 (150 ∷ 0 ∷ []))
    ∷ parts (ranked 120 (150 ∷ 100 ∷ []))
    ∷ reading (register_reading (record { number = 1; start = 99990; end = 15; factor = 10 }))
    ∷ imbalances One 150
    ∷ imbalances Two 150
    ∷ (imbalances One 80 ++ imbalances Two 80)
    ∷ imbalances One 20
    ∷ imbalances Two 20
    ∷ []

-- What they must give.
abbrev pub expected : List (List ℤ)
expected =
    (pos 3 ∷ pos 1 ∷ pos 3 ∷ [])
    ∷ (pos 4 ∷ pos 0 ∷ pos 4 ∷ [])
    ∷ (pos 2 ∷ pos 2 ∷ pos 1 ∷ [])
    ∷ (pos 1 ∷ pos 2 ∷ pos 2 ∷ [])
    ∷ (pos 150 ∷ pos 250 ∷ [])
    ∷ (pos 120 ∷ pos 0 ∷ [])
    ∷ (pos 250 ∷ [])
    ∷ (pos 50 ∷ pos 50 ∷ [])
    ∷ (pos 0 ∷ pos 100 ∷ [])
    ∷ (pos 0 ∷ pos 30 ∷ pos 0 ∷ pos 30 ∷ [])
    ∷ (neg_ℤ (pos 30) ∷ pos 0 ∷ [])
    ∷ (pos 0 ∷ neg_ℤ (pos 30) ∷ [])
    ∷ []

abbrev pub TwelveCases : Type 0
TwelveCases = given ≡ expected
