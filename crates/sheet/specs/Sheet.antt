-- The text of a sheet, and what writing one answers and leaves.
use Rattle.std.specs.Prelude.{◌≡◌, ℕ, ◌<◌, ◌≤◌, List, [], ◌∷◌, ◌++◌, length, drop, Ok, Err, codes, decimal, Result}
use Rattle.std.specs.Fmt.{signed_decimal}
use Rattle.std.specs.List.{flat_map}
use Rattle.terms.specs.Codes.{kind_code}
use Rattle.terms.specs.declared.refusal.Refusal.{Refusal}
use Rattle.terms.specs.declared.refusal.Refusal.TheVariants.{ShortBuffer}
use Rattle.sheet.specs.declared.SheetRow.{SheetRow}

-- A record: a comma (44) between fields, and CR LF (13, 10) behind the last.
abbrev pub record_text : List (List ℕ) → List ℕ
record_text [] = 13 ∷ 10 ∷ []
record_text (f ∷ []) = f ++ 13 ∷ 10 ∷ []
record_text (f ∷ g ∷ fs) = f ++ 44 ∷ record_text (g ∷ fs)

unfoldable pub header_text : List ℕ
header_text = record_text (codes "kind" ∷ codes "contract" ∷ codes "group" ∷ codes "plan" ∷ codes "measured" ∷ codes "imbalance" ∷ [])

-- Figures are decimal without leading zeros, negative ones with '-' before them.
abbrev pub row_fields : SheetRow → List (List ℕ)
row_fields row =
    decimal (kind_code row.kind) ∷ decimal row.contract ∷ decimal row.group
    ∷ signed_decimal row.plan ∷ decimal row.measured ∷ signed_decimal row.imbalance ∷ []

unfoldable pub row_text : SheetRow → List ℕ
row_text row = record_text (row_fields row)

abbrev pub rows_text : List SheetRow → List ℕ
rows_text rows = flat_map row_text rows

-- The header, and then one record for each row in the order given.
abbrev pub sheet_text : List SheetRow → List ℕ
sheet_text rows = header_text ++ rows_text rows

-- Granted, the buffer holds the text and behind it what it held there; refused, it holds what it held.
-- It is refused just where it is shorter than the text.
abbrev pub Sheeted : List SheetRow → List ℕ → List ℕ → Result ℕ Refusal → Type 0
Sheeted rows before after (Ok n) =
    (length (sheet_text rows) ≤ length before) × (n ≡ length (sheet_text rows)) × (after ≡ sheet_text rows ++ drop (length (sheet_text rows)) before)
Sheeted rows before after (Err e) = (length before < length (sheet_text rows)) × (e ≡ ShortBuffer) × (after ≡ before)
