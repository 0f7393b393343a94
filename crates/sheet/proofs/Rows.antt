-- Records, field by field and one behind another.
use Rattle.std.proofs.Common.{◌≡◌, ℕ, ◌+◌, ◌^◌, ◌<◌, ◌≤◌, List, [], ◌∷◌, ◌++◌, length, get_or, take, drop, ℤ, pos, decimal, sym, refl, ap, ◌∙◌, arith, w64, SFits}
use Rattle.std.specs.Fmt.{signed_decimal}
use Rattle.std.proofs.lemmas.Fmt.{length-decimal-le, length_signed_le}
use Rattle.std.proofs.lemmas.List.{append_assoc, length-append, take_more, drop_more, flat_map_more}
use Rattle.terms.specs.Codes.{kind_code}
use Rattle.terms.specs.declared.codes.Kind.{Kind}
use Rattle.terms.specs.declared.codes.Kind.TheVariants.{Generation, Retail, Negawatt}
use Rattle.sheet.specs.Sheet.{header_text, row_text, rows_text}
use Rattle.sheet.specs.declared.SheetRow.{SheetRow}

-- a natural figure and the comma behind it
abbrev pub natural : ℕ → List ℕ
natural n = decimal n ++ 44 ∷ []

-- a record, from its fields one behind another
pub row_joined : (row : SheetRow) → ((((natural (kind_code row.kind) ++ natural row.contract) ++ natural row.group) ++ (signed_decimal row.plan ++ 44 ∷ [])) ++ natural row.measured) ++ (signed_decimal row.imbalance ++ 13 ∷ 10 ∷ []) ≡ row_text row
unfolding row_text
row_joined row = simp append_assoc

pub row_long : (row : SheetRow) → length (row_text row) ≡ length (natural (kind_code row.kind)) + length (natural row.contract) + length (natural row.group) + length (signed_decimal row.plan ++ 44 ∷ []) + length (natural row.measured) + length (signed_decimal row.imbalance ++ 13 ∷ 10 ∷ [])
unfolding row_text
row_long row = simp length-append (omega arith)

kind_small : (k : Kind) → kind_code k < 2 ^ 64
kind_small Generation = omega arith
kind_small Retail = omega arith
kind_small Negawatt = omega arith

-- no record is longer than six figures of 20 bytes, five commas and a line end
pub row_most : (row : SheetRow) → row.contract < 2 ^ 32 → row.group < 2 ^ 32 → SFits w64 row.plan → row.measured < 2 ^ 64 → SFits w64 row.imbalance → length (row_text row) ≤ 127
row_most row contract group plan measured imbalance =
    let natural_most : (n : ℕ) → n < 2 ^ 64 → length (decimal n) ≤ 20 = λ n small. length-decimal-le 20 n (omega arith) (omega arith) small in
    let signed_most : (z : ℤ) → SFits w64 z → length (signed_decimal z) ≤ 20 = λ z f. length_signed_le 19 z (omega (arith, f.sfits)) f.sfits in
    omega (
      arith,
      simp length-append at (row_long row),
      natural_most (kind_code row.kind) (kind_small row.kind),
      natural_most row.contract (omega arith),
      natural_most row.group (omega arith),
      signed_most row.plan plan,
      natural_most row.measured measured,
      signed_most row.imbalance imbalance,
    )

pub header_long : length header_text ≡ 45
unfolding header_text
header_long = refl

-- a row to read past the end by
abbrev pub blank : SheetRow
blank = record { kind = Generation; contract = 0; group = 0; plan = pos 0; measured = 0; imbalance = pos 0 }

-- one more record of those behind, and one fewer of those ahead
pub rows_more : (rows : List SheetRow) (i : ℕ) → i < length rows → rows_text (take (i + 1) rows) ≡ rows_text (take i rows) ++ row_text (get_or rows i blank)
rows_more rows i lt = ap rows_text (take_more rows i blank lt) ∙ sym (flat_map_more row_text [] (take i rows) (get_or rows i blank))

pub rest_more : (rows : List SheetRow) (i : ℕ) → i < length rows → length (rows_text (drop i rows)) ≡ length (row_text (get_or rows i blank)) + length (rows_text (drop (i + 1) rows))
rest_more rows i lt =
    ap (λ rs. length (rows_text rs)) (drop_more rows i blank lt)
    ∙ length-append (row_text (get_or rows i blank)) (rows_text (drop (i + 1) rows))
