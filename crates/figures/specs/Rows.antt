-- What every drawn row keeps: figures inside the limits of a book.
use Rattle.std.specs.Prelude.{ℕ, ◌≤◌, List, [], ◌∷◌}
use Rattle.terms.specs.declared.codes.Kind.{Kind}
use Rattle.terms.specs.declared.codes.Kind.TheVariants.{Generation, Negawatt}
use Rattle.terms.specs.declared.records.Contract.{Contract}
use Rattle.terms.specs.declared.records.Line.{Line}
use Rattle.terms.specs.declared.records.Share.{Share}

abbrev pub line_fine : Line → Type 0
line_fine l = (l.planned ≤ 2000000) × (l.agreed ≤ 2000000)

abbrev pub share_fine : Share → Type 0
share_fine s = s.planned ≤ 2000000

-- The contracts of a case are 11, 12 and 13.
abbrev pub homed : ℕ → Type 0
homed contract = (11 ≤ contract) × (contract ≤ 13)

-- A contract of a case, and the three of a case: 11 generates, 13 aggregates, and 12 is of the kind that the case draws.
abbrev pub of_kind : ℕ → Kind → Contract
of_kind number kind = record { number = number; kind = kind; multiplier = 10000 }

abbrev pub contracts : Kind → List Contract
contracts kind = of_kind 11 Generation ∷ of_kind 12 kind ∷ of_kind 13 Negawatt ∷ []
