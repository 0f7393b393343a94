-- The key of a line, as its codes give it.
use Rattle.std.specs.Prelude.{◌≡◌, ℕ, Some, None, Option, Result, MatchResult}
use Rattle.terms.specs.Codes.{direction_of}
use Rattle.terms.specs.Partners.{partner_code, partner_of}
use Rattle.terms.specs.declared.codes.Direction.{Direction}
use Rattle.terms.specs.declared.codes.UnknownCode.{UnknownCode}
use Rattle.terms.specs.declared.partner.Partner.{Partner}
use Rattle.book.specs.declared.keys.LineCodes.{LineCodes}
use Rattle.book.specs.declared.keys.LineKey.{LineKey}

-- The key of a line, where direction and partner have the values of one.
abbrev pub key_of : ℕ → Option Direction → Option Partner → Option LineKey
key_of contract None partner = None
key_of contract (Some direction) None = None
key_of contract (Some direction) (Some partner) = Some (record { contract = contract; direction = direction; partner = partner })

abbrev pub line_key : LineCodes → Option LineKey
line_key codes = key_of codes.contract (direction_of codes.direction) (partner_of codes.kind codes.number)

-- What a conversion from the codes of a line gives: its key, whose partner is of the kind filed, or an error where they have none.
abbrev pub DecodesLine : LineCodes → Result LineKey UnknownCode → Type 0
DecodesLine codes r = MatchResult r (λ key. (line_key codes ≡ Some key) × (partner_code key.partner ≡ codes.kind)) (λ _. line_key codes ≡ None)
