-- The laws of corrected trades.
use Rattle.std.specs.Prelude.{◌≡◌, ℕ, Bool, true, false, not, ◌&&◌, List, ◌==◌}
use Rattle.std.specs.List.{AllByRecursion}
use Rattle.tables.specs.Apart.{has, apart}
use Rattle.terms.specs.declared.partner.Partner.{Partner}
use Rattle.terms.specs.declared.partner.Partner.TheVariants.{Exchange, Outside, Contract}
use Rattle.terms.specs.declared.records.Line.{Line}
use Rattle.trades.specs.Trades.{turned, opposite, corrected}

abbrev pub same_partner : Partner → Partner → Bool
same_partner Exchange Exchange = true
same_partner Exchange (Outside n) = false
same_partner Exchange (Contract n) = false
same_partner (Outside m) Exchange = false
same_partner (Outside m) (Outside n) = m == n
same_partner (Outside m) (Contract n) = false
same_partner (Contract m) Exchange = false
same_partner (Contract m) (Outside n) = false
same_partner (Contract m) (Contract n) = m == n

-- Two lines have one key: contract, direction and partner.
abbrev pub same_line : Line → Line → Bool
same_line l m = l.contract == m.contract && (not (turned l.direction m.direction) && same_partner l.partner m.partner)

-- Where no two lines have one key, two opposite lines get the same corrected figure.
abbrev pub OppositesAgree : Type 0
OppositesAgree = (lines : List Line) → apart same_line lines ≡ true →
    AllByRecursion (λ l. AllByRecursion (λ m. opposite l m ≡ true → corrected lines l ≡ corrected lines m) lines) lines

-- A line with a contract that has no opposite line is corrected to zero.
abbrev pub AloneIsZero : Type 0
AloneIsZero = (lines : List Line) (l : Line) (contract : ℕ) → l.partner ≡ Contract contract → has (opposite l) lines ≡ false → corrected lines l ≡ 0
