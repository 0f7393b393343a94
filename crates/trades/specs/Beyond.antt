-- What leaves the area by trade, and the law that what stays inside cancels.
use Rattle.std.specs.Prelude.{◌≡◌, ℕ, Bool, true, false, not, ◌&&◌, List, map, pos, ◌-ℤ◌, sum}
use Rattle.tables.specs.Apart.{apart, Known}
use Rattle.tables.specs.Carried.{carried_if}
use Rattle.tables.specs.Figures.{added_by}
use Rattle.terms.specs.declared.codes.Direction.{Direction}
use Rattle.terms.specs.declared.codes.Direction.TheVariants.{Sale, Purchase}
use Rattle.terms.specs.declared.partner.Partner.{Partner}
use Rattle.terms.specs.declared.partner.Partner.TheVariants.{Exchange, Outside, Contract as With}
use Rattle.terms.specs.declared.records.Contract.{Contract}
use Rattle.terms.specs.declared.records.Line.{Line}
use Rattle.trades.specs.Trades.{turned, corrected, net_of}
use Rattle.trades.specs.Laws.{same_line}

-- The partner is outside the area: the exchange or an outside party.
abbrev pub beyond : Partner → Bool
beyond Exchange = true
beyond (Outside party) = true
beyond (With contract) = false

-- What is traded in this direction with the exchange and outside parties, by the agreed figures.
abbrev pub beyond_area : Direction → List Line → ℕ
beyond_area direction lines = sum (carried_if (λ l. beyond l.partner && not (turned direction l.direction)) (λ l. l.agreed) lines)

-- What contracts trade with each other cancels: all contracts' corrected sales less purchases together are what is sold to the exchange and outside parties less what is bought from them.
abbrev pub TradesCancel : Type 0
TradesCancel = (contracts : List Contract) (lines : List Line) → apart same_line lines ≡ true → Known (λ (c : Contract). c.number) (λ (l : Line). l.contract) contracts lines →
    added_by (λ c. net_of c.number lines (map (corrected lines) lines)) contracts ≡ pos (beyond_area Sale lines) -ℤ pos (beyond_area Purchase lines)
