-- Corrected trades: the figure of each line, and what a contract sold and bought.
use Rattle.std.specs.List.{AllByRecursion}
use Rattle.std.specs.Prelude.{◌≡◌, ◌≤◌, length, ℕ, min, Bool, true, false, not, ◌&&◌, List, ℤ, pos, ◌-ℤ◌, Some, None, sum, Option, ◌==◌, nat_eq}
use Rattle.tables.specs.Keys.{first_of, count_if}
use Rattle.tables.specs.Figures.{figures_if}
use Rattle.terms.specs.declared.codes.Direction.{Direction}
use Rattle.terms.specs.declared.codes.Direction.TheVariants.{Sale, Purchase}
use Rattle.terms.specs.declared.partner.Partner.{Partner}
use Rattle.terms.specs.declared.partner.Partner.TheVariants.{Exchange, Outside, Contract}
use Rattle.terms.specs.declared.records.Line.{Line}

-- One is a sale and the other a purchase.
abbrev pub turned : Direction → Direction → Bool
turned Sale Sale = false
turned Sale Purchase = true
turned Purchase Sale = true
turned Purchase Purchase = false

-- The partner is this contract.
abbrev pub faces : Partner → ℕ → Bool
faces Exchange number = false
faces (Outside party) number = false
faces (Contract contract) number = contract == number

-- Two lines are opposite: each is with the other's contract, and one sells what the other buys.
abbrev pub opposite : Line → Line → Bool
opposite l m = faces l.partner m.contract && faces m.partner l.contract && turned l.direction m.direction

-- The figure planned by a line that was looked for; a line that is not there counts as planned zero.
abbrev pub planned_by : Option Line → ℕ
planned_by None = 0
planned_by (Some l) = l.planned

-- The corrected figure of a line, by its partner: agreed with the exchange and outside parties, the smaller of both planned figures with a contract.
abbrev pub corrected_with : Partner → List Line → Line → ℕ
corrected_with Exchange lines l = l.agreed
corrected_with (Outside party) lines l = l.agreed
corrected_with (Contract contract) lines l = min l.planned (planned_by (first_of (opposite l) lines))

abbrev pub corrected : List Line → Line → ℕ
corrected lines l = corrected_with l.partner lines l

-- The line is a trade of this contract in this direction.
abbrev pub trades_of : Direction → ℕ → Line → Bool
trades_of direction contract l = l.contract == contract && not (turned direction l.direction)

-- What the contract's lines of one direction come to, by the figures that stand beside the lines.
abbrev pub traded : Direction → ℕ → List Line → List ℕ → ℕ
traded direction contract lines figures = sum (figures_if (trades_of direction contract) lines figures)

-- A contract's corrected sales less purchases.
abbrev pub net_of : ℕ → List Line → List ℕ → ℤ
net_of contract lines figures = pos (traded Sale contract lines figures) -ℤ pos (traded Purchase contract lines figures)

-- How many lines the contract has.
abbrev pub lines_of : ℕ → List Line → ℕ
lines_of contract lines = count_if (λ l. nat_eq l.contract contract) lines

-- The limits that the lines of a book keep: a figure of at most 2,000,000 kWh for each line, and at most 64 lines a contract.
pub record Trading (lines : List Line) (figures : List ℕ) : Type 0 where
  pub room : length figures ≡ length lines
  pub small : AllByRecursion (λ f. f ≤ 2000000) figures
  pub allowed : (contract : ℕ) → lines_of contract lines ≤ 64
