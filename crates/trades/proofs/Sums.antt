-- What a contract's lines come to at most.
use Rattle.std.proofs.Common.{ℕ, ◌≤◌, not, eqb, List, arith}
use Rattle.std.specs.List.{AllByRecursion}
use Rattle.std.proofs.lemmas.Bool.{and_parts}
use Rattle.tables.specs.Keys.{count_if}
use Rattle.tables.proofs.Gathering.{figures-light, count_narrower}
use Rattle.terms.specs.declared.codes.Direction.{Direction}
use Rattle.terms.specs.declared.records.Line.{Line}
use Rattle.trades.specs.Trades.{turned, trades_of, traded, lines_of}

pub trades-few : (d : Direction) (c : ℕ) (ls : List Line) → count_if (trades_of d c) ls ≤ lines_of c ls
trades-few d c ls = count_narrower (trades_of d c) (λ (l : Line). eqb l.contract c) (λ l e. (and_parts (eqb l.contract c) (not (turned d l.direction)) e).0) ls

pub traded-light : (d : Direction) (c : ℕ) (ls : List Line) (fs : List ℕ) → lines_of c ls ≤ 64 → AllByRecursion (λ f. f ≤ 2000000) fs → traded d c ls fs ≤ 128000000
traded-light d c ls fs n s = omega (arith, figures-light (trades_of d c) 2000000 ls fs s, trades-few d c ls)
