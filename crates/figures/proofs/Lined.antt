-- Drawn lines and their corrected figures stay inside the limits of a book.
use Rattle.std.proofs.Common.{◌≡◌, ℕ, ◌≤◌, eqb, List, [], ◌∷◌, map, length, sym, ap, ◌∙◌, subst, arith}
use Rattle.std.specs.List.{AllByRecursion}
use Rattle.std.proofs.lemmas.List.{length-map}
use Rattle.tables.proofs.Gathering.{count_few}
use Rattle.terms.specs.declared.partner.Partner.{Partner}
use Rattle.terms.specs.declared.partner.Partner.TheVariants.{Exchange, Outside, Contract}
use Rattle.terms.specs.declared.records.Line.{Line}
use Rattle.trades.specs.Trades.{corrected, corrected_with, lines_of, Trading}
use Rattle.figures.specs.Rows.{line_fine}

corrected-small : (p : Partner) (all : List Line) (l : Line) → line_fine l → corrected_with p all l ≤ 2000000
corrected-small Exchange all l h = h.1
corrected-small (Outside n) all l h = h.1
corrected-small (Contract n) all l h = omega (arith, h.0)

figures-small : (all ls : List Line) → AllByRecursion line_fine ls → AllByRecursion (λ f. f ≤ 2000000) (map (corrected all) ls)
figures-small all [] h = tt
figures-small all (l ∷ ls) h = (corrected-small l.partner all l h.0, figures-small all ls h.1)

-- of so few lines no contract has too many
pub lines-allowed : (c : ℕ) (ls : List Line) → length ls ≤ 12 → lines_of c ls ≤ 64
lines-allowed c ls few = omega (arith, count_few (λ (l : Line). eqb l.contract c) ls)

pub trading : {ls rows : List Line} {fs figures : List ℕ} → ls ≡ rows → fs ≡ figures → length rows ≤ 12 → AllByRecursion line_fine rows → figures ≡ map (corrected rows) rows → Trading ls fs
trading {ls} {rows} {fs} {figures} lines same few fine is = record {
  room = ap length (same ∙ is) ∙ length-map rows (corrected rows) ∙ sym (ap length lines);
  small = subst (λ (xs : List ℕ). AllByRecursion (λ f. f ≤ 2000000) xs) (sym (same ∙ is)) (figures-small rows rows fine);
  allowed = λ c. lines-allowed c ls (omega (arith, ap length lines));
}
