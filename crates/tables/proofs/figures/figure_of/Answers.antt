use Rattle.std.proofs.Common.{rules, tests, ap, ◌∙◌}
use Rattle.std.specs.Prelude.{option_map, unwrap_or}
use Rattle.std.proofs.lemmas.Iterator.{YieldsList-from_slice, YieldsList-from_zip}
use Rattle.std.proofs.lemmas.Iterator.Search.{find_from_yields_List}
use Rattle.tables.proofs.Collecting.{figure_of-find}
use Rattle.tables.proofs.figures.figure_of.Goals as goal

pub returns : goal.returns
returns g c =
    search (rules, tests)
    ∙ ap (λ o. unwrap_or (option_map (λ p. p.1) o) 0) (find_from_yields_List (λ p. g.T.Keyed.fits c.args.key p.0) c.find.new.self _ c.find.result c.find.ensures.ran (YieldsList-from_zip (YieldsList-from_slice c.args.rows.now (cc)) (YieldsList-from_slice c.args.figures.now (cc))) (λ x b q k. search (rules, tests)))
    ∙ figure_of-find 0 (g.T.Keyed.fits c.args.key) c.args.rows.now c.args.figures.now
