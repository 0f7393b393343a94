use Rattle.std.proofs.Common.{rules, tests, ◌∙◌}
use Rattle.std.proofs.lemmas.Iterator.{YieldsList-from_slice}
use Rattle.std.proofs.lemmas.Iterator.Adapters.{position_from-zero}
use Rattle.std.proofs.lemmas.Iterator.Search.{position_from_yields_List}
use Rattle.tables.proofs.keys.find_first.Goals as goal

pub returns : goal.returns
returns g c =
    position_from_yields_List (g.T.Keyed.fits c.args.key) _ _ c.position.result c.position.ensures.ran (YieldsList-from_slice c.args.rows.now (cc)) (λ x b q k. search (rules, tests))
    ∙ position_from-zero (g.T.Keyed.fits c.args.key) c.args.rows.now
