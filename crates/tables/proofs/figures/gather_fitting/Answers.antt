use Rattle.std.proofs.Common.{rules, tests, ◌∙◌}
use Rattle.std.proofs.iter.Serving.{serving}
use Rattle.std.proofs.lemmas.Iterator.{YieldsList-from_slice, YieldsList-from_map, YieldsList-from_zip}
use Rattle.std.proofs.lemmas.Iterator.Consumers.{YieldsList-from_filter, YieldsList-at}
use Rattle.tables.proofs.Collecting.{extended, few_items, few_more, figures_if-filter, few_pairs}
use Rattle.tables.proofs.figures.gather_fitting.Goals as goal

pub extend-requires : goal.extend-requires
extend-requires g c = (
  search rules,
  (
    grind serving,
    (
      search rules,
      λ xs s y. few_more _ _ _ c.new-gathered.ensures.empty (few_items _
          (YieldsList-from_map _ (λ p. p.1)
          (YieldsList-at c.map.ensures.source (YieldsList-from_filter _ (λ p. g.T.Keyed.fits c.args.key p.0) (YieldsList-at c.filter.ensures.source (YieldsList-from_zip (YieldsList-from_slice c.args.rows.now (cc)) (YieldsList-from_slice c.args.figures.now (cc)))) c.filter.ensures.closure (λ x b q k. search (rules, tests))))
          c.map.ensures.closure (λ x r q k. search (rules, tests)))
          (few_pairs (g.T.Keyed.fits c.args.key) c.args.rows.now c.args.figures.now _ c.requires.few) xs s y),
    ),
  ),
)

pub returns : goal.returns
returns g c =
    extended c.new-gathered.ensures.empty c.extend.ensures
    (YieldsList-from_map _ (λ p. p.1)
    (YieldsList-at c.map.ensures.source (YieldsList-from_filter _ (λ p. g.T.Keyed.fits c.args.key p.0) (YieldsList-at c.filter.ensures.source (YieldsList-from_zip (YieldsList-from_slice c.args.rows.now (cc)) (YieldsList-from_slice c.args.figures.now (cc)))) c.filter.ensures.closure (λ x b q k. search (rules, tests))))
    c.map.ensures.closure (λ x r q k. search (rules, tests)))
    ∙ figures_if-filter (g.T.Keyed.fits c.args.key) c.args.rows.now c.args.figures.now
