use Rattle.std.proofs.Common.{rules, tests, eqb, ◌∙◌, arith}
use Rattle.std.proofs.iter.Serving.{serving}
use Rattle.std.proofs.lemmas.Iterator.{YieldsList-from_slice, YieldsList-from_map}
use Rattle.std.proofs.lemmas.Iterator.Consumers.{YieldsList-from_filter, YieldsList-at}
use Rattle.tables.proofs.Collecting.{extended, few_items, few_more, carried_if-filter, few_carried}
use Rattle.sharing.proofs.Steps.{count_within}
use Rattle.sharing.proofs.rows.gather.Goals as goal

pub extend-requires : goal.extend-requires
extend-requires g c = (
  search rules,
  (
    grind serving,
    (
      search rules,
      λ xs s y. few_more _ _ _ c.new-claims.ensures.empty (few_items _
          (YieldsList-from_map _ g.T.Carries.carried
          (YieldsList-at c.map.ensures.source (YieldsList-from_filter _ (λ r. eqb (g.T.Owned.owned r) c.args.owner) (YieldsList-from_slice c.args.rows.now (cc)) c.filter.ensures.closure (λ x b q k. search (rules, tests))))
          c.map.ensures.closure (λ x r q k. search (rules, tests)))
          (few_carried (λ r. eqb (g.T.Owned.owned r) c.args.owner) g.T.Carries.carried c.args.rows.now _ (omega (arith, count_within g.T.Owned.owned c.args.owner c.args.rows.now, c.requires))) xs s y),
    ),
  ),
)

pub returns : goal.returns
returns g c =
    extended c.new-claims.ensures.empty c.extend.ensures
    (YieldsList-from_map _ g.T.Carries.carried
    (YieldsList-at c.map.ensures.source (YieldsList-from_filter _ (λ r. eqb (g.T.Owned.owned r) c.args.owner) (YieldsList-from_slice c.args.rows.now (cc)) c.filter.ensures.closure (λ x b q k. search (rules, tests))))
    c.map.ensures.closure (λ x r q k. search (rules, tests)))
    ∙ carried_if-filter (λ r. eqb (g.T.Owned.owned r) c.args.owner) g.T.Carries.carried c.args.rows.now
