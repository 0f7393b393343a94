-- Groups come to their contract's sales less purchases, and shares to their group's part.
use Rattle.std.proofs.Common.{get_or, pos, ap, ◌∙◌}
use Rattle.terms.specs.declared.records.Group.{Group}
use Rattle.terms.specs.declared.records.Share.{Share}
use Rattle.terms.specs.Plans.{claim_in}
use Rattle.sharing.specs.Owners.{added_up}
use Rattle.sharing.specs.Levels.{claim_of}
use Rattle.sharing.proofs.Placing.{parts_add}
use Rattle.trades.specs.Trades.{net_of}
use Rattle.planning.specs.Laws.{GroupsAddUp, SharesAddUp}

pub groups-add_up : GroupsAddUp
groups-add_up first second keeps contracts lines figures groups shares gb ga sb sa p j c l e some =
    ap added_up (p.group_parts j c l e)
    ∙ parts_add first keeps (λ (g : Group). g.contract) (claim_of (λ (g : Group). claim_in g.sort) (λ (g : Group). g.number) (λ (s : Share). s.group) (λ (s : Share). s.planned) shares) c.number (net_of c.number lines figures) groups some

pub shares-add_up : SharesAddUp
shares-add_up first second keeps contracts lines figures groups shares gb ga sb sa p j c l e k g h r o some =
    ap added_up (p.share_parts j c l e k g h r o)
    ∙ parts_add second keeps (λ (s : Share). s.group) (λ (s : Share). s.planned) g.number (get_or ga k (pos 0)) shares some
