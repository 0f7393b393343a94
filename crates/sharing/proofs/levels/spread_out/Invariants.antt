use Rattle.std.proofs.Common.{◌≡◌, length, drop}
use Rattle.sharing.specs.Levels.{figures_of_members}
use Rattle.sharing.proofs.levels.spread_out.Given as goal

abbrev pub invariant-loop-head : goal.invariant-loop-head
invariant-loop-head g l =
    let f = figures_of_members (g.B.DivisionRule.parts l.second) g.H.Owned.owned g.H.Head.numbered g.M.Owned.owned g.M.Carries.carried l.owner l.levels.members.now in
    let k = length l.yielded in
    f (drop k l.levels.heads.now) (drop k l.head_figures) l.member_figures ≡ f l.levels.heads.now l.head_figures l.initial.member_figures
