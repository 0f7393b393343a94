use Rattle.std.proofs.Common.{◌≡◌, ◌≤◌, length, get_or, drop, pos, nat_abs, sym, ap, subst, ◌∙◌, arith}
use Rattle.std.proofs.lemmas.List.{length_push}
use Rattle.std.proofs.lemmas.Slice.Zip.{zip_turn, zip_end}
use Rattle.sharing.specs.Owners.{shared}
use Rattle.sharing.specs.Levels.{figures_of_members}
use Rattle.division.proofs.Signs.{back-small}
use Rattle.sharing.proofs.Levelling.{claims-within, spread_yes, spread_no, spread_all}
use Rattle.sharing.proofs.levels.spread_out.Goals as goal

pub share_out-requires-clause-light : goal.share_out-requires-clause-light
share_out-requires-clause-light g c = omega (arith, claims-within g.M.Owned.owned g.M.Carries.carried c.number.result c.args.levels.now.members.now, c.args.levels.now.light)

pub share_out-requires-clause-small : goal.share_out-requires-clause-small
share_out-requires-clause-small g c =
    let t = zip_turn c.args.levels.now.heads.now c.args.head_figures.now c.loop-head.yielded _ _ c.next.new.self c.next.result (cc) (cc) c.loop-head.yielded_by _ c.in-Some.is c.next.ensures.steps in
    let small = c.requires.small (length c.loop-head.yielded) c.in-Some.head.now t.0 (t.2 c.in-Some.head.now) (sym c.owner.ensures ∙ c.if-owner.true) in
    let mine : nat_abs c.in-Some.figure.now ≤ 128000000 = omega (arith, small, ap nat_abs (t.3 (pos 0))) in
    omega (arith, ap nat_abs (back-small c.in-Some.figure.now mine), mine)

pub loop-head-preserved-then-owner : goal.loop-head-preserved-then-owner
loop-head-preserved-then-owner g c =
    let f = g.B.DivisionRule.parts c.args.second.now in
    let k = length c.loop-head.yielded in
    let hs = c.args.levels.now.heads.now in
    let ps = c.args.head_figures.now in
    let ms = c.args.levels.now.members.now in
    let x = c.in-Some.head.now in
    let t = zip_turn hs ps c.loop-head.yielded _ _ c.next.new.self c.next.result (cc) (cc) c.loop-head.yielded_by _ c.in-Some.is c.next.ensures.steps in
    let mine = sym c.owner.ensures ∙ c.if-owner.true in
    let small : nat_abs c.in-Some.figure.now ≤ 128000000 = omega (arith, c.requires.small k x t.0 (t.2 x) mine, ap nat_abs (t.3 (pos 0))) in
    subst (λ n. figures_of_members f g.H.Owned.owned g.H.Head.numbered g.M.Owned.owned g.M.Carries.carried c.args.owner ms (drop n hs) (drop n ps) c.share_out.new.figures
    ≡ figures_of_members f g.H.Owned.owned g.H.Head.numbered g.M.Owned.owned g.M.Carries.carried c.args.owner ms hs ps c.args.member_figures.now)
    (sym (length_push c.loop-head.yielded (c.in-Some.head, c.in-Some.figure)))
    (spread_yes g.H.Owned.owned g.H.Head.numbered g.M.Owned.owned g.M.Carries.carried f c.args.owner ms hs ps k x t.0 (t.2 x) t.1 c.loop-head.member_figures _ _ mine
    (c.share_out.ensures.value
    ∙ ap (λ z. shared f g.M.Owned.owned g.M.Carries.carried c.number.result z ms c.loop-head.member_figures) (back-small c.in-Some.figure.now small ∙ t.3 (pos 0))
    ∙ ap (λ n. shared f g.M.Owned.owned g.M.Carries.carried n (get_or ps k (pos 0)) ms c.loop-head.member_figures) c.number.ensures)
    c.loop-head.invariant)

pub loop-head-preserved : goal.loop-head-preserved
loop-head-preserved g c =
    let f = g.B.DivisionRule.parts c.args.second.now in
    let k = length c.loop-head.yielded in
    let hs = c.args.levels.now.heads.now in
    let ps = c.args.head_figures.now in
    let t = zip_turn hs ps c.loop-head.yielded _ _ c.next.new.self c.next.result (cc) (cc) c.loop-head.yielded_by _ c.in-Some.is c.next.ensures.steps in
    subst (λ n. figures_of_members f g.H.Owned.owned g.H.Head.numbered g.M.Owned.owned g.M.Carries.carried c.args.owner c.args.levels.now.members.now (drop n hs) (drop n ps) c.loop-head.member_figures
    ≡ figures_of_members f g.H.Owned.owned g.H.Head.numbered g.M.Owned.owned g.M.Carries.carried c.args.owner c.args.levels.now.members.now hs ps c.args.member_figures.now)
    (sym (length_push c.loop-head.yielded (c.in-Some.head, c.in-Some.figure)))
    (spread_no g.H.Owned.owned g.H.Head.numbered g.M.Owned.owned g.M.Carries.carried f c.args.owner c.args.levels.now.members.now hs ps k c.in-Some.head.now t.0 (t.2 c.in-Some.head.now) t.1 c.loop-head.member_figures _
    (λ e. c.if-owner.false (c.owner.ensures ∙ e)) c.loop-head.invariant)

pub returns : goal.returns
returns g c =
    let end = zip_end c.args.levels.now.heads.now c.args.head_figures.now c.loop-head.yielded _ _ c.next.new.self c.next.result (cc) (cc) c.loop-head.yielded_by c.in-None.is c.next.ensures.steps in
    spread_all g.H.Owned.owned g.H.Head.numbered g.M.Owned.owned g.M.Carries.carried (g.B.DivisionRule.parts c.args.second.now) c.args.owner c.args.levels.now.members.now c.args.levels.now.heads.now c.args.head_figures.now c.loop-head.member_figures _
    (length c.loop-head.yielded) (omega (arith, end, c.requires.heads)) c.loop-head.invariant
