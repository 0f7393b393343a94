use Rattle.std.proofs.Common.{Bool, eqb, length, sum, sym, ap, ◌∙◌, arith}
use Rattle.std.proofs.lemmas.List.{length_push}
use Rattle.std.proofs.lemmas.Bool.{eq-eqb, ne_eqb}
use Rattle.tables.specs.Listed.{listed}
use Rattle.tables.specs.Carried.{claims_of}
use Rattle.sharing.specs.Levels.{claim_of}
use Rattle.sharing.proofs.Levelling.{claims-within}
use Rattle.tables.proofs.Carrying.{gather_yes, gather_no, gather_all}
use Rattle.sharing.proofs.levels.gather_heads.Goals as goal
use Rattle.sharing.proofs.levels.gather_heads.Goals.{then-owner, else-owner}

pub total-together-requires : goal.total-together-requires
total-together-requires g c = omega (arith, claims-within g.M.Owned.owned g.M.Carries.carried c.number.result c.args.levels.now.members.now, c.args.levels.now.light)

pub loop-head-preserved : goal.loop-head-preserved
loop-head-preserved g c =
    let heads = c.args.levels.now.heads.now in
    let members = c.args.levels.now.members.now in
    let claimed = claim_of g.H.Head.claimed g.H.Head.numbered g.M.Owned.owned g.M.Carries.carried members in
    let i = c.loop-head.head-index in
    let x = c.head-item.result in
    let mine : g.row.H.Denot → Bool = λ h. eqb (g.H.Owned.owned h) c.args.owner in
    elim c.if-owner.branch [
      | then-owner w ↦
          let pushed = ap listed w.claims-is ∙ w.push.ensures in
          let is = w.claim.ensures ∙ ap (g.H.Head.claimed x) (w.total-together.ensures ∙ ap (λ n. sum (claims_of g.M.Owned.owned g.M.Carries.carried n members)) w.number.ensures) in (
            omega (arith, ap length pushed, length_push (listed c.loop-head.claims) w.claim.result, c.loop-head.invariant.0),
            gather_yes mine claimed heads i x c.loop-head-test.true c.head-item.is (listed c.loop-head.claims) _ _ _ (eq-eqb _ _ (sym c.owner.ensures ∙ w.if-owner.true)) is pushed c.loop-head.invariant.1,
          )
      | else-owner w ↦
          let same = ap listed w.claims-is in (
            omega (arith, ap length same, c.loop-head.invariant.0),
            gather_no mine claimed heads i x c.loop-head-test.true c.head-item.is (listed c.loop-head.claims) _ _ (ne_eqb _ _ (λ e. w.if-owner.false (c.owner.ensures ∙ e))) same c.loop-head.invariant.1,
          )
    ]

pub returns : goal.returns
returns g c =
    gather_all (λ h. eqb (g.H.Owned.owned h) c.args.owner) (claim_of g.H.Head.claimed g.H.Head.numbered g.M.Owned.owned g.M.Carries.carried c.args.levels.now.members.now) c.args.levels.now.heads.now c.loop-head.head-index (listed c.loop-head.claims) _ c.loop-head-test.false c.loop-head.invariant.1
