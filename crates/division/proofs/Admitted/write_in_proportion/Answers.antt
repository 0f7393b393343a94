use Rattle.std.proofs.Common.{◌≡◌, ℕ, ◌-◌, List, length, sum, sym, ap, ◌∙◌, subst, arith}
use Rattle.tables.proofs.Carrying.{carried_all}
use Rattle.division.specs.Rules.{floors, topped, pro_rata}
use Rattle.division.specs.Nearness.{EachWithinOne}
use Rattle.division.specs.Proportions.{sum-floors_le, left_below, length-floors, near}
use Rattle.division.proofs.Admitted.write_in_proportion.Goals as goal

pub total-given-requires : goal.total-given-requires
total-given-requires c =
    let a = c.args.self.now in
    omega (arith, ap sum (carried_all c.round_down.new.into), ap sum c.round_down.ensures, sum-floors_le a.whole a.claims.now a.some, a.small)

pub overflow_sub-self : goal.overflow_sub-self
overflow_sub-self c =
    let a = c.args.self.now in
    omega (arith, c.total-given.ensures, ap sum (carried_all c.round_down.new.into), ap sum c.round_down.ensures, sum-floors_le a.whole a.claims.now a.some)

pub top_up-requires : goal.top_up-requires
top_up-requires c =
    let a = c.args.self.now in
    let cs = a.claims.now in
    let w = a.whole in
    let s = sum-floors_le w cs a.some in
    let given = c.total-given.ensures ∙ ap sum (carried_all c.round_down.new.into) ∙ ap sum c.round_down.ensures in
    let l = ap length c.round_down.ensures ∙ length-floors w cs in
    let t = ap sum c.round_down.ensures in
    record { few = omega (arith, l, given, left_below w cs a.some); small = omega (arith, t, given, s, a.small) }

pub returns : goal.returns
returns c =
    let cs = c.args.self.now.claims.now in
    let w = c.args.self.now.whole in
    let given = c.total-given.ensures ∙ ap sum (carried_all c.round_down.new.into) ∙ ap sum c.round_down.ensures in
    let is : c.top_up.new.into ≡ pro_rata w cs =
    c.top_up.ensures ∙ ap (λ n. topped (w - n) c.round_down.new.into) given ∙ ap (topped (w - sum (floors w cs))) c.round_down.ensures in
    let P : List ℕ → Type 0 = λ parts. EachWithinOne w cs parts in
    record { parts = is; near = subst P (sym is) (near w cs) }
