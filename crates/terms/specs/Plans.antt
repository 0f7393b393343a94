-- What a group files as its plan, and what it claims of its contract's deemed plan.
use Rattle.std.specs.Prelude.{ℕ}
use Rattle.terms.specs.declared.records.Group.{Group}
use Rattle.terms.specs.declared.records.GroupSort.{GroupSort}
use Rattle.terms.specs.declared.records.GroupSort.TheVariants.{Generation, Curtailment}

-- A curtailment group files its plan, a generation group none: its shares do.
abbrev pub plan_in : GroupSort → ℕ
plan_in Generation = 0
plan_in (Curtailment c) = c.plan

abbrev pub plan_of : Group → ℕ
plan_of g = plan_in g.sort

-- A generation group claims what its shares planned together, a curtailment group its own plan.
abbrev pub claim_in : GroupSort → ℕ → ℕ
claim_in Generation together = together
claim_in (Curtailment c) together = c.plan
