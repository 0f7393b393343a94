-- How a curtailment group is settled.
use Rattle.std.specs.Prelude.{◌≡◌, ℕ, ◌-◌, ◌≤◌, cond, ℤ, pos, ◌+ℤ◌, ◌-ℤ◌, nat_lt}
use Rattle.terms.specs.declared.codes.Method.{Method}
use Rattle.terms.specs.declared.codes.Method.TheVariants.{One, Two}
use Rattle.curtailment.specs.declared.methods.Settled.{Settled}

abbrev pub figures : ℕ → ℕ → ℤ → Settled
figures supplied curtailed imbalance = record { supplied = supplied; curtailed = curtailed; imbalance = imbalance }

-- By baseline, plan, deemed plan and metered demand.
abbrev pub settled_by : Method → ℕ → ℕ → ℤ → ℕ → Settled
-- Method 1: demand above the baseline is supplied less the plan; demand so low that more than the plan was saved is supplied as it is, and the plan curtailed;
-- in between, the baseline less the plan is supplied, and what was saved is curtailed. The imbalance is the deemed plan less what was curtailed.
settled_by One baseline plan deemed used =
    cond (nat_lt baseline used) (figures (used - plan) 0 (deemed -ℤ pos 0))
    (cond (nat_lt used (baseline - plan)) (figures used plan (deemed -ℤ pos plan))
    (figures (baseline - plan) (baseline - used) (deemed -ℤ pos (baseline - used))))
-- Method 2: the baseline less the plan is supplied, what was saved, or 0, is curtailed, and every difference is the group's.
settled_by Two baseline plan deemed used = figures (baseline - plan) (baseline - used) (deemed +ℤ pos used -ℤ pos baseline)

-- Under both methods, supplied and the group's imbalance together are the deemed plan and the metered demand less the plan,
-- so that a method moves kWh between retailer and group and never changes their sum.
abbrev pub MethodsAgreeInSum : Type 0
MethodsAgreeInSum = (method : Method) (baseline plan : ℕ) (deemed : ℤ) (used : ℕ) → plan ≤ baseline →
    pos (settled_by method baseline plan deemed used).supplied +ℤ (settled_by method baseline plan deemed used).imbalance ≡ deemed +ℤ pos used -ℤ pos plan
