-- Which places are an owner's.
use Rattle.std.specs.Prelude.{Bool, true, false, ◌&&◌, ◌==◌}
use Rattle.terms.specs.declared.codes.OwnerKind.{OwnerKind}
use Rattle.terms.specs.declared.codes.OwnerKind.TheVariants.{RetailContract, CurtailmentGroup}
use Rattle.terms.specs.declared.records.Owner.{Owner}
use Rattle.terms.specs.declared.records.Place.{Place}

abbrev pub same_kind : OwnerKind → OwnerKind → Bool
same_kind RetailContract RetailContract = true
same_kind RetailContract CurtailmentGroup = false
same_kind CurtailmentGroup RetailContract = false
same_kind CurtailmentGroup CurtailmentGroup = true

-- A place is the owner's if it names the owner's kind and number.
abbrev pub is_of : Owner → Place → Bool
is_of o p = same_kind o.kind p.owner.kind && p.owner.number == o.number
