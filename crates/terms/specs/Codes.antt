-- The codes by which callers name the cases: one definition for each.
use Rattle.std.specs.Prelude.{◌≡◌, ◌≢◌, ℕ, cond, Some, None, Option, Result, MatchResult, ◌==◌}
use Rattle.terms.specs.declared.codes.Kind.{Kind}
use Rattle.terms.specs.declared.codes.Kind.TheVariants.{Generation, Retail, Negawatt}
use Rattle.terms.specs.declared.codes.Direction.{Direction}
use Rattle.terms.specs.declared.codes.Direction.TheVariants.{Sale, Purchase}
use Rattle.terms.specs.declared.codes.OwnerKind.{OwnerKind}
use Rattle.terms.specs.declared.codes.OwnerKind.TheVariants.{RetailContract, CurtailmentGroup}
use Rattle.terms.specs.declared.codes.Method.{Method}
use Rattle.terms.specs.declared.codes.Method.TheVariants.{One, Two}
use Rattle.terms.specs.declared.codes.UnknownCode.{UnknownCode}

abbrev pub kind_code : Kind → ℕ
kind_code Generation = 1
kind_code Retail = 2
kind_code Negawatt = 3

abbrev pub direction_code : Direction → ℕ
direction_code Sale = 1
direction_code Purchase = 2

abbrev pub owner_code : OwnerKind → ℕ
owner_code RetailContract = 1
owner_code CurtailmentGroup = 2

abbrev pub method_code : Method → ℕ
method_code One = 1
method_code Two = 2

-- The case with a code, if any has it.
abbrev pub kind_of : ℕ → Option Kind
kind_of code = cond (code == kind_code Generation) (Some Generation) (cond (code == kind_code Retail) (Some Retail) (cond (code == kind_code Negawatt) (Some Negawatt) None))

abbrev pub direction_of : ℕ → Option Direction
direction_of code = cond (code == direction_code Sale) (Some Sale) (cond (code == direction_code Purchase) (Some Purchase) None)

abbrev pub owner_kind_of : ℕ → Option OwnerKind
owner_kind_of code = cond (code == owner_code RetailContract) (Some RetailContract) (cond (code == owner_code CurtailmentGroup) (Some CurtailmentGroup) None)

abbrev pub method_of : ℕ → Option Method
method_of code = cond (code == method_code One) (Some One) (cond (code == method_code Two) (Some Two) None)

-- A method that is not stated, 0, counts as 1.
abbrev pub stated : ℕ → ℕ
stated code = cond (code == 0) 1 code

-- What a conversion from a code gives: the case with the code; or an error with the code, where no case has it.
abbrev pub Decodes : {C : Type 0} → (ℕ → Option C) → (C → ℕ) → ℕ → Result C UnknownCode → Type 0
Decodes {C} decoded coded code r = MatchResult r (λ x. (decoded code ≡ Some x) × (coded x ≡ code)) (λ e. (decoded code ≡ None) × (e.code ≡ code) × ((x : C) → coded x ≢ code))
