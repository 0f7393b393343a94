-- The number of each refusal: the one definition that maps the cases to the numbers callers know.
use Rattle.std.specs.Prelude.{ℕ}
use Rattle.terms.specs.declared.refusal.Refusal.{Refusal}
use Rattle.terms.specs.declared.refusal.Refusal.TheVariants.{NotOfThisStage, UnknownCode, NumberOutOfRange, FigureOutOfRange, UnknownRecord, NumberTaken, TradeWithItself, PlanAboveBaseline, RankTaken, Full, WithoutMembers, NoticeOpen, WithoutReading, ShortBuffer, NotDivisible}

abbrev pub numbered : Refusal → ℕ
numbered NotOfThisStage = 1
numbered UnknownCode = 2
numbered NumberOutOfRange = 3
numbered FigureOutOfRange = 4
numbered UnknownRecord = 5
numbered NumberTaken = 6
numbered TradeWithItself = 7
numbered PlanAboveBaseline = 8
numbered RankTaken = 9
numbered Full = 10
numbered (WithoutMembers c) = 11
numbered NoticeOpen = 12
numbered (WithoutReading c) = 13
numbered ShortBuffer = 14
numbered NotDivisible = 15
