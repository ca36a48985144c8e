-- The number of each refusal.
use Rattle.std.specs.Prelude.{ℕ}
use Rattle.numbers.specs.declared.refusal.Refusal.{Refusal}
use Rattle.numbers.specs.declared.refusal.Refusal.TheVariants.{TooShort, OutOfRange, NoFreeCell, NotHeld, NotEmpty, Full, NoRoute, CallInUse, NothingWaits, OtherState, NoDeflection, LimitReached, CallerUp, MessagesWait}

abbrev pub refusal_number : Refusal → ℕ
refusal_number TooShort = 9
refusal_number OutOfRange = 10
refusal_number NoFreeCell = 11
refusal_number NotHeld = 12
refusal_number NotEmpty = 13
refusal_number Full = 15
refusal_number NoRoute = 16
refusal_number CallInUse = 17
refusal_number NothingWaits = 18
refusal_number OtherState = 19
refusal_number NoDeflection = 20
refusal_number LimitReached = 21
refusal_number CallerUp = 22
refusal_number MessagesWait = 23
