-- What making refuses with.
use Rattle.std.specs.Prelude.{Option, Result}
use Rattle.std.specs.Option.{ok_or}
use Rattle.numbers.specs.declared.refusal.Refusal.{Refusal}
use Rattle.numbers.specs.declared.refusal.Refusal.TheVariants.{OutOfRange}

-- what is made, or the refusal where nothing is
abbrev pub or_refused : {A : Type 0} → Option A → Result A Refusal
or_refused made = ok_or made OutOfRange
