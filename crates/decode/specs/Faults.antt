-- The number, the place and the inner fault of each fault of a message.
use Rattle.std.specs.Prelude.{ℕ, Some, None, Ok, Err, Option, Result}
use Rattle.numbers.specs.declared.number.NumberFault.{NumberFault}
use Rattle.decode.specs.declared.fault.MessageFault.{MessageFault}
use Rattle.decode.specs.declared.fault.MessageFault.TheVariants.{Length, Kind, Missing, Pointer, Optional, Value, Repeated, Group}

abbrev pub fault_number : MessageFault → ℕ
fault_number Length = 1
fault_number Kind = 2
fault_number (Missing p) = 3
fault_number (Pointer p) = 4
fault_number (Optional p) = 5
fault_number (Value p f) = 6
fault_number (Repeated p) = 7
fault_number (Group p) = 8

-- the type octet is the third
abbrev pub fault_place : MessageFault → ℕ
fault_place Length = 0
fault_place Kind = 2
fault_place (Missing p) = p
fault_place (Pointer p) = p
fault_place (Optional p) = p
fault_place (Value p f) = p
fault_place (Repeated p) = p
fault_place (Group p) = p

-- a number's own fault stands whole inside a 6
abbrev pub fault_within : MessageFault → Option NumberFault
fault_within Length = None
fault_within Kind = None
fault_within (Missing p) = None
fault_within (Pointer p) = None
fault_within (Optional p) = None
fault_within (Value p f) = f
fault_within (Repeated p) = None
fault_within (Group p) = None

-- what is not there has no lawful value
abbrev pub or_value_fault : {X : Type 0} → Option X → ℕ → Result X MessageFault
or_value_fault (Some x) place = Ok x
or_value_fault None place = Err (Value place None)

-- one reading after another, up to the first fault
abbrev pub then : {A B : Type 0} → Result A MessageFault → (A → Result B MessageFault) → Result B MessageFault
then (Ok x) f = f x
then (Err e) f = Err e
