-- What writing a message leaves in the memory.
use Rattle.std.specs.Prelude.{◌≡◌, ℕ, ◌+◌, ◌<◌, ◌≤◌, List, [], ◌∷◌, ◌++◌, length, take, drop, Ok, Err, Result}
use Rattle.numbers.specs.declared.number.Number.{Number}
use Rattle.numbers.specs.declared.refusal.Refusal.{Refusal}
use Rattle.numbers.specs.declared.refusal.Refusal.TheVariants.{TooShort}
use Rattle.numbers.specs.Digits.{plain}
use Rattle.isup.specs.declared.message.Circuit.{Circuit}
use Rattle.isup.specs.declared.message.Message.{Message}
use Rattle.isup.specs.declared.message.Message.TheVariants.{InitialAddress, AddressComplete, CallProgress, Answer, Connect, Release}
use Rattle.isup.specs.Ranges.{circuit_octets}
use Rattle.isup.specs.Coding.{Parameter, head_of, variable_of, behind, Coded}
use Rattle.decode.specs.Messages.{read_message}
use Rattle.encode.specs.Sending.{any_sent, sent}

-- the octets behind the circuit
abbrev pub body : Message Number → List ℕ
body m = head_of m ++ behind (variable_of m) (any_sent (sent m)) (sent m)

-- the octets that are written for a message
abbrev pub written : Circuit → Message Number → List ℕ
written c m = circuit_octets c ++ body m

-- circuit, type and fixed octets, pointers, and the variable field with its length
abbrev pub mandatory_size : Message Number → ℕ
mandatory_size (InitialAddress s c r) = 11 + length (plain c)
mandatory_size (AddressComplete l b) = 6
mandatory_size (CallProgress e b) = 5
mandatory_size (Answer r) = 4
mandatory_size (Connect r) = 6
mandatory_size (Release c) = 8

-- name, length and content of each parameter
abbrev pub parameters_size : List Parameter → ℕ
parameters_size [] = 0
parameters_size (p ∷ ps) = 2 + length p.1 + parameters_size ps

-- the optional part with its closing 00; without a parameter there is none
abbrev pub optional_size : List Parameter → ℕ
optional_size [] = 0
optional_size (p ∷ ps) = parameters_size (p ∷ ps) + 1

-- how many octets a message takes: no parameter is sent but its own
abbrev pub size_of : Message Number → ℕ
size_of m = mandatory_size m + optional_size (sent m)

-- the first n octets code the message, are read as it and take no more room than it asks for, and what lies behind stays
pub record AtFront (c : Circuit) (m : Message Number) (old new : List ℕ) (n : ℕ) : Type 0 where
  pub coded : Coded c m (take n new)
  pub read_back : read_message (take n new) ≡ Ok (c, m)
  pub size : n ≡ size_of m
  pub room : n ≤ length old
  pub rest : drop n new ≡ drop n old

-- memory that is too short stays whole
pub record NoRoom (m : Message Number) (old new : List ℕ) (e : Refusal) : Type 0 where
  pub refusal : e ≡ TooShort
  pub size : length old < size_of m
  pub same : new ≡ old

abbrev pub MessageWritten : Circuit → Message Number → List ℕ → List ℕ → Result ℕ Refusal → Type 0
MessageWritten c m old new (Ok n) = AtFront c m old new n
MessageWritten c m old new (Err e) = NoRoom m old new e
