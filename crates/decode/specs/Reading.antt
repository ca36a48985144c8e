-- Reading against the relation of coding.
use Rattle.std.specs.Prelude.{◌≡◌, ℕ, ◌≤◌, List, Ok, Err, Result, slice_index}
use Rattle.numbers.specs.declared.number.Number.{Number}
use Rattle.isup.specs.declared.message.Circuit.{Circuit}
use Rattle.isup.specs.declared.message.Message.{Message}
use Rattle.isup.specs.Coding.{Coded}
use Rattle.decode.specs.declared.fault.MessageFault.{MessageFault}
use Rattle.decode.specs.Messages.{read_message}

-- numbers that are octets
abbrev pub Octets : List ℕ → Type 0
Octets xs = (k : ℕ) → slice_index xs k ≤ 255

-- octets that are read as a message are a coding of it
abbrev pub OnlyCodingsAreRead : Type 0
OnlyCodingsAreRead =
    (octets : List ℕ) (c : Circuit) (m : Message Number) → Octets octets → read_message octets ≡ Ok (c, m) → Coded c m octets

-- and every coding of a message is read as it
abbrev pub EveryCodingIsRead : Type 0
EveryCodingIsRead = (octets : List ℕ) (c : Circuit) (m : Message Number) → Coded c m octets → read_message octets ≡ Ok (c, m)

-- one string of octets is a coding of at most one message on one circuit
abbrev pub OneMessageToACoding : Type 0
OneMessageToACoding =
    (octets : List ℕ) (c d : Circuit) (m n : Message Number) → Coded c m octets → Coded d n octets → (c ≡ d) × (m ≡ n)

-- what is accepted is a coding of the message answered, and what is refused is a coding of none
abbrev pub ReadAsCoded : List ℕ → Result (Circuit × Message Number) MessageFault → Type 0
ReadAsCoded octets (Ok p) = Coded p.0 p.1 octets
ReadAsCoded octets (Err f) = (c : Circuit) (m : Message Number) → Coded c m octets → ⊥
