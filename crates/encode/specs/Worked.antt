-- A message that is worked out by hand.
use Rattle.std.specs.Prelude.{ℕ, List, [], ◌∷◌, None}
use Rattle.numbers.specs.declared.number.Number.{Number}
use Rattle.numbers.specs.Digits.{number_of}
use Rattle.isup.specs.declared.message.Service.TheVariants.{Speech}
use Rattle.isup.specs.declared.message.Message.{Message}
use Rattle.isup.specs.declared.message.Message.TheVariants.{InitialAddress}

-- the opening of a call to 4012, for speech
abbrev pub opening : Message Number
opening = InitialAddress Speech (number_of (4 ∷ 0 ∷ 1 ∷ 2 ∷ [])) None

-- its octets on leg 0 of call 0
abbrev pub opening_octets : List ℕ
opening_octets =
    0x00 ∷ 0x00 ∷ 0x01 ∷ 0x00 ∷ 0x20 ∷ 0x01 ∷ 0x0A ∷ 0x00 ∷ 0x02 ∷ 0x00 ∷ 0x04 ∷ 0x03 ∷ 0x10 ∷ 0x04 ∷ 0x21 ∷ []
