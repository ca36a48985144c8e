-- What a draft holds.
use Rattle.std.specs.Prelude.{◌≡◌, ℕ, ◌<◌, List, ◌++◌, length, take, drop, Ok, Err, Result}
use Rattle.numbers.specs.declared.draft.Draft.{Draft}
use Rattle.numbers.specs.declared.refusal.Refusal.{Refusal}
use Rattle.numbers.specs.declared.refusal.Refusal.TheVariants.{TooShort}

-- the octets drafted so far
abbrev pub drafted : Draft → List ℕ
drafted d = take d.len d.octets

-- a draft has 64 places; what goes beyond them is lost
abbrev pub cut : List ℕ → List ℕ
cut xs = take 64 xs

-- a draft holds what it held and then these octets, as far as there is room
abbrev pub Adds : Draft → Draft → List ℕ → Type 0
Adds old new xs = drafted new ≡ cut (drafted old ++ xs)

-- xs are written at the front of the memory and counted, and what lies behind stays; memory that is too short stays whole
abbrev pub Written : List ℕ → List ℕ → List ℕ → Result ℕ Refusal → Type 0
Written xs old new (Ok n) = (n ≡ length xs) × (new ≡ xs ++ drop n old)
Written xs old new (Err e) = (e ≡ TooShort) × (length old < length xs) × (new ≡ old)
