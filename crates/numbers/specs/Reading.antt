-- What reading a number answers, and when octets are a coding of a number.
use Rattle.std.specs.Prelude.{◌≡◌, ℕ, ◌-◌, ◌*◌, ◌/◌, ◌%◌, Bool, true, false, cond, ◌&&◌, List, [], ◌∷◌, length, take, drop, Ok, Err, Result, ◌==◌, nat_le, nat_lt, slice_index}
use Rattle.numbers.specs.declared.number.Number.{Number}
use Rattle.numbers.specs.declared.number.Party.{Party}
use Rattle.numbers.specs.declared.number.NumberFault.{NumberFault}
use Rattle.numbers.specs.declared.number.NumberFault.TheVariants.{Count, Digit, Filler, NatureOrPlan}
use Rattle.numbers.specs.Digits.{digits_of, number_of, content}

-- the number of each fault
abbrev pub number_fault_number : NumberFault → ℕ
number_fault_number Count = 1
number_fault_number Digit = 2
number_fault_number Filler = 3
number_fault_number NatureOrPlan = 4

-- the halves of each octet, the low one first
abbrev pub unpack : List ℕ → List ℕ
unpack [] = []
unpack (o ∷ os) = (o % 16) ∷ (o / 16) ∷ unpack os

-- none is above 9
abbrev pub all_digits : List ℕ → Bool
all_digits [] = true
all_digits (d ∷ ds) = nat_le d 9 && all_digits ds

-- two digits to each octet behind nature and plan, one less where the nature octet marks an odd count
abbrev pub count_in : List ℕ → ℕ
count_in octets = 2 * (length octets - 2) - cond (nat_le 128 (slice_index octets 0)) 1 0

-- the digits, then the filler (behind an even count there is none, and 0 is read past the end)
abbrev pub read_digits : Bool → ℕ → List ℕ → Result (Party Number × ℕ) NumberFault
read_digits restricted count octets =
    cond (all_digits (take count (unpack octets)))
    (cond (slice_index (unpack octets) count == 0)
    (Ok (record { number = number_of (take count (unpack octets)); restricted = restricted }, length octets)) (Err Filler))
    (Err Digit)

-- the count of digits, then the nature octet, then the plan octet, then the digits and the filler
abbrev pub read_number : Bool → List ℕ → Result (Party Number × ℕ) NumberFault
read_number may_restrict octets =
    cond (nat_lt (length octets) 2) (Err Count)
    (cond (nat_lt (count_in octets) 3) (Err Count)
    (cond (nat_lt 15 (count_in octets)) (Err Count)
    (cond (slice_index octets 0 == cond (nat_le 128 (slice_index octets 0)) 0x83 0x03)
    (cond (slice_index octets 1 == 0x10) (read_digits false (count_in octets) (drop 2 octets))
    (cond (may_restrict && slice_index octets 1 == 0x14) (read_digits true (count_in octets) (drop 2 octets)) (Err NatureOrPlan)))
    (Err NatureOrPlan))))

-- the octets are a coding of the number under its mark, where restricted numbers may or may not stand
pub record NumberCoded (may_restrict : Bool) (p : Party Number) (octets : List ℕ) : Type 0 where
  pub marked : p.restricted ≡ true → may_restrict ≡ true
  pub same : octets ≡ content p

-- octets are accepted exactly where they code a number, and then that number is answered with the count of its digit octets
pub record NumbersAreReadAsCoded : Type 0 where
  pub sound :
      (may : Bool) (octets : List ℕ) (p : Party Number) (used : ℕ) → read_number may octets ≡ Ok (p, used) →
      NumberCoded may p octets × (used ≡ length octets - 2)
  pub complete : (may : Bool) (octets : List ℕ) (p : Party Number) → NumberCoded may p octets → read_number may octets ≡ Ok (p, length octets - 2)

-- one string of octets codes at most one number under one mark
abbrev pub OneNumberToACoding : Type 0
OneNumberToACoding = (p q : Party Number) → content p ≡ content q → p ≡ q

-- numbers with the same digits are the same value
abbrev pub EqualDigitsEqualNumbers : Type 0
EqualDigitsEqualNumbers = (a b : Number) → digits_of a ≡ digits_of b → a ≡ b
