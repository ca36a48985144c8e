-- When two numbers are the same.
use Rattle.std.specs.Prelude.{◌≡◌, Bool, Decides}
use Rattle.std.specs.Str.{bytes_eq}
use Rattle.numbers.specs.declared.number.Number.{Number}
use Rattle.numbers.specs.Digits.{digits_of}

-- whether two numbers have the same digits
abbrev pub same_number : Number → Number → Bool
same_number a b = bytes_eq (digits_of a) (digits_of b)

-- what comparing answers: true exactly where the two are one value
pub record Compared (a b : Number) (r : Bool) : Type 0 where
  pub by_digits : r ≡ same_number a b
  pub tells : Decides r (a ≡ b)
