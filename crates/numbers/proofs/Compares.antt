-- Comparing the digits compares the numbers.
use Rattle.std.proofs.Common.{◌≡◌, ℕ, Bool, List, Decides, ap, rules}
use Rattle.std.specs.Str.{bytes_eq}
use Rattle.std.proofs.lemmas.Slice.Eq.{bytes_eq-Decides}
use Rattle.numbers.specs.declared.number.Number.{Number}
use Rattle.numbers.specs.Digits.{digits_of}
use Rattle.numbers.specs.Comparing.{Compared, same_number}
use Rattle.numbers.proofs.Same.{equal_digits}

tested : (xs ys : List ℕ) (r : Bool) → Decides r (xs ≡ ys) → r ≡ bytes_eq xs ys
tested xs ys r h = search (rules, bytes_eq-Decides)

pub compared : (a b : Number) (r : Bool) → Decides r (digits_of a ≡ digits_of b) → Compared a b r
compared a b r h = record {
  by_digits = tested (digits_of a) (digits_of b) r h;
  tells = (λ t. equal_digits a b (h.0 t), λ q. h.1 (ap digits_of q));
}

pub same_decides : (a b : Number) → Decides (same_number a b) (a ≡ b)
same_decides a b =
    let h = bytes_eq-Decides (digits_of a) (digits_of b) in
    (λ t. equal_digits a b (h.0 t), λ q. h.1 (ap digits_of q))
