-- Digits in the halves of octets.
use Rattle.std.proofs.Common.{◌≡◌, ℕ, zero, suc, ◌+◌, ◌*◌, ◌/◌, ◌%◌, ◌≤◌, Bool, true, ◌&&◌, eqb, leb, List, [], ◌∷◌, length, get_or, take, Ok, sym, refl, ap, ◌∙◌, arith}
use Rattle.std.proofs.lemmas.Bool.Decides.{nat_tests}
use Rattle.std.proofs.lemmas.Bool.{and_parts, leb-true, cond-true, eq-eqb}
use Rattle.numbers.specs.declared.number.Number.{Number}
use Rattle.numbers.specs.Digits.{number_of}
use Rattle.numbers.specs.Reading.{unpack, all_digits, read_digits}

pub length-unpack : (os : List ℕ) → length (unpack os) ≡ 2 * length os
length-unpack [] = refl
length-unpack (o ∷ os) = let h = length-unpack os in omega arith

-- the two halves of the octet at a place
pub low_half : (os : List ℕ) (k : ℕ) → get_or (unpack os) (2 * k) 0 ≡ get_or os k 0 % 16
low_half [] k = refl
low_half (o ∷ os) zero = refl
low_half (o ∷ os) (suc k) = let e : 2 * suc k ≡ suc (suc (2 * k)) = omega arith in rw e (low_half os k)

pub high_half : (os : List ℕ) (k : ℕ) → get_or (unpack os) (2 * k + 1) 0 ≡ get_or os k 0 / 16
high_half [] k = refl
high_half (o ∷ os) zero = refl
high_half (o ∷ os) (suc k) = let e : 2 * suc k + 1 ≡ suc (suc (2 * k + 1)) = omega arith in rw e (high_half os k)

-- the test of digits is that none is above 9
pub digits_each : (ds : List ℕ) → all_digits ds ≡ true → (k : ℕ) → get_or ds k 0 ≤ 9
digits_each [] e k = omega arith
digits_each (d ∷ ds) e zero = leb-true d 9 (and_parts (leb d 9) (all_digits ds) e).0
digits_each (d ∷ ds) e (suc k) = digits_each ds (and_parts (leb d 9) (all_digits ds) e).1 k

pub below : (n : ℕ) → n ≤ 9 → leb n 9 ≡ true
below n h = grind (arith, nat_tests)

pub each_digits : (ds : List ℕ) → ((k : ℕ) → get_or ds k 0 ≤ 9) → all_digits ds ≡ true
each_digits [] f = refl
each_digits (d ∷ ds) f = ap (λ b. b && all_digits ds) (below d (f 0)) ∙ each_digits ds (λ k. f (suc k))

-- digits and filler that are as they should be
pub all_read :
    (r : Bool) (os : List ℕ) (count : ℕ) (n : Number) → all_digits (take count (unpack os)) ≡ true → n ≡ number_of (take count (unpack os)) → get_or (unpack os) count 0 ≡ 0 →
    Ok (record { number = n; restricted = r }, length os) ≡ read_digits r count os
all_read r os count n a e z =
    ap (λ (x : Number). Ok (record { number = x; restricted = r }, length os)) e
    ∙ sym (cond-true (all_digits (take count (unpack os))) _ _ a ∙ cond-true (eqb (get_or (unpack os) count 0) 0) _ _ (eq-eqb (get_or (unpack os) count 0) 0 z))
