-- A number is its digits: the same digits are the same value.
use Rattle.std.proofs.Common.{◌≡◌, ℕ, zero, suc, ◌≤◌, min, max, List, [], ◌∷◌, length, get_or, take, sym, refl, ap, ◌∙◌, subst, arith}
use native.Mathlib.Bridge.{le_prop}
use denote.Struct.Props.{props}
use Rattle.std.proofs.lemmas.List.{length-take-le}
use Rattle.numbers.specs.declared.number.Number.{Number}
use Rattle.numbers.specs.Digits.{digits_of, Lawful, padded, number_of}
use Rattle.numbers.specs.Reading.{EqualDigitsEqualNumbers}

pub length_digits : (n : Number) → length (digits_of n) ≡ n.count
length_digits n = length-take-le n.count n.digits (omega (arith, n.high, n.whole))

whole_prop : (w : List ℕ) (x y : length w ≡ 15) → x ≡ y
whole_prop w = hlevel props

each_prop : (w : List ℕ) (x y : (k : ℕ) → get_or w k 0 ≤ 9) → x ≡ y
each_prop w = hlevel props

rest_prop : (w : List ℕ) (c : ℕ) (x y : (k : ℕ) → c ≤ k → get_or w k 0 ≡ 0) → x ≡ y
rest_prop w c = hlevel props

number_same : (a b : Number) → a.digits ≡ b.digits → a.count ≡ b.count → a ≡ b
number_same a b e f =
    subst
    (λ (w : List ℕ). (wh : length w ≡ 15) (l : 3 ≤ b.count) (h : b.count ≤ 15) (ea : (k : ℕ) → get_or w k 0 ≤ 9) (re : (k : ℕ) → b.count ≤ k → get_or w k 0 ≡ 0) →
    a ≡ record { digits = w; count = b.count; whole = wh; low = l; high = h; each = ea; rest = re }) e
    (subst
    (λ (c : ℕ). (wh : length a.digits ≡ 15) (l : 3 ≤ c) (h : c ≤ 15) (ea : (k : ℕ) → get_or a.digits k 0 ≤ 9) (re : (k : ℕ) → c ≤ k → get_or a.digits k 0 ≡ 0) →
    a ≡ record { digits = a.digits; count = c; whole = wh; low = l; high = h; each = ea; rest = re }) f
    (λ wh l h ea re. λ i. record {
      digits = a.digits;
      count = a.count;
      whole = whole_prop a.digits a.whole wh i;
      low = le_prop a.low l i;
      high = le_prop a.high h i;
      each = each_prop a.digits a.each ea i;
      rest = rest_prop a.digits a.count a.rest re i;
    })) b.whole b.low b.high b.each b.rest

padded_again :
    (n c : ℕ) (ds : List ℕ) → length ds ≡ n → ((k : ℕ) → get_or ds k 0 ≤ 9) → ((k : ℕ) → c ≤ k → get_or ds k 0 ≡ 0) → padded n (take c ds) ≡ ds
padded_again zero c [] l e r = refl
padded_again zero c (d ∷ ds) l e r = absurd (omega arith)
padded_again (suc n) c [] l e r = absurd (omega arith)
padded_again (suc n) zero (d ∷ ds) l e r =
    let z : 0 ≡ d = sym (r 0 (omega arith)) in
    ap (λ (x : ℕ). x ∷ padded n []) z ∙ ap (λ (t : List ℕ). d ∷ t) (padded_again n zero ds (omega arith) (λ k. e (suc k)) (λ k h. r (suc k) (omega arith)))
padded_again (suc n) (suc c) (d ∷ ds) l e r =
    let h = e 0 in
    let z : min d 9 ≡ d = omega arith in
    ap (λ (x : ℕ). x ∷ padded n (take c ds)) z ∙ ap (λ (t : List ℕ). d ∷ t) (padded_again n c ds (omega arith) (λ k. e (suc k)) (λ k h. r (suc k) (omega arith)))

-- a number is made again from its digits
pub number_again : (n : Number) → number_of (digits_of n) ≡ n
number_again n =
    let l = length_digits n in
    let lo = n.low in
    let hi = n.high in
    number_same (number_of (digits_of n)) n (padded_again 15 n.count n.digits n.whole n.each n.rest) (omega arith)

pub equal_digits : EqualDigitsEqualNumbers
equal_digits a b e = sym (number_again a) ∙ ap number_of e ∙ number_again b

padded_front : (n : ℕ) (ds : List ℕ) → length ds ≤ n → ((k : ℕ) → get_or ds k 0 ≤ 9) → take (length ds) (padded n ds) ≡ ds
padded_front n [] h e = refl
padded_front zero (d ∷ ds) h e = absurd (omega arith)
padded_front (suc n) (d ∷ ds) h e =
    let l = e 0 in
    let z : min d 9 ≡ d = omega arith in
    ap (λ (x : ℕ). x ∷ take (length ds) (padded n ds)) z ∙ ap (λ (t : List ℕ). d ∷ t) (padded_front n ds (omega arith) (λ k. e (suc k)))

-- and lawful digits are those of the number made from them
pub digits_again : (ds : List ℕ) → Lawful ds → digits_of (number_of ds) ≡ ds
digits_again ds d =
    let lo = d.few in
    let hi = d.many in
    let c : max 3 (min (length ds) 15) ≡ length ds = omega arith in
    ap (λ (n : ℕ). take n (padded 15 ds)) c ∙ padded_front 15 ds hi d.each

-- the digits of a number are lawful
pub lawful_digits : (n : Number) → Lawful (digits_of n)
lawful_digits n =
    let l = length_digits n in
    let lo = n.low in
    let hi = n.high in
    record { few = omega arith; many = omega arith; each = λ k. get_or_take_low n.count n.digits n.each k }
  where
    get_or_take_low : (c : ℕ) (ds : List ℕ) → ((k : ℕ) → get_or ds k 0 ≤ 9) → (k : ℕ) → get_or (take c ds) k 0 ≤ 9
    get_or_take_low zero ds f k = omega arith
    get_or_take_low (suc c) [] f k = omega arith
    get_or_take_low (suc c) (d ∷ ds) f zero = f 0
    get_or_take_low (suc c) (d ∷ ds) f (suc k) = get_or_take_low c ds (λ j. f (suc j)) k
