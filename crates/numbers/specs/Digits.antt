-- A number by its digits, and its content octets.
use Rattle.std.specs.Prelude.{◌≡◌, ℕ, zero, suc, ◌+◌, ◌*◌, ◌%◌, ◌≤◌, min, max, Bool, false, cond, List, [], ◌∷◌, length, take, ◌==◌, slice_index, refl}
use Rattle.std.proofs.Common.{ap, arith}
use Rattle.numbers.specs.declared.number.Number.{Number}
use Rattle.numbers.specs.declared.number.Party.{Party}

-- the digits of a number, first to last
abbrev pub digits_of : Number → List ℕ
digits_of n = take n.count n.digits

-- digits that make a number: 3 to 15 of them, each 0 to 9
pub record Lawful (ds : List ℕ) : Type 0 where
  pub few : 3 ≤ length ds
  pub many : length ds ≤ 15
  pub each : (k : ℕ) → slice_index ds k ≤ 9

-- digits two to an octet, the earlier in the low half, an odd end filled with 0
abbrev pub pack : List ℕ → List ℕ
pack [] = []
pack (d ∷ []) = d ∷ []
pack (d ∷ e ∷ ds) = (e * 16 + d) ∷ pack ds

-- the nature octet, whose top bit marks an odd count of digits
abbrev pub nature_of : ℕ → ℕ
nature_of count = cond (count % 2 == 1) 0x83 0x03

-- the plan octet, which tells whether presentation is restricted
abbrev pub plan_of : Bool → ℕ
plan_of restricted = cond restricted 0x14 0x10

-- the content octets of a number under its mark: nature, plan, digits
abbrev pub content : Party Number → List ℕ
content p = nature_of (length (digits_of p.number)) ∷ plan_of p.restricted ∷ pack (digits_of p.number)

-- the content of a number that carries no mark
abbrev pub plain : Number → List ℕ
plain n = content (record { number = n; restricted = false })

-- n places with digits at the front and zeros behind them; what is no digit is brought to 9
abbrev pub padded : ℕ → List ℕ → List ℕ
padded zero ds = []
padded (suc n) [] = 0 ∷ padded n []
padded (suc n) (d ∷ ds) = min d 9 ∷ padded n ds

pub padded-length : (n : ℕ) (ds : List ℕ) → length (padded n ds) ≡ n
padded-length zero ds = refl
padded-length (suc n) [] = ap suc (padded-length n [])
padded-length (suc n) (d ∷ ds) = ap suc (padded-length n ds)

pub padded_each : (n : ℕ) (ds : List ℕ) (k : ℕ) → slice_index (padded n ds) k ≤ 9
padded_each zero ds k = omega arith
padded_each (suc n) [] zero = omega arith
padded_each (suc n) [] (suc k) = padded_each n [] k
padded_each (suc n) (d ∷ ds) zero = omega arith
padded_each (suc n) (d ∷ ds) (suc k) = padded_each n ds k

pub padded_rest : (n : ℕ) (ds : List ℕ) (k : ℕ) → min (length ds) n ≤ k → slice_index (padded n ds) k ≡ 0
padded_rest zero ds k h = refl
padded_rest (suc n) [] zero h = refl
padded_rest (suc n) [] (suc k) h = padded_rest n [] k (omega arith)
padded_rest (suc n) (d ∷ ds) zero h = absurd (omega arith)
padded_rest (suc n) (d ∷ ds) (suc k) h = padded_rest n ds k (omega arith)

-- the number with these digits; where they are not lawful, a number all the same
abbrev pub number_of : List ℕ → Number
number_of ds = record {
  digits = padded 15 ds;
  count = max 3 (min (length ds) 15);
  whole = padded-length 15 ds;
  low = omega arith;
  high = omega arith;
  each = padded_each 15 ds;
  rest = λ k h. padded_rest 15 ds k (omega arith);
}
