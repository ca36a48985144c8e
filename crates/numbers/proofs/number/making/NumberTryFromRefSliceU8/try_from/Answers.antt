use Rattle.std.proofs.Common.{◌≡◌, ℕ, ◌+◌, ◌-◌, ◌<◌, ◌≤◌, List, [], ◌++◌, length, get_or, drop, ap, ◌∙◌, inl, inr, arith}
use Rattle.std.proofs.lemmas.List.{get_or_append_left, get_or-append_right, get_or-drop}
use Rattle.std.proofs.lemmas.Bool.{cases_lt}
use Rattle.std.proofs.lemmas.Grind.{common_steps}
use Rattle.numbers.specs.Digits.{padded, padded_rest}
use Rattle.numbers.proofs.number.making.NumberTryFromRefSliceU8.try_from.Goals as goal

-- zeros stand behind the digits
zeros_behind : (xs : List ℕ) (n k : ℕ) → length xs ≡ n → n ≤ k → get_or (xs ++ drop n (padded 15 [])) k 0 ≡ 0
zeros_behind xs n k e h =
    get_or-append_right xs (drop n (padded 15 [])) n k 0 e h ∙ get_or-drop n (padded 15 []) (k - n) 0 ∙ padded_rest 15 [] (n + (k - n)) (omega arith)

low_places : (xs : List ℕ) (n : ℕ) → length xs ≡ n → ((k : ℕ) → k < n → get_or xs k 0 ≤ 9) → (k : ℕ) → get_or (xs ++ drop n (padded 15 [])) k 0 ≤ 9
low_places xs n e f k =
    elim (cases_lt k n) [
      | inl h ↦ omega (arith, get_or_append_left xs (drop n (padded 15 [])) 0 k (omega arith), f k h)
      | inr h ↦ omega (arith, zeros_behind xs n k e h)
    ]

pub invariant_of-result-clause-rest : goal.invariant_of-result-clause-rest
invariant_of-result-clause-rest c = λ k h. zeros_behind c.copy_from_slice.new.self (length c.args.digits.now) k (ap length c.copy_from_slice.ensures.after) h

pub invariant_of-result-clause-each : goal.invariant_of-result-clause-each
invariant_of-result-clause-each c =
    let low : (k : ℕ) → k < length c.args.digits.now → get_or c.copy_from_slice.new.self k 0 ≤ 9 = grind (arith, common_steps) in
    low_places c.copy_from_slice.new.self (length c.args.digits.now) (ap length c.copy_from_slice.ensures.after) low
