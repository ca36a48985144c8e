-- What moving from one carrier to another leaves on both, and answers.
use Rattle.std.specs.Prelude.{ℕ, zero, suc, ◌-◌, Bool, List, ◌++◌, length, take, Some, None, Ok, Err, filter, Option, Result}
use Rattle.numbers.specs.declared.refusal.Refusal.{Refusal}
use Rattle.numbers.specs.declared.refusal.Refusal.TheVariants.{Full}
use Rattle.waiting.specs.Items.{Waiting, holding, without_earliest}

-- the list without the first n that fit
abbrev pub without_first : {X : Type 0} → (X → Bool) → ℕ → List X → List X
without_first p zero xs = xs
without_first p (suc n) xs = without_first p n (without_earliest p xs)

-- the list with the first n that fit of another list behind it
abbrev pub with_first : {X : Type 0} → (X → Bool) → ℕ → List X → List X → List X
with_first p n xs ys = ys ++ take n (filter p xs)

-- what is free where so many wait
abbrev pub free_of : {X : Type 0} → Waiting X → ℕ
free_of w = w.places - length w.items

-- what the source keeps: all but as many of those that fit as the target has room for
abbrev pub left_behind : {X : Type 0} → (X → Bool) → Waiting X → Waiting X → Waiting X
left_behind p source target = holding source (without_first p (free_of target) source.items)

-- what the target then holds: those behind what waited there
abbrev pub moved_onto : {X : Type 0} → (X → Bool) → Waiting X → Waiting X → Waiting X
moved_onto p source target = holding target (with_first p (free_of target) source.items target.items)

-- what moving answers by the earliest that is left: a refusal where there is one
abbrev pub move_answer : {X : Type 0} → Option X → Result (Unit {0}) Refusal
move_answer None = Ok tt
move_answer (Some x) = Err Full
