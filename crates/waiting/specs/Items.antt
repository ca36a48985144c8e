-- What a waiting list means, and what is found in a list.
use Rattle.std.specs.Prelude.{ℕ, Bool, cond, not, List, [], ◌∷◌, ◌++◌, length, filter, Option, ◌==◌}
use Rattle.std.specs.List.{find, position_from}

-- how many elements there is room for in all, and the elements that wait, the earliest first
pub record Waiting (T : Type 0) : Type 0 where
  pub places : ℕ
  pub items : List T

-- the same room with other elements in it
abbrev pub holding : {T : Type 0} → Waiting T → List T → Waiting T
holding w xs = record { places = w.places; items = xs }

-- whether as many are held as there is room for
abbrev pub is_full : {X : Type 0} → ℕ → List X → Bool
is_full room xs = length xs == room

-- one more at the end, where there is room
abbrev pub added : {X : Type 0} → ℕ → List X → X → List X
added room xs x = cond (is_full room xs) xs (xs ++ (x ∷ []))

-- the place of the first that fits, from 0
abbrev pub first_fit : {X : Type 0} → (X → Bool) → List X → Option ℕ
first_fit p xs = position_from p 0 xs

-- the first that fits
abbrev pub earliest : {X : Type 0} → (X → Bool) → List X → Option X
earliest p xs = find p xs

-- the list without the first that fits
abbrev pub without_earliest : {X : Type 0} → (X → Bool) → List X → List X
without_earliest p [] = []
without_earliest p (x ∷ xs) = cond (p x) xs (x ∷ without_earliest p xs)

-- the list without all that fit
abbrev pub others : {X : Type 0} → (X → Bool) → List X → List X
others p xs = filter (λ x. not (p x)) xs
