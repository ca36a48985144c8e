-- What is found in a list, and what waits, element by element under a function.
use Rattle.std.proofs.Common.{◌≡◌, Bool, List, [], ◌∷◌, map, refl, ap, arith}
use Rattle.std.specs.Option.{option_map}
use Rattle.waiting.specs.Items.{Waiting, holding, earliest, without_earliest}
use Rattle.carriage.specs.Carried.{unpacked}

pub earliest-map : {X Y : Type 0} (f : X → Y) (p : Y → Bool) (xs : List X) → option_map f (earliest (λ x. p (f x)) xs) ≡ earliest p (map f xs)
earliest-map f p [] = refl
earliest-map f p (x ∷ xs) = grind (arith, earliest-map f p xs)

without_earliest-map : {X Y : Type 0} (f : X → Y) (p : Y → Bool) (xs : List X) → map f (without_earliest (λ x. p (f x)) xs) ≡ without_earliest p (map f xs)
without_earliest-map f p [] = refl
without_earliest-map f p (x ∷ xs) = grind (arith, without_earliest-map f p xs)

-- the earliest taken from what waits
pub taken-unpacked :
    {X Y : Type 0} (f : X → Y) (p : Y → Bool) (w : Waiting X) →
    unpacked f (holding w (without_earliest (λ x. p (f x)) w.items)) ≡ holding (unpacked f w) (without_earliest p (unpacked f w).items)
taken-unpacked f p w = ap (holding (unpacked f w)) (without_earliest-map f p w.items)
