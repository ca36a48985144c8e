-- The first that fits and how many fit, in a list without some of its elements and in two lists joined.
use Rattle.std.proofs.Common.{◌≡◌, ◌+◌, ◌≤◌, Bool, true, false, cond, not, List, [], ◌∷◌, ◌++◌, length, is_some, None, count_by, refl, arith}
use Rattle.std.proofs.lemmas.List.Filters.{length-filter_both, sum_by-filter_both}
use Rattle.std.proofs.lemmas.List.Sums.{length-filter, sum_by-cons, sum_by_push}
use Rattle.waiting.specs.Items.{earliest, others}

-- where those that fit q are all among those taken out, or none of them is
pub earliest_without :
    {X : Type 0} (p q : X → Bool) (b : Bool) → ((x : X) → q x ≡ true → p x ≡ b) → (xs : List X) →
    earliest q (others p xs) ≡ cond b None (earliest q xs)
earliest_without p q true h [] = refl
earliest_without p q false h [] = refl
earliest_without p q true h (y ∷ ys) = grind (arith, h y, earliest_without p q true h ys)
earliest_without p q false h (y ∷ ys) = grind (arith, h y, earliest_without p q false h ys)

-- taking out lowers no count
pub count_without : {X : Type 0} (p q : X → Bool) (xs : List X) → count_by q (others p xs) ≤ count_by q xs
count_without p q xs =
    let h = sum_by-filter_both (λ x. not (p x)) (λ x. not (not (p x))) (λ _. refl) (λ x. cond (q x) 1 0) xs in
    omega arith

-- those taken out and the others make up the list
pub length_without : {X : Type 0} (p : X → Bool) (xs : List X) → length (others p xs) + count_by p xs ≡ length xs
length_without p xs =
    let h = length-filter_both p (λ x. not (p x)) (λ _. refl) xs in
    let n = length-filter p xs in
    omega arith

-- one more at the end
pub count_push : {X : Type 0} (q : X → Bool) (xs : List X) (y : X) → count_by q (xs ++ (y ∷ [])) ≡ count_by q xs + cond (q y) 1 0
count_push q xs y = sum_by_push (λ x. cond (q x) 1 0) xs y

-- where none fits, none is counted
pub count_none : {X : Type 0} (q : X → Bool) (xs : List X) → is_some (earliest q xs) ≡ false → count_by q xs ≡ 0
count_none q [] e = refl
count_none q (y ∷ ys) e =
    let c = sum_by-cons (λ x. cond (q x) 1 0) y ys in
    grind (arith, count_none q ys)

-- where none is counted, none fits
pub none_counted : {X : Type 0} (q : X → Bool) (xs : List X) → count_by q xs ≡ 0 → is_some (earliest q xs) ≡ false
none_counted q [] e = refl
none_counted q (y ∷ ys) e =
    let c = sum_by-cons (λ x. cond (q x) 1 0) y ys in
    grind (arith, none_counted q ys)
