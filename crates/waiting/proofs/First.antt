-- The first that fits: its element is the earliest, and without it the list is without the earliest.
use Rattle.std.proofs.Common.{◌≡◌, ℕ, suc, ◌+◌, ◌≤◌, Bool, true, false, not, cond, List, [], ◌∷◌, length, take, Option, Some, None, unwrap_or, sym, refl, ap, subst, ◌∙◌, arith}
use Rattle.std.specs.List.{slice_get, remove, position_or_len}
use Rattle.std.proofs.lemmas.Bool.Decides.{nat_tests}
use Rattle.std.proofs.lemmas.Iterator.Adapters.{position_from-zero}
use Rattle.std.proofs.lemmas.List.{length-take, take-take}
use Rattle.std.proofs.lemmas.List.Sums.{prefix_len-le-length}
use Rattle.std.proofs.lemmas.Option.{slice_get_past}
use Rattle.waiting.specs.Items.{first_fit, earliest, without_earliest, others}
use Rattle.waiting.proofs.Cut.{removed_none}

at_first : {X : Type 0} (p : X → Bool) (xs : List X) → slice_get xs (position_or_len p xs) ≡ earliest p xs
at_first p [] = refl
at_first p (x ∷ xs) = grind (arith, at_first p xs)

without_by :
    {X : Type 0} (b : Bool) (x : X) (xs w : List X) (k : ℕ) → remove xs k ≡ w → remove (x ∷ xs) (cond (not b) (1 + k) 0) ≡ cond b xs (x ∷ w)
without_by true x xs w k e = refl
without_by false x xs w k e =
    let next : 1 + k ≡ suc k = omega arith in
    ap (remove (x ∷ xs)) next ∙ ap (λ l. x ∷ l) e

without_first : {X : Type 0} (p : X → Bool) (xs : List X) → remove xs (position_or_len p xs) ≡ without_earliest p xs
without_first p [] = refl
without_first p (x ∷ xs) = without_by (p x) x xs (without_earliest p xs) (position_or_len p xs) (without_first p xs)

-- a place that was found is the first place
place : {X : Type 0} (p : X → Bool) (xs : List X) (i : ℕ) → Some i ≡ first_fit p xs → position_or_len p xs ≡ i
place p xs i e =
    let z = position_from-zero p xs in
    grind (arith, nat_tests)

pub found_answers : {X : Type 0} (p : X → Bool) (xs : List X) (i : ℕ) → Some i ≡ first_fit p xs → slice_get xs i ≡ earliest p xs
found_answers p xs i e = sym (ap (slice_get xs) (place p xs i e)) ∙ at_first p xs

pub found_leaves : {X : Type 0} (p : X → Bool) (xs : List X) (i : ℕ) → Some i ≡ first_fit p xs → remove xs i ≡ without_earliest p xs
found_leaves p xs i e = sym (ap (remove xs) (place p xs i e)) ∙ without_first p xs

-- where none fits, the first place is past the end
none_place : {X : Type 0} (p : X → Bool) (xs : List X) → None ≡ first_fit p xs → None ≡ slice_get xs (position_or_len p xs)
none_place p xs e =
    let z = position_from-zero p xs in
    let past : length xs ≤ position_or_len p xs = grind (arith, nat_tests) in
    sym (slice_get_past xs (position_or_len p xs) past)

pub missing_answers : {X : Type 0} (p : X → Bool) (xs : List X) → None ≡ first_fit p xs → None ≡ earliest p xs
missing_answers p xs e = none_place p xs e ∙ at_first p xs

pub missing_leaves : {X : Type 0} (p : X → Bool) (xs : List X) → None ≡ first_fit p xs → xs ≡ without_earliest p xs
missing_leaves p xs e = sym (removed_none xs (position_or_len p xs) (none_place p xs e)) ∙ without_first p xs

-- in front of the first that fits stand only others
before_first : {X : Type 0} (p : X → Bool) (xs : List X) → others p (take (position_or_len p xs) xs) ≡ take (position_or_len p xs) xs
before_first p [] = refl
before_first p (x ∷ xs) =
    let k = position_or_len p xs in
    let next : 1 + k ≡ suc k = omega arith in
    let more = ap (λ j. take j (x ∷ xs)) next in
    grind (arith, before_first p xs)

-- the same at the front of a memory, where it may be all of the front
pub passed :
    {X : Type 0} {m k : ℕ} (p : X → Bool) (d : List X) (n : ℕ) (o : Option ℕ) → n ≤ length d →
    k ≡ unwrap_or o m → m ≡ n → o ≡ first_fit p (take n d) → (k ≤ n) × (take k d ≡ others p (take k d))
passed {k} p d n o l e same found =
    let xs = take n d in
    let z = position_from-zero p xs in
    let few = prefix_len-le-length (λ x. not (p x)) xs in
    let all = length-take n d in
    let at : position_or_len p xs ≡ k = grind (arith, nat_tests) in
    let below : k ≤ n = omega arith in
    (below, subst (λ v. v ≡ others p v) (ap (λ j. take j xs) at ∙ take-take k n d below) (sym (before_first p xs)))
