-- One element taken out of a list that is the front of its memory.
use Rattle.std.proofs.Common.{◌≡◌, ℕ, suc, ◌+◌, ◌-◌, ◌<◌, ◌≤◌, List, ◌++◌, length, take, drop, Some, None, sym, ap, subst, ◌∙◌, inl, inr, arith}
use lib.Seq.{paste}
use Rattle.waiting.specs.Items.{Waiting, holding}
use Rattle.std.specs.List.{slice_get, remove}
use Rattle.std.proofs.lemmas.List.Edits.{take-paste}
use Rattle.std.proofs.lemmas.List.{append-nil, drop_all, drop-take, length-drop, length-take, take_all, take-take}
use Rattle.std.proofs.lemmas.Option.{slice_get_cases, slice_get_within, none-some}

-- where there is none at a place, none is removed
pub removed_none : {X : Type 0} (xs : List X) (i : ℕ) → None ≡ slice_get xs i → remove xs i ≡ xs
removed_none xs i e =
    elim ((slice_get_cases xs i).1) [
      | inl h ↦ absurd (none-some h.0 (e ∙ h.2))
      | inr h ↦
          ap (λ l. l ++ drop (suc i) xs) (take_all i xs h.0)
          ∙ ap (λ l. xs ++ l) (drop_all (suc i) xs (omega arith))
          ∙ append-nil xs
    ]

-- the elements behind place i moved up by one: the list without that place's
pub closed_up :
    {X : Type 0} (d : List X) (i n : ℕ) → n ≤ length d → i < n →
    take (n - 1) (paste d i (drop (i + 1) d) (n - (i + 1))) ≡ remove (take n d) i
closed_up d i n e h =
    let m = n - (i + 1) in
    let inside : m ≤ length (drop (i + 1) d) = simp length-drop (omega arith) in
    let less : n - 1 ≡ i + m = omega arith in
    let whole : n ≡ suc i + m = omega arith in
    let next : i + 1 ≡ suc i = omega arith in
    let rest : drop (suc i) (take n d) ≡ take m (drop (i + 1) d) =
    ap (λ k. drop (suc i) (take k d)) whole ∙ drop-take (suc i) m d ∙ ap (λ k. take m (drop k d)) (sym next) in
    ap (λ k. take k (paste d i (drop (i + 1) d) m)) less
    ∙ take-paste d i (drop (i + 1) d) m (omega arith) inside
    ∙ ap (λ z. take i d ++ z) (sym rest)
    ∙ ap (λ z. z ++ drop (suc i) (take n d)) (sym (take-take i n d (omega arith)))

-- the list that so many at the front of the memory are
abbrev front : {X : Type 0} → List X → ℕ → Waiting X
front d n = record { places = length d; items = take n d }

-- a place with an element is below the number held
pub within : {X : Type 0} (d : List X) (n i : ℕ) (x : X) (w : Waiting X) → front d n ≡ w → Some x ≡ slice_get w.items i → i < n
within d n i x w e h =
    let few = length-take n d in
    let same = ap (λ v. length v.items) e in
    let below = slice_get_within w.items i x (sym h) in
    omega arith

-- the memory with one element taken out
pub taken_out :
    {X : Type 0} (d new : List X) (i n : ℕ) (w : Waiting X) → front d n ≡ w → n ≤ length d → i < n → length new ≡ length d →
    new ≡ paste d i (drop (i + 1) d) (n - (i + 1)) → front new (n - 1) ≡ holding w (remove w.items i)
taken_out d new i n w e l h same after =
    subst (λ v. front new (n - 1) ≡ holding v (remove v.items i)) e
    (ap (λ k. holding (record { places = k; items = d }) (take (n - 1) new)) same
    ∙ ap (holding (front d n)) (ap (take (n - 1)) after ∙ closed_up d i n l h))
