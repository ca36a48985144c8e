-- One step of moving, and its end.
use Rattle.std.proofs.Common.{◌≡◌, ℕ, zero, suc, ◌<◌, Bool, List, [], ◌∷◌, ◌++◌, take, Some, None, filter, sym, refl, ap, subst, ◌∙◌, arith}
use Rattle.std.proofs.lemmas.List.{append_assoc, append-nil, length_push, take_all}
use Rattle.std.proofs.lemmas.Bool.Decides.{nat_tests}
use Rattle.waiting.specs.Items.{Waiting, holding, added, earliest, without_earliest}
use Rattle.carriage.specs.Moved.{without_first, with_first, free_of, left_behind, moved_onto}

-- the earliest that fits is the first of those that fit
first_kept :
    {X : Type 0} (p : X → Bool) (xs : List X) (e : X) → Some e ≡ earliest p xs →
    filter p xs ≡ e ∷ filter p (without_earliest p xs)
first_kept p [] e q = cc
first_kept p (y ∷ ys) e q = grind (arith, first_kept p ys e)

-- where none fits, none is among those that fit, and none is taken
none_kept : {X : Type 0} (p : X → Bool) (xs : List X) → None ≡ earliest p xs → filter p xs ≡ []
none_kept p [] q = refl
none_kept p (y ∷ ys) q = grind (arith, none_kept p ys)

pub none_taken : {X : Type 0} (p : X → Bool) (xs : List X) → None ≡ earliest p xs → without_earliest p xs ≡ xs
none_taken p [] q = refl
none_taken p (y ∷ ys) q = grind (arith, none_taken p ys)

-- where none fits, nothing is left out, however many were to be
none_left_out : {X : Type 0} (p : X → Bool) (n : ℕ) (xs : List X) → None ≡ earliest p xs → without_first p n xs ≡ xs
none_left_out p zero xs q = refl
none_left_out p (suc n) xs q = ap (without_first p n) (none_taken p xs q) ∙ none_left_out p n xs q

-- where none fits, the source without its earliest is the source, all of it is left, and none is moved
pub record AllMoved {X : Type 0} (p : X → Bool) (s t : Waiting X) : Type 0 where
  pub whole : holding s (without_earliest p s.items) ≡ s
  pub left : left_behind p s t ≡ s
  pub moved : moved_onto p s t ≡ t

pub all_moved : {X : Type 0} (p : X → Bool) (s t : Waiting X) → None ≡ earliest p s.items → AllMoved p s t
all_moved p s t q = record {
  whole = ap (holding s) (none_taken p s.items q);
  left = ap (holding s) (none_left_out p (free_of t) s.items q);
  moved = ap (holding t) (ap (λ l. t.items ++ take (free_of t) l) (none_kept p s.items q)
      ∙ ap (λ l. t.items ++ l) (take_all (free_of t) [] (omega arith)) ∙ append-nil t.items);
}

-- where nothing is free, none is left out and none is moved
pub no_room_left : {X : Type 0} (p : X → Bool) (s t : Waiting X) → free_of t ≡ 0 → left_behind p s t ≡ s
no_room_left p s t z = ap (λ n. holding s (without_first p n s.items)) z

pub no_room_moved : {X : Type 0} (p : X → Bool) (s t : Waiting X) → free_of t ≡ 0 → moved_onto p s t ≡ t
no_room_moved p s t z = ap (λ n. holding t (with_first p n s.items t.items)) z ∙ ap (holding t) (append-nil t.items)

-- one is moved where there is room: what is left and moved from there is what it was
pub record OneMoved {X : Type 0} (p : X → Bool) (s t u v : Waiting X) : Type 0 where
  pub left : left_behind p u v ≡ left_behind p s t
  pub moved : moved_onto p u v ≡ moved_onto p s t
  pub room : suc (free_of v) ≡ free_of t

-- where something is free, one is added
added_free : {X : Type 0} (t : Waiting X) (e : X) → 0 < free_of t → added t.places t.items e ≡ t.items ++ (e ∷ [])
added_free t e h = grind (arith, nat_tests)

pub one_moved :
    {X : Type 0} (p : X → Bool) (s t u v : Waiting X) (e : X) → Some e ≡ earliest p s.items → 0 < free_of t →
    u ≡ holding s (without_earliest p s.items) → v ≡ holding t (added t.places t.items e) → OneMoved p s t u v
one_moved p s t u v e q h a b =
    let rest = without_earliest p s.items in
    let more = t.items ++ (e ∷ []) in
    let n = free_of (holding t more) in
    let room : suc n ≡ free_of t = omega (arith, length_push t.items e) in
    let left : left_behind p (holding s rest) (holding t more) ≡ left_behind p s t =
    ap (λ k. holding s (without_first p k s.items)) room in
    let moved : moved_onto p (holding s rest) (holding t more) ≡ moved_onto p s t =
    ap (holding t) (append_assoc t.items (e ∷ []) (take n (filter p rest))
    ∙ sym (ap (λ l. t.items ++ take (suc n) l) (first_kept p s.items e q))
    ∙ ap (λ k. with_first p k s.items t.items) room) in
    subst (λ x. OneMoved p s t x v) (sym a)
    (subst (λ y. OneMoved p s t (holding s rest) y) (sym (b ∙ ap (holding t) (added_free t e h)))
    (record { left = left; moved = moved; room = room }))
