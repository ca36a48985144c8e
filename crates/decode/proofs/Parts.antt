-- The optional part as a list of parameters, and its octets.
use Rattle.std.proofs.Common.{◌≡◌, ℕ, zero, suc, ◌+◌, ◌<◌, ◌≤◌, List, [], ◌∷◌, ◌++◌, length, take, drop, Ok, Err, Result, sym, refl, ap, ◌∙◌, subst, inl, inr, arith}
use Rattle.std.proofs.lemmas.List.{length-take-le, length-append, drop-drop, take-append-drop, append_assoc, take_at, drop_at}
use Rattle.std.proofs.lemmas.Bool.Decides.{nat_tests, leb_tells}
use Rattle.decode.specs.declared.fault.MessageFault.{MessageFault}
use Rattle.decode.specs.declared.fault.MessageFault.TheVariants as fault
use Rattle.decode.specs.Parameters.{Part, Step, closed, given, refused, front, step_at, parts_by}
use Rattle.isup.specs.Coding.{Parameter, encoded, Named}

-- the parameters without their places
abbrev pub without_places : List Part → List Parameter
without_places [] = []
without_places (p ∷ ps) = (p.name, p.content) ∷ without_places ps

-- the parts of what is sent from a place on
abbrev pub placed_from : ℕ → List Parameter → List Part
placed_from at [] = []
placed_from at (q ∷ qs) = record { name = q.0; content = q.1; place = at } ∷ placed_from (at + 2 + length q.1) qs

-- what is sent has the same parameters wherever it begins
pub bare_placed : (at : ℕ) (qs : List Parameter) → without_places (placed_from at qs) ≡ qs
bare_placed at [] = refl
bare_placed at (q ∷ qs) = ap (λ (l : List Parameter). q ∷ l) (bare_placed (at + 2 + length q.1) qs)

-- what each step tells of what is left
abbrev Tells : ℕ → List ℕ → Step → Type 0
Tells at left closed = left ≡ 0 ∷ []
Tells at left (given p) = (p.name ≡ 0 → ⊥) × (left ≡ p.name ∷ length p.content ∷ (p.content ++ drop (2 + length p.content) left)) × (p.place ≡ at)
Tells at left (refused f) = Unit {0}

behind_two : (a b n : ℕ) (r : List ℕ) → drop n r ≡ drop (2 + n) (a ∷ b ∷ r)
behind_two a b n r = ap (λ (m : ℕ). drop m (a ∷ b ∷ r)) (let z : suc (suc n) ≡ 2 + n = omega arith in z)

step_none : (at : ℕ) → front at [] ≡ refused (fault.Optional at)
step_none at = grind (arith, nat_tests)

step_closed : (at : ℕ) → front at (0 ∷ []) ≡ closed
step_closed at = grind (arith, nat_tests)

step_early : (at b : ℕ) (r : List ℕ) → front at (0 ∷ b ∷ r) ≡ refused (fault.Optional at)
step_early at b r = grind (arith, nat_tests)

step_alone : (at a : ℕ) → (a ≡ 0 → ⊥) → front at (a ∷ []) ≡ refused (fault.Optional at)
step_alone at a n = grind (arith, nat_tests)

step_past : (at a b : ℕ) (r : List ℕ) → (a ≡ 0 → ⊥) → length r < b → front at (a ∷ b ∷ r) ≡ refused (fault.Optional at)
step_past at a b r n h = grind (arith, nat_tests)

step_whole : (at a b : ℕ) (r : List ℕ) → (a ≡ 0 → ⊥) → b ≤ length r → front at (a ∷ b ∷ r) ≡ given (record { name = a; content = take b r; place = at })
step_whole at a b r n h = grind (arith, nat_tests)

tell_two : (at a b : ℕ) (r : List ℕ) → (a ≡ 0 → ⊥) → Tells at (a ∷ b ∷ r) (front at (a ∷ b ∷ r))
tell_two at a b r n =
    elim (leb_tells b (length r)) [
      | inl t ↦ subst (λ (s : Step). Tells at (a ∷ b ∷ r) s) (sym (step_whole at a b r n t.1))
          (let l : length (take b r) ≡ b = length-take-le b r t.1 in (
            n,
            ap (λ (x : ℕ). a ∷ x ∷ r) (sym l) ∙ ap (λ (x : List ℕ). a ∷ length (take b r) ∷ x) (sym (take-append-drop b r) ∙ ap (λ (m : ℕ). take b r ++ drop m r) (sym l))
                ∙ ap (λ (m : List ℕ). a ∷ length (take b r) ∷ (take b r ++ m)) (behind_two a b (length (take b r)) r),
            refl,
          ))
      | inr t ↦ subst (λ (s : Step). Tells at (a ∷ b ∷ r) s) (sym (step_past at a b r n t.1)) tt
    ]

tell : (at : ℕ) (left : List ℕ) → Tells at left (front at left)
tell at [] = subst (λ (s : Step). Tells at [] s) (sym (step_none at)) tt
tell at (zero ∷ []) = subst (λ (s : Step). Tells at (0 ∷ []) s) (sym (step_closed at)) refl
tell at (zero ∷ b ∷ r) = subst (λ (s : Step). Tells at (0 ∷ b ∷ r) s) (sym (step_early at b r)) tt
tell at (suc a ∷ []) = subst (λ (s : Step). Tells at (suc a ∷ []) s) (sym (step_alone at (suc a) (λ z. omega arith))) tt
tell at (suc a ∷ b ∷ r) = tell_two at (suc a) b r (λ z. omega arith)

abbrev Told : List ℕ → ℕ → Result (List Part) MessageFault → Type 0
Told xs at (Ok ps) = (drop at xs ≡ encoded (without_places ps) ++ (0 ∷ [])) × Named (without_places ps)
Told xs at (Err f) = Unit {0}

told_given :
    (xs : List ℕ) (at : ℕ) (p : Part) (r : Result (List Part) MessageFault) → Tells at (drop at xs) (given p) → Told xs (at + 2 + length p.content) r →
    Told xs at (elim r as (λ _. Result (List Part) MessageFault) [ Ok ps ↦ Ok (p ∷ ps) | Err f ↦ Err f ])
told_given xs at p (Err f) t h = tt
told_given xs at p (Ok ps) t h = (
  t.1
      ∙ ap (λ (l : List ℕ). p.name ∷ length p.content ∷ (p.content ++ l))
      (drop-drop (2 + length p.content) at xs ∙ ap (λ (n : ℕ). drop n xs) (let z : at + (2 + length p.content) ≡ at + 2 + length p.content = omega arith in z) ∙ h.0)
      ∙ ap (λ (l : List ℕ). p.name ∷ length p.content ∷ l) (sym (append_assoc p.content (encoded (without_places ps)) (0 ∷ []))),
  (t.0, h.1),
)

told_step :
    (k : ℕ) (xs : List ℕ) (at : ℕ) (s : Step) → Tells at (drop at xs) s → ((p : Part) → Told xs (at + 2 + length p.content) (parts_by k xs (at + 2 + length p.content))) →
    Told xs at (elim s as (λ _. Result (List Part) MessageFault)
    [ closed ↦ Ok [] | given p ↦ elim (parts_by k xs (at + 2 + length p.content)) [ Ok ps ↦ Ok (p ∷ ps) | Err f ↦ Err f ] | refused f ↦ Err f ])
told_step k xs at closed t ih = (t, tt)
told_step k xs at (given p) t ih = told_given xs at p (parts_by k xs (at + 2 + length p.content)) t (ih p)
told_step k xs at (refused f) t ih = tt

told : (k : ℕ) (xs : List ℕ) (at : ℕ) → Told xs at (parts_by k xs at)
told zero xs at = tt
told (suc k) xs at = told_step k xs at (step_at xs at) (tell at (drop at xs)) (λ p. told k xs (at + 2 + length p.content))

-- what is read as parameters is their octets and the closing 00
pub parts_sound : (k : ℕ) (xs : List ℕ) (at : ℕ) (ps : List Part) → parts_by k xs at ≡ Ok ps → (drop at xs ≡ encoded (without_places ps) ++ (0 ∷ [])) × Named (without_places ps)
parts_sound k xs at ps e = subst (λ (r : Result (List Part) MessageFault). Told xs at r) e (told k xs at)

-- and the other way round
step_of_sent :
    (at a : ℕ) (c r : List ℕ) → (a ≡ 0 → ⊥) → front at (a ∷ length c ∷ (c ++ r)) ≡ given (record { name = a; content = c; place = at })
step_of_sent at a c r n =
    let l = length-append c r in
    step_whole at a (length c) (c ++ r) n (omega arith) ∙ ap (λ (x : List ℕ). given (record { name = a; content = x; place = at })) (take_at c r (length c) refl)

abbrev cons_of : Part → Result (List Part) MessageFault → Result (List Part) MessageFault
cons_of p r = elim r as (λ _. Result (List Part) MessageFault) [ Ok ps ↦ Ok (p ∷ ps) | Err f ↦ Err f ]

abbrev next_of : ℕ → List ℕ → ℕ → Step → Result (List Part) MessageFault
next_of k xs at s =
    elim s as (λ _. Result (List Part) MessageFault)
    [ closed ↦ Ok [] | given p ↦ elim (parts_by k xs (at + 2 + length p.content)) [ Ok ps ↦ Ok (p ∷ ps) | Err f ↦ Err f ] | refused f ↦ Err f ]

pub parts_complete :
    (k : ℕ) (xs : List ℕ) (at : ℕ) (qs : List Parameter) → length qs < k → drop at xs ≡ encoded qs ++ (0 ∷ []) → Named qs → parts_by k xs at ≡ Ok (placed_from at qs)
parts_complete zero xs at qs h e o = absurd (omega arith)
parts_complete (suc k) xs at [] h e o = ap (next_of k xs at) (ap (front at) e ∙ step_closed at)
parts_complete (suc k) xs at (q ∷ qs) h e o =
    let e' : drop at xs ≡ q.0 ∷ length q.1 ∷ (q.1 ++ (encoded qs ++ (0 ∷ []))) =
    e ∙ ap (λ (l : List ℕ). q.0 ∷ length q.1 ∷ l) (append_assoc q.1 (encoded qs) (0 ∷ [])) in
    let d : drop (at + 2 + length q.1) xs ≡ encoded qs ++ (0 ∷ []) =
    ap (λ (n : ℕ). drop n xs) (let z : at + 2 + length q.1 ≡ at + (2 + length q.1) = omega arith in z)
    ∙ sym (drop-drop (2 + length q.1) at xs) ∙ ap (drop (2 + length q.1)) e'
    ∙ sym (behind_two q.0 (length q.1) (length q.1) (q.1 ++ (encoded qs ++ (0 ∷ []))))
    ∙ drop_at q.1 (encoded qs ++ (0 ∷ [])) (length q.1) refl in
    ap (next_of k xs at) (ap (front at) e' ∙ step_of_sent at q.0 q.1 (encoded qs ++ (0 ∷ [])) o.0)
    ∙ ap (cons_of (record { name = q.0; content = q.1; place = at })) (parts_complete k xs (at + 2 + length q.1) qs (omega arith) d o.1)
