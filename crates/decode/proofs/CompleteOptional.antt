-- An optional part that carries what is to be gathered is read as that.
use Rattle.std.proofs.Common.{◌≡◌, ℕ, ◌+◌, ◌-◌, ◌<◌, ◌≤◌, Bool, true, false, cond, ◌||◌, eqb, ltb, List, [], ◌∷◌, ◌++◌, length, get_or, drop, Some, None, Ok, Err, Option, Result, sym, refl, ap, ◌∙◌, inl, inr, arith}
use Rattle.std.proofs.lemmas.Bool.{cases_Bool, cond-true, cond-false, eq-eqb}
use Rattle.std.proofs.lemmas.Bool.Decides.{nat_tests, eqb_tells}
use Rattle.std.proofs.lemmas.List.{length-append, length-drop}
use Rattle.numbers.specs.declared.number.Number.{Number}
use Rattle.numbers.specs.declared.number.Party.{Party}
use Rattle.numbers.specs.Digits.{content, plain}
use Rattle.numbers.specs.Reading.{read_number}
use Rattle.numbers.proofs.Contents.{complete}
use Rattle.isup.specs.declared.row.Row.{Row}
use Rattle.isup.specs.Rows.{has}
use Rattle.isup.specs.Coding.{Parameter, encoded, Named, contents, if_there, information_octets, diversion_octets, restriction_octets, optional_octets}
use Rattle.decode.specs.declared.fault.MessageFault.{MessageFault}
use Rattle.decode.specs.declared.optional.Gathered.{Gathered}
use Rattle.decode.specs.Faults.{then, or_value_fault}
use Rattle.decode.specs.Values.{information_in, diversion_in, restriction_in}
use Rattle.decode.specs.Parameters.{Part}
use Rattle.decode.specs.Optional.{member, repeated, nothing, number_at, octet_at, value_of, collected, unless_repeated, optional_from, with_redirecting, with_original, with_information, with_may_divert, with_announced, with_diversion, with_redirection, with_restriction}
use Rattle.decode.specs.Messages.{optional_in}
use Rattle.decode.proofs.Passed.{other, by_name}
use Rattle.decode.proofs.Parts.{placed_from, parts_complete}
use Rattle.decode.proofs.Fields.{gathered_field}
use Rattle.decode.proofs.CompleteValues.{information_read, diversion_read, restriction_read}

-- one reading after another where the first succeeds
pub then_ok : {A B : Type 0} (r : Result A MessageFault) (f : A → Result B MessageFault) (x : A) (y : Result B MessageFault) → r ≡ Ok x → f x ≡ y → then r f ≡ y
then_ok r f x y e k = ap (λ s. then s f) e ∙ k

-- what is gathered of t once these names were met
abbrev only : List ℕ → Gathered → Gathered
only names t = record {
  redirecting = cond (member 0x0B names) t.redirecting None;
  original = cond (member 0x28 names) t.original None;
  information = cond (member 0x13 names) t.information None;
  may_divert = cond (member 0x29 names) t.may_divert false;
  announced = cond (member 0x2C names) t.announced false;
  diversion = cond (member 0x36 names) t.diversion None;
  redirection = cond (member 0x0C names) t.redirection None;
  restriction = cond (member 0x40 names) t.restriction None;
}

-- the next parameter of a name, with the content that t calls for, brings t's value
abbrev Brings : List ℕ → Gathered → List ℕ → ℕ → ℕ → Type 0
Brings names t c at n = gathered_field t n ≡ c ∷ [] → value_of (only names t) (record { name = n; content = c; place = at }) ≡ Ok (only (n ∷ names) t)

number_read : (may : Bool) (p : Party Number) (c : List ℕ) (at : ℕ) → (p.restricted ≡ true → may ≡ true) → c ≡ content p → number_at at (read_number may c) ≡ Ok p
number_read may p c at m e = ap (number_at at) (complete may c p (record { marked = m; same = e }))

value_read : {X : Type 0} (f : List ℕ → Option X) (g : X → List ℕ) → ((x : X) → f (g x) ≡ Some x) → (x : X) (c : List ℕ) (at : ℕ) → c ≡ g x → or_value_fault (f c) at ≡ Ok x
value_read f g k x c at e = ap (λ o. or_value_fault o at) (ap f e ∙ k x)

-- the octets of a part that is there are read as that part, which is kept
brought :
    {X Y : Type 0} (f : X → List ℕ) (o : Option X) (c : List ℕ) (r : Result Y MessageFault) (with : Y → Gathered) (g : Gathered) →
    ((x : X) → o ≡ Some x → c ≡ f x → (y : Y) × ((r ≡ Ok y) × (with y ≡ g))) → if_there f o ≡ c ∷ [] → then r (λ y. Ok (with y)) ≡ Ok g
brought f (Some x) c r with g k e = let y = k x refl (cc) in then_ok r _ y.0 _ y.1.0 (ap (λ (h : Gathered). Ok h) y.1.1)
brought f None c r with g k e = cc

flag_brought : (b : Bool) (n : ℕ) (c : List ℕ) (at : ℕ) (h g : Gathered) → (b ≡ true → h ≡ g) → cond b ((n ∷ []) ∷ []) [] ≡ c ∷ [] → octet_at at c n h ≡ Ok g
flag_brought true n c at h g k e = grind (arith, nat_tests)
flag_brought false n c at h g k e = cc

-- a name under which something stands is one of the eight
brings : (names : List ℕ) (t : Gathered) (c : List ℕ) (at n : ℕ) → Brings names t c at n
brings names t c at n =
    let g = only names t in
    let P = Brings names t c at in
    by_name P n 0x0B (brought content t.redirecting c _ (with_redirecting g) _ (λ x o s. (x, (number_read true x c at (λ _. refl) s, cc)))) (λ n0.
    by_name P n 0x28 (brought content t.original c _ (with_original g) _ (λ x o s. (x, (number_read true x c at (λ _. refl) s, cc)))) (λ n1.
    by_name P n 0x13 (brought information_octets t.information c _ (with_information g) _ (λ x o s. (x, (value_read information_in information_octets information_read x c at s, cc)))) (λ n2.
    by_name P n 0x29 (flag_brought t.may_divert 0x02 c at (with_may_divert g) _ (λ b. cc)) (λ n3.
    by_name P n 0x2C (flag_brought t.announced 0xFB c at (with_announced g) _ (λ b. cc)) (λ n4.
    by_name P n 0x36 (brought diversion_octets t.diversion c _ (with_diversion g) _ (λ x o s. (x, (value_read diversion_in diversion_octets diversion_read x c at s, cc)))) (λ n5.
    by_name P n 0x0C (brought plain t.redirection c _ (with_redirection g) _ (λ x o s. (record { number = x; restricted = false }, (number_read false _ c at (λ z. z) s, cc)))) (λ n6.
    by_name P n 0x40 (brought restriction_octets t.restriction c _ (with_restriction g) _ (λ x o s. (x, (value_read restriction_in restriction_octets restriction_read x c at s, cc)))) (λ n7 e.
    let z : gathered_field t n ≡ [] = grind (arith, nat_tests) in cc))))))))

-- no more than one content stands under a name
once : (t : Gathered) (n : ℕ) → length (gathered_field t n) ≤ 1
once t n = grind (arith, nat_tests)

alone : {A : Type 0} (x : A) (xs l : List A) → x ∷ xs ≡ l → length l ≤ 1 → xs ≡ []
alone x [] l e h = refl
alone x (y ∷ ys) l e h = absurd (omega (arith, ap length e))

-- once all that t has was met, t is gathered
kept : {X : Type 0} (b : Bool) (f : X → List ℕ) (o : Option X) → (b ≡ false → if_there f o ≡ []) → cond b o None ≡ o
kept true f o h = refl
kept false f (Some x) h = let e = h refl in cc
kept false f None h = refl

flag_kept : (b d : Bool) (c : List ℕ) → (b ≡ false → cond d (c ∷ []) [] ≡ []) → cond b d false ≡ d
flag_kept true d c h = refl
flag_kept false true c h = let e = h refl in cc
flag_kept false false c h = refl

all_met : (names : List ℕ) (t : Gathered) → ((n : ℕ) → member n names ≡ false → gathered_field t n ≡ []) → only names t ≡ t
all_met names t h =
    let a = kept (member 0x0B names) content t.redirecting (h 0x0B) in
    let b = kept (member 0x28 names) content t.original (h 0x28) in
    let c = kept (member 0x13 names) information_octets t.information (h 0x13) in
    let d = flag_kept (member 0x29 names) t.may_divert (0x02 ∷ []) (h 0x29) in
    let e = flag_kept (member 0x2C names) t.announced (0xFB ∷ []) (h 0x2C) in
    let f = kept (member 0x36 names) diversion_octets t.diversion (h 0x36) in
    let g = kept (member 0x0C names) plain t.redirection (h 0x0C) in
    let i = kept (member 0x40 names) restriction_octets t.restriction (h 0x40) in
    (let z : only names t ≡ record {
      redirecting = t.redirecting;
      original = t.original;
      information = t.information;
      may_divert = t.may_divert;
      announced = t.announced;
      diversion = t.diversion;
      redirection = t.redirection;
      restriction = t.restriction;
    } = cc in z)

-- nothing stands under the names that the row has not
abbrev pub Within : Row → Gathered → Type 0
Within row t = (n : ℕ) → has row n ≡ false → gathered_field t n ≡ []

-- what is left carries what t has under the names not yet met, and nothing under the others
abbrev Left : Row → List ℕ → Gathered → List Parameter → Type 0
Left row names t qs = (n : ℕ) → has row n ≡ true → contents n qs ≡ cond (member n names) [] (gathered_field t n)

-- the first parameter, where its name is the row's, is the only one of its name and brings what t has there
record First (row : Row) (names : List ℕ) (t : Gathered) (q : Parameter) (qs : List Parameter) : Type 0 where
  pub new : member q.0 names ≡ false
  pub here : gathered_field t q.0 ≡ q.1 ∷ []
  pub left : Left row (q.0 ∷ names) t qs

first : (row : Row) (names : List ℕ) (t : Gathered) (q : Parameter) (qs : List Parameter) → has row q.0 ≡ true → Left row names t (q ∷ qs) → First row names t q qs
first row names t q qs k h =
    let a : q.1 ∷ contents q.0 qs ≡ cond (member q.0 names) [] (gathered_field t q.0) =
    sym (cond-true (eqb q.0 q.0) _ _ (eq-eqb q.0 q.0 refl)) ∙ h q.0 k in
    elim (cases_Bool (member q.0 names)) [
      | inl m ↦ (let e = a ∙ cond-true (member q.0 names) _ _ m in cc)
      | inr m ↦
          (let b : q.1 ∷ contents q.0 qs ≡ gathered_field t q.0 = a ∙ cond-false (member q.0 names) _ _ m in
          let z : contents q.0 qs ≡ [] = alone q.1 (contents q.0 qs) (gathered_field t q.0) b (once t q.0) in
          record {
            new = m;
            here = sym b ∙ ap (λ (l : List (List ℕ)). q.1 ∷ l) z;
            left = λ n j. elim (eqb_tells n q.0) [
              | inl p ↦ ap (λ (x : ℕ). contents x qs) p.1 ∙ z ∙ sym (ap (λ (x : Bool). cond (x || member n names) [] (gathered_field t n)) p.0)
              | inr p ↦ sym (cond-false (eqb n q.0) _ _ p.0) ∙ h n j ∙ sym (ap (λ (x : Bool). cond (x || member n names) [] (gathered_field t n)) p.0)
            ];
          })
    ]

-- so the walk over the parameters meets no name twice and gathers t
record Gathers (row : Row) (names : List ℕ) (t : Gathered) (ps : List Part) : Type 0 where
  pub unrepeated : repeated row names ps ≡ None
  pub gathered : collected row (only names t) ps ≡ Ok t

gathers : (row : Row) (names : List ℕ) (t : Gathered) (at : ℕ) (qs : List Parameter) → Within row t → Left row names t qs → Gathers row names t (placed_from at qs)
gathers row names t at [] w h =
    record {
      unrepeated = refl;
      gathered = ap (λ (g : Gathered). Ok g) (all_met names t (λ n m. elim (cases_Bool (has row n))
          [ inl k ↦ sym (h n k ∙ cond-false (member n names) _ _ m) | inr k ↦ w n k ]));
    }
gathers row names t at (q ∷ qs) w h =
    elim (cases_Bool (has row q.0)) [
      | inl k ↦
          (let f = first row names t q qs k h in
          let g = gathers row (q.0 ∷ names) t (at + 2 + length q.1) qs w f.left in
          record {
            unrepeated = cond-true (has row q.0) _ _ k ∙ cond-false (member q.0 names) _ _ f.new ∙ g.unrepeated;
            gathered = cond-true (has row q.0) _ _ k
                ∙ then_ok (value_of (only names t) (record { name = q.0; content = q.1; place = at })) _ _ _ (brings names t q.1 at q.0 f.here) g.gathered;
          })
      | inr k ↦
          (let g = gathers row names t (at + 2 + length q.1) qs w (λ n j. sym (cond-false (eqb n q.0) _ _ (other row n q.0 j k)) ∙ h n j) in
          record {
            unrepeated = cond-false (has row q.0) _ _ k ∙ g.unrepeated;
            gathered = cond-false (has row q.0) _ _ k ∙ g.gathered;
          })
    ]

-- each parameter takes two octets at least
few_parameters : (qs : List Parameter) → length qs ≤ length (encoded qs)
few_parameters [] = omega arith
few_parameters (q ∷ qs) = let l = few_parameters qs in let a = length-append q.1 (encoded qs) in omega arith

abbrev Out : Type 0
Out = Result Gathered MessageFault

abbrev after_parts : Row → Result (List Part) MessageFault → Out
after_parts row r = elim r as (λ _. Out) [ Ok ps ↦ unless_repeated (repeated row [] ps) (collected row nothing ps) | Err f ↦ Err f ]

part_read :
    (row : Row) (t : Gathered) (xs : List ℕ) (at : ℕ) (qs : List Parameter) → drop at xs ≡ encoded qs ++ (0 ∷ []) → Named qs → Within row t →
    ((n : ℕ) → has row n ≡ true → contents n qs ≡ gathered_field t n) → optional_from row xs at ≡ Ok t
part_read row t xs at qs e o w h =
    let l = few_parameters qs in
    let a = length-append (encoded qs) (0 ∷ []) in
    let d = length-drop at xs in
    let s = ap length e in
    let p = parts_complete (length xs + 1) xs at qs (omega arith) e o in
    let g = gathers row [] t at qs w h in
    ap (after_parts row) p ∙ ap (λ (r : Option ℕ). unless_repeated r (collected row nothing (placed_from at qs))) g.unrepeated ∙ g.gathered

-- the optional part, or none, as its pointer says
pub optional_read :
    (row : Row) (t : Gathered) (xs : List ℕ) (at end : ℕ) (here : Bool) (qs : List Parameter) → at < end → get_or xs at 0 ≡ cond here (end - at) 0 →
    drop end xs ≡ optional_octets here qs → (here ≡ false → qs ≡ []) → Named qs → Within row t →
    ((n : ℕ) → has row n ≡ true → contents n qs ≡ gathered_field t n) → optional_in row xs at end ≡ Ok t
optional_read row t xs at end true qs lt p e b o w h =
    cond-false (eqb (get_or xs at 0) 0) _ _ (grind (arith, nat_tests)) ∙ cond-true (eqb (get_or xs at 0) (end - at)) _ _ (eq-eqb (get_or xs at 0) (end - at) p)
    ∙ part_read row t xs end qs e o w h
optional_read row t xs at end false qs lt p e b o w h =
    let d = length-drop end xs in
    let s = ap length e in
    cond-true (eqb (get_or xs at 0) 0) _ _ (eq-eqb (get_or xs at 0) 0 p)
    ∙ cond-false (ltb end (length xs)) _ _ (grind (arith, nat_tests))
    ∙ (gathers row [] t at [] w (λ n k. ap (contents n) (sym (b refl)) ∙ h n k)).gathered
