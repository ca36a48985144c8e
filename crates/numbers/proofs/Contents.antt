-- The content of a number is read as that number, and nothing else is read.
use Rattle.std.proofs.Common.{◌≡◌, ℕ, zero, suc, ◌+◌, ◌-◌, ◌*◌, ◌/◌, ◌%◌, ◌≤◌, Bool, true, false, cond, ◌&&◌, eqb, ltb, leb, List, [], ◌∷◌, length, get_or, take, drop, Ok, Err, Result, sym, refl, ap, ◌∙◌, subst, inl, inr, arith}
use Rattle.std.proofs.lemmas.List.{length-take-le, length-drop}
use Rattle.std.proofs.lemmas.Bool.Decides.{nat_tests, eqb_tells, leb_tells}
use Rattle.std.proofs.lemmas.Bool.{and_parts, cond-true, cond-false, eq-eqb, eqb-true, ltb-false}
use Rattle.numbers.specs.declared.number.Number.{Number}
use Rattle.numbers.specs.declared.number.Party.{Party}
use Rattle.numbers.specs.declared.number.NumberFault.TheVariants.{Count, Digit, Filler, NatureOrPlan}
use Rattle.numbers.specs.Digits.{digits_of, number_of, pack, content, nature_of, plan_of}
use Rattle.numbers.specs.Reading.{unpack, all_digits, count_in, read_digits, read_number, NumberCoded, OneNumberToACoding}
use Rattle.numbers.proofs.Halves.{length-unpack, digits_each, each_digits}
use Rattle.numbers.proofs.Same.{digits_again, number_again, lawful_digits}

-- a chain of tests that came out as Ok passed each
pub passed : {A E : Type 0} (b : Bool) (x : A) (f : E) (r : Result A E) → cond b r (Err f) ≡ Ok x → (b ≡ true) × (r ≡ Ok x)
passed true x f r e = (refl, e)
passed false x f r e = let z : ◌≡◌ {A = ℕ} 0 1 = cc in absurd (omega arith)

pub passed_not : {A E : Type 0} (b : Bool) (x : A) (f : E) (r : Result A E) → cond b (Err f) r ≡ Ok x → (b ≡ false) × (r ≡ Ok x)
passed_not false x f r e = (refl, e)
passed_not true x f r e = let z : ◌≡◌ {A = ℕ} 0 1 = cc in absurd (omega arith)

-- the digits of whole octets, with or without a filler, are packed into them again
pack_again :
    (os : List ℕ) (n : ℕ) → n ≤ 2 * length os → 2 * length os ≤ n + 1 → get_or (unpack os) n 0 ≡ 0 → pack (take n (unpack os)) ≡ os
pack_again [] zero h g z = refl
pack_again [] (suc n) h g z = absurd (omega arith)
pack_again (o ∷ os) zero h g z = absurd (omega arith)
pack_again (o ∷ []) (suc zero) h g z = ap (λ (x : ℕ). x ∷ []) (let q : o % 16 ≡ o = omega arith in q)
pack_again (o ∷ p ∷ os) (suc zero) h g z = absurd (omega arith)
pack_again (o ∷ os) (suc (suc n)) h g z =
    ap (λ (x : ℕ). x ∷ pack (take n (unpack os))) (let q : (o / 16) * 16 + o % 16 ≡ o = omega arith in q)
    ∙ ap (λ (l : List ℕ). o ∷ l) (pack_again os n (omega arith) (omega arith) z)

pub length-pack : (ds : List ℕ) → length (pack ds) ≡ (length ds + 1) / 2
length-pack [] = refl
length-pack (d ∷ []) = refl
length-pack (d ∷ e ∷ ds) = let h = length-pack ds in omega arith

unpack_again : (ds : List ℕ) → ((k : ℕ) → get_or ds k 0 ≤ 9) → take (length ds) (unpack (pack ds)) ≡ ds
unpack_again [] f = refl
unpack_again (d ∷ []) f = let h = f 0 in ap (λ (x : ℕ). x ∷ []) (let q : d % 16 ≡ d = omega arith in q)
unpack_again (d ∷ e ∷ ds) f =
    let h = f 0 in
    let g = f 1 in
    let low : (e * 16 + d) % 16 ≡ d = omega arith in
    let high : (e * 16 + d) / 16 ≡ e = omega arith in
    ap (λ (x : ℕ). x ∷ ((e * 16 + d) / 16) ∷ take (length ds) (unpack (pack ds))) low
    ∙ ap (λ (x : ℕ). d ∷ x ∷ take (length ds) (unpack (pack ds))) high
    ∙ ap (λ (l : List ℕ). d ∷ e ∷ l) (unpack_again ds (λ k. f (suc (suc k))))

filler_again : (ds : List ℕ) → ((k : ℕ) → get_or ds k 0 ≤ 9) → get_or (unpack (pack ds)) (length ds) 0 ≡ 0
filler_again [] f = refl
filler_again (d ∷ []) f = let h = f 0 in let q : d / 16 ≡ 0 = omega arith in q
filler_again (d ∷ e ∷ ds) f = filler_again ds (λ k. f (suc (suc k)))

-- what digits that are read hold
record Held (r : Bool) (n : ℕ) (os : List ℕ) (p : Party Number) (used : ℕ) : Type 0 where
  pub party : record { number = number_of (take n (unpack os)); restricted = r } ≡ p
  pub count : used ≡ length os
  pub digits : all_digits (take n (unpack os)) ≡ true
  pub filler : get_or (unpack os) n 0 ≡ 0

held : (r : Bool) (n : ℕ) (os : List ℕ) (p : Party Number) (used : ℕ) → read_digits r n os ≡ Ok (p, used) → Held r n os p used
held r n os p used e =
    let a = passed (all_digits (take n (unpack os))) (p, used) Digit _ e in
    let b = passed (eqb (get_or (unpack os) n 0) 0) (p, used) Filler _ a.1 in
    let q : (record { number = number_of (take n (unpack os)); restricted = r }, length os) ≡ (p, used) = cc b.1 in
    record {
      party = ap (λ (x : Party Number × ℕ). x.0) q;
      count = sym (ap (λ (x : Party Number × ℕ). x.1) q);
      digits = a.0;
      filler = eqb-true (get_or (unpack os) n 0) 0 b.0;
    }

-- the octets around the digits
whole :
    (xs : List ℕ) (x y : ℕ) (os : List ℕ) → 2 ≤ length xs → get_or xs 0 0 ≡ x → get_or xs 1 0 ≡ y → drop 2 xs ≡ os → xs ≡ x ∷ y ∷ os
whole [] x y os h a b c = absurd (omega arith)
whole (u ∷ []) x y os h a b c = absurd (omega arith)
whole (u ∷ v ∷ xs) x y os h a b c = cc

coded :
    (may r : Bool) (xs : List ℕ) (p : Party Number) (used : ℕ) → (r ≡ true → may ≡ true) →
    2 ≤ length xs → 3 ≤ count_in xs → count_in xs ≤ 15 → get_or xs 0 0 ≡ cond (leb 128 (get_or xs 0 0)) 0x83 0x03 → get_or xs 1 0 ≡ plan_of r →
    read_digits r (count_in xs) (drop 2 xs) ≡ Ok (p, used) → NumberCoded may p xs × (used ≡ length xs - 2)
coded may r xs p used m h lo hi nat plan e =
    let b = held r (count_in xs) (drop 2 xs) p used e in
    let ds = take (count_in xs) (unpack (drop 2 xs)) in
    let u = length-unpack (drop 2 xs) in
    let ld : length (drop 2 xs) ≡ length xs - 2 = length-drop 2 xs in
    let t = leb_tells 128 (get_or xs 0 0) in
    let l : length ds ≡ count_in xs = length-take-le (count_in xs) (unpack (drop 2 xs)) (grind (arith, nat_tests)) in
    let k : pack ds ≡ drop 2 xs = pack_again (drop 2 xs) (count_in xs) (grind (arith, nat_tests)) (grind (arith, nat_tests)) b.filler in
    let d : digits_of (number_of ds) ≡ ds = digits_again ds (record { few = omega arith; many = omega arith; each = digits_each ds b.digits }) in
    let n : nature_of (length ds) ≡ get_or xs 0 0 = grind (arith, nat_tests) in
    let s : xs ≡ content (record { number = number_of ds; restricted = r }) =
    whole xs (nature_of (length ds)) (plan_of r) (pack ds) h (sym n) plan (sym k)
    ∙ ap (λ (l : List ℕ). nature_of (length l) ∷ plan_of r ∷ pack l) (sym d) in
    (subst (λ (q : Party Number). NumberCoded may q xs) b.party (record { marked = m; same = s }), b.count ∙ ld)

pub sound :
    (may : Bool) (octets : List ℕ) (p : Party Number) (used : ℕ) → read_number may octets ≡ Ok (p, used) → NumberCoded may p octets × (used ≡ length octets - 2)
sound may xs p used e =
    let a = passed_not (ltb (length xs) 2) (p, used) Count _ e in
    let b = passed_not (ltb (count_in xs) 3) (p, used) Count _ a.1 in
    let c = passed_not (ltb 15 (count_in xs)) (p, used) Count _ b.1 in
    let d = passed (eqb (get_or xs 0 0) (cond (leb 128 (get_or xs 0 0)) 0x83 0x03)) (p, used) NatureOrPlan _ c.1 in
    let n : get_or xs 0 0 ≡ cond (leb 128 (get_or xs 0 0)) 0x83 0x03 = eqb-true (get_or xs 0 0) _ d.0 in
    let l2 : 2 ≤ length xs = omega (arith, ltb-false _ _ a.0) in
    let c3 : 3 ≤ count_in xs = omega (arith, ltb-false _ _ b.0) in
    let c15 : count_in xs ≤ 15 = omega (arith, ltb-false _ _ c.0) in
    elim (eqb_tells (get_or xs 1 0) 0x10) [
      | inl t ↦ coded may false xs p used (λ q. (let z : ◌≡◌ {A = ℕ} 0 1 = cc in absurd (omega arith))) l2 c3 c15 n t.1 (sym (cond-true (eqb (get_or xs 1 0) 0x10) _ _ t.0) ∙ d.1)
      | inr t ↦
          (let g : cond (may && eqb (get_or xs 1 0) 0x14) (read_digits true (count_in xs) (drop 2 xs)) (Err NatureOrPlan) ≡ Ok (p, used) =
          sym (cond-false (eqb (get_or xs 1 0) 0x10) _ _ t.0) ∙ d.1 in
          let h = passed (may && eqb (get_or xs 1 0) 0x14) (p, used) NatureOrPlan _ g in
          let w = and_parts may (eqb (get_or xs 1 0) 0x14) h.0 in
          coded may true xs p used (λ q. w.0) l2 c3 c15 n (eqb-true (get_or xs 1 0) 0x14 w.1) h.1)
    ]

goes_on :
    (may r : Bool) (xs : List ℕ) → (r ≡ true → may ≡ true) →
    2 ≤ length xs → 3 ≤ count_in xs → count_in xs ≤ 15 → get_or xs 0 0 ≡ cond (leb 128 (get_or xs 0 0)) 0x83 0x03 → get_or xs 1 0 ≡ plan_of r →
    read_number may xs ≡ read_digits r (count_in xs) (drop 2 xs)
goes_on may false xs m a b c d e = grind (arith, nat_tests)
goes_on may true xs m a b c d e = let t = m refl in grind (arith, nat_tests)

digits_complete :
    (r : Bool) (n : Number) → read_digits r (length (digits_of n)) (pack (digits_of n)) ≡ Ok (record { number = n; restricted = r }, length (pack (digits_of n)))
digits_complete r n =
    let ds = digits_of n in
    let f = (lawful_digits n).each in
    let u : take (length ds) (unpack (pack ds)) ≡ ds = unpack_again ds f in
    cond-true (all_digits (take (length ds) (unpack (pack ds)))) _ _ (ap all_digits u ∙ each_digits ds f)
    ∙ cond-true (eqb (get_or (unpack (pack ds)) (length ds) 0) 0) _ _ (eq-eqb (get_or (unpack (pack ds)) (length ds) 0) 0 (filler_again ds f))
    ∙ ap (λ (x : Number). Ok (record { number = x; restricted = r }, length (pack ds))) (ap number_of u ∙ number_again n)

at_content : (may : Bool) (p : Party Number) → (p.restricted ≡ true → may ≡ true) → read_number may (content p) ≡ Ok (p, length (content p) - 2)
at_content may p m =
    let ds = digits_of p.number in
    let lp = length-pack ds in
    let d = lawful_digits p.number in
    let lo = d.few in
    let hi = d.many in
    let n : nature_of (length ds) ≡ cond (leb 128 (nature_of (length ds))) 0x83 0x03 = grind (arith, nat_tests) in
    let k : count_in (content p) ≡ length ds = grind (arith, nat_tests) in
    goes_on may p.restricted (content p) m (omega arith) (omega arith) (omega arith) n refl
    ∙ ap (λ (j : ℕ). read_digits p.restricted j (pack ds)) k
    ∙ digits_complete p.restricted p.number
    ∙ ap (λ (j : ℕ). Ok (p, j)) (let z : length (pack ds) ≡ length (content p) - 2 = omega arith in z)

pub complete : (may : Bool) (octets : List ℕ) (p : Party Number) → NumberCoded may p octets → read_number may octets ≡ Ok (p, length octets - 2)
complete may xs p c = subst (λ (ys : List ℕ). read_number may ys ≡ Ok (p, length ys - 2)) (sym c.same) (at_content may p c.marked)

pub one_number : OneNumberToACoding
one_number p q e =
    let a : Ok (p, length (content p) - 2) ≡ Ok (q, length (content q) - 2) =
    sym (at_content true p (λ _. refl)) ∙ ap (read_number true) e ∙ at_content true q (λ _. refl) in
    let b : (p, length (content p) - 2) ≡ (q, length (content q) - 2) = cc a in
    ap (λ (x : Party Number × ℕ). x.0) b

pub content_short : (p : Party Number) → length (content p) ≤ 10
content_short p =
    let l = length-pack (digits_of p.number) in
    let d = lawful_digits p.number in
    omega (arith, d.many)
