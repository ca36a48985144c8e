use Rattle.std.proofs.Common.{◌≡◌, ℕ, ◌*◌, ◌≤◌, Bool, true, false, eqb, List, length, get_or, take, sym, refl, ap, ◌∙◌, arith}
use Rattle.std.proofs.lemmas.List.{ext_get_or, get_or-take, length-take-le}
use Rattle.std.proofs.lemmas.Bool.{cond-true, cond-false}
use Rattle.std.proofs.lemmas.Bool.Decides.{nat_tests}
use Rattle.numbers.specs.declared.number.Number.{Number}
use Rattle.numbers.specs.Digits.{digits_of, number_of, Lawful}
use Rattle.numbers.specs.Reading.{unpack, all_digits}
use Rattle.numbers.proofs.Halves.{length-unpack, digits_each, each_digits, all_read}
use Rattle.numbers.proofs.Same.{number_again, lawful_digits}
use Rattle.numbers.proofs.number.reading.digits_and_filler.Goals as goal

-- the first halves, read from the places where they are kept
front : (h os : List ℕ) (n : ℕ) → n ≤ length h → n ≤ 2 * length os → ((k : ℕ) → get_or h k 0 ≡ get_or (unpack os) k 0) → take n h ≡ take n (unpack os)
front h os n a b e =
    let u = length-unpack os in
    let l = length-take-le n h a in
    ext_get_or 0 (take n h) (take n (unpack os)) (l ∙ sym (length-take-le n (unpack os) (omega arith)))
    (λ k i. get_or-take n h k 0 (omega arith) ∙ e k ∙ sym (get_or-take n (unpack os) k 0 (omega arith)))

-- a number with these digits shows that they are digits
shown : (n : Number) (ds : List ℕ) → digits_of n ≡ ds → (all_digits ds ≡ true) × (n ≡ number_of ds)
shown n ds e = (ap all_digits (sym e) ∙ each_digits (digits_of n) (lawful_digits n).each, sym (number_again n) ∙ ap number_of e)

-- 3 to 15 that are not lawful are not all digits
not_digits : (ds : List ℕ) → 3 ≤ length ds → length ds ≤ 15 → (Lawful ds → ⊥) → all_digits ds ≡ false
not_digits ds lo hi f = go (all_digits ds) refl
  where
    go : (b : Bool) → all_digits ds ≡ b → all_digits ds ≡ false
    go true e = absurd (f (record { few = lo; many = hi; each = digits_each ds e }))
    go false e = e

pub returns-in_default : goal.returns-in_default
returns-in_default c =
    let os = c.args.octets.now in
    let n = c.args.count in
    let e = front c.halves-halves.result os n (omega arith) (omega arith) c.halves-halves.ensures.each in
    let l = length-take-le n (unpack os) (let u = length-unpack os in omega arith) in
    sym (cond-false (all_digits (take n (unpack os))) _ _ (not_digits (take n (unpack os)) (omega arith) (omega arith) (rw e at c.in_default.ensures.1)))

pub returns-then-halves-count-ne0 : goal.returns-then-halves-count-ne0
returns-then-halves-count-ne0 c =
    let os = c.args.octets.now in
    let n = c.args.count in
    let e = front c.halves-halves.result os n (omega arith) (omega arith) c.halves-halves.ensures.each in
    let s = shown c.in-Ok.number (take n (unpack os)) (c.in-Ok.ensures ∙ e) in
    let f : eqb (get_or (unpack os) n 0) 0 ≡ false = (let z = c.halves-halves.ensures.each n in grind (arith, nat_tests)) in
    sym (cond-true (all_digits (take n (unpack os))) _ _ s.0 ∙ cond-false (eqb (get_or (unpack os) n 0) 0) _ _ f)

pub returns : goal.returns
returns c =
    let os = c.args.octets.now in
    let n = c.args.count in
    let e = front c.halves-halves.result os n (omega arith) (omega arith) c.halves-halves.ensures.each in
    let s = shown c.in-Ok.number (take n (unpack os)) (c.in-Ok.ensures ∙ e) in
    all_read c.args.restricted os n c.in-Ok.number s.0 s.1 (sym (c.halves-halves.ensures.each n) ∙ c.if-halves-count-ne0.false)
