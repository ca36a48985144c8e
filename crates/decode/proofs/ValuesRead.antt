-- What a value is read from are its octets.
use Rattle.std.proofs.Common.{◌≡◌, ℕ, ◌+◌, ◌-◌, ◌*◌, ◌/◌, ◌%◌, Bool, true, false, ◌&&◌, eqb, leb, List, [], ◌∷◌, length, get_or, Some, Ok, Err, Result, sym, refl, ap, ◌∙◌, arith}
use Rattle.std.proofs.lemmas.Bool.{and_parts, eqb-true, leb-true}
use Rattle.numbers.specs.declared.number.Number.{Number}
use Rattle.numbers.specs.declared.number.Party.{Party}
use Rattle.numbers.specs.declared.number.NumberFault.{NumberFault}
use Rattle.numbers.specs.Digits.{content, plain}
use Rattle.numbers.specs.Reading.{read_number, NumberCoded}
use Rattle.numbers.proofs.Contents.{sound}
use Rattle.isup.specs.Ranges.{Cause}
use Rattle.isup.specs.declared.message.RedirectionInformation.{RedirectionInformation}
use Rattle.isup.specs.declared.message.DiversionInformation.{DiversionInformation}
use Rattle.isup.specs.declared.message.Restriction.{Restriction}
use Rattle.isup.specs.Ranges.{count_in}
use Rattle.isup.specs.Codes.{reason_code, reason_of, notification_code, notification_of, indicator_code, indicator_of, restriction_code}
use Rattle.isup.specs.Coding.{information_octets, diversion_octets, restriction_octets}
use Rattle.isup.proofs.Coded.{code_of_found, number_of_ranged}
use Rattle.decode.specs.Values.{is_octet, information_in, diversion_in, restriction_in, cause_from}
use Rattle.decode.specs.Optional.{number_at}
use Rattle.decode.proofs.Passed.{found_passed, found_after}

one : (c : List ℕ) (x : ℕ) → length c ≡ 1 → get_or c 0 0 ≡ x → c ≡ x ∷ []
one [] x l e = absurd (omega arith)
one (a ∷ []) x l e = cc
one (a ∷ b ∷ c) x l e = absurd (omega arith)

two : (c : List ℕ) (x y : ℕ) → length c ≡ 2 → get_or c 0 0 ≡ x → get_or c 1 0 ≡ y → c ≡ x ∷ y ∷ []
two [] x y l e f = absurd (omega arith)
two (a ∷ []) x y l e f = absurd (omega arith)
two (a ∷ b ∷ []) x y l e f = cc
two (a ∷ b ∷ d ∷ c) x y l e f = absurd (omega arith)

pub information_octets_lem : (c : List ℕ) (i : RedirectionInformation) → information_in c ≡ Some i → c ≡ information_octets i
information_octets_lem c i e =
    let l = found_passed (eqb (length c) 2) _ i e in
    let a = found_after (indicator_of (get_or c 0 0)) _ i l.1 in
    let n = found_after (count_in (get_or c 1 0 % 16)) _ i a.1.1 in
    let r = found_after (reason_of (get_or c 1 0 / 16)) _ i n.1.1 in
    let is : record { indicator = a.0; count = n.0; reason = r.0 } ≡ i = cc r.1.1 in
    let low = number_of_ranged 1 5 (get_or c 1 0 % 16) n.0 n.1.0 in
    let high : get_or c 1 0 / 16 ≡ reason_code r.0 = search (code_of_found, r.1.0) in
    two c (indicator_code a.0) _ (eqb-true (length c) 2 l.0) (search (code_of_found, a.1.0))
    (let both : get_or c 1 0 ≡ reason_code r.0 * 16 + n.0.value = omega arith in both)
    ∙ ap information_octets is

pub diversion_octets_lem : (c : List ℕ) (d : DiversionInformation) → diversion_in c ≡ Some d → c ≡ diversion_octets d
diversion_octets_lem c d e =
    let l = found_passed (eqb (length c) 1) _ d e in
    let n = found_after (notification_of (get_or c 0 0 % 8)) _ d l.1 in
    let r = found_after (reason_of (get_or c 0 0 / 8)) _ d n.1.1 in
    let is : record { notification = n.0; reason = r.0 } ≡ d = cc r.1.1 in
    let low : get_or c 0 0 % 8 ≡ notification_code n.0 = search (code_of_found, n.1.0) in
    let high : get_or c 0 0 / 8 ≡ reason_code r.0 = search (code_of_found, r.1.0) in
    one c _ (eqb-true (length c) 1 l.0) (let both : get_or c 0 0 ≡ reason_code r.0 * 8 + notification_code n.0 = omega arith in both)
    ∙ ap diversion_octets is

pub restriction_octets_lem : (c : List ℕ) (r : Restriction) → restriction_in c ≡ Some r → c ≡ restriction_octets r
restriction_octets_lem c r e =
    let l = found_passed (eqb (length c) 1) _ r e in
    one c (restriction_code r) (eqb-true (length c) 1 l.0) (search (code_of_found, l.1))

pub cause_octets : (c : List ℕ) (x : Cause) → cause_from c ≡ Some x → c ≡ 0x82 ∷ (0x80 + x.value) ∷ []
cause_octets c x e =
    let a = found_passed (eqb (length c) 2 && eqb (get_or c 0 0) 0x82) _ x e in
    let b = and_parts (eqb (length c) 2) (eqb (get_or c 0 0) 0x82) a.0 in
    let d = found_passed (leb 0x80 (get_or c 1 0)) _ x a.1 in
    let above = leb-true 0x80 (get_or c 1 0) d.0 in
    let is = number_of_ranged 1 127 (get_or c 1 0 - 0x80) x d.1 in
    two c _ _ (eqb-true (length c) 2 b.0) (eqb-true (get_or c 0 0) 0x82 b.1) (let v : get_or c 1 0 ≡ 0x80 + x.value = omega arith in v)

pub lone_octet : (c : List ℕ) (n : ℕ) → is_octet c n ≡ true → c ≡ n ∷ []
lone_octet c n e =
    let p = and_parts (eqb (length c) 1) (eqb (get_or c 0 0) n) e in
    one c n (eqb-true (length c) 1 p.0) (eqb-true (get_or c 0 0) n p.1)

-- a number at a place is coded there
pub number_coded : (may : Bool) (c : List ℕ) (place : ℕ) (p : Party Number) → number_at place (read_number may c) ≡ Ok p → NumberCoded may p c
number_coded may c place p e = let r = read (read_number may c) e in (sound may c p r.0 r.1).0
  where
    read : (r : Result (Party Number × ℕ) NumberFault) → number_at place r ≡ Ok p → (used : ℕ) × (r ≡ Ok (p, used))
    read (Ok q) e = (q.1, ap (λ (x : Party Number). Ok (x, q.1)) (let is : q.0 ≡ p = cc in is))
    read (Err f) e = cc

pub content_octets : (c : List ℕ) (place : ℕ) (p : Party Number) → number_at place (read_number true c) ≡ Ok p → c ≡ content p
content_octets c place p e = (number_coded true c place p e).same

-- without a mark, where none may stand
pub plain_octets : (c : List ℕ) (place : ℕ) (p : Party Number) → number_at place (read_number false c) ≡ Ok p → c ≡ plain p.number
plain_octets c place p e = let n = number_coded false c place p e in n.same ∙ ap (λ (b : Bool). content (record { number = p.number; restricted = b })) (unmarked p.restricted n.marked)
  where
    unmarked : (b : Bool) → (b ≡ true → false ≡ true) → b ≡ false
    unmarked false m = refl
    unmarked true m = sym (m refl)
