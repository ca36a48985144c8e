-- The octets of a value are read as that value.
use Rattle.std.proofs.Common.{◌≡◌, ℕ, ◌+◌, ◌-◌, ◌*◌, ◌/◌, ◌%◌, true, leb, [], ◌∷◌, Some, Option, refl, ap, ◌∙◌, arith}
use Rattle.std.proofs.lemmas.Bool.{cond-true}
use Rattle.std.proofs.lemmas.Bool.Decides.{nat_tests}
use Rattle.isup.specs.Ranges.{Cause}
use Rattle.isup.specs.declared.message.Circuit.{Circuit}
use Rattle.isup.specs.declared.message.RedirectionInformation.{RedirectionInformation}
use Rattle.isup.specs.declared.message.DiversionInformation.{DiversionInformation}
use Rattle.isup.specs.declared.message.Restriction.{Restriction}
use Rattle.isup.specs.Ranges.{cause_in, count_in, circuit_in, circuit_from}
use Rattle.isup.specs.Codes.{reason_code, reason_of, indicator_code, indicator_of}
use Rattle.isup.specs.Coding.{information_octets, diversion_octets, restriction_octets}
use Rattle.isup.proofs.Coded.{found_reason, found_indicator, found_restriction, found_ranged, found_circuit}
use Rattle.decode.specs.Values.{and_then, information_in, diversion_in, restriction_in, cause_from}

-- one reading after another where the first succeeds
and_then_lem : {A B : Type 0} (o : Option A) (f : A → Option B) (x : A) (y : Option B) → o ≡ Some x → f x ≡ y → and_then o f ≡ y
and_then_lem o f x y e k = ap (λ p. and_then p f) e ∙ k

pub information_read : (i : RedirectionInformation) → information_in (information_octets i) ≡ Some i
information_read i =
    let n = i.count.high in
    let low : (reason_code i.reason * 16 + i.count.value) % 16 ≡ i.count.value = omega arith in
    let high : (reason_code i.reason * 16 + i.count.value) / 16 ≡ reason_code i.reason = omega arith in
    and_then_lem (indicator_of (indicator_code i.indicator)) _ i.indicator _ (found_indicator i.indicator)
    (and_then_lem (count_in ((reason_code i.reason * 16 + i.count.value) % 16)) _ i.count _ (ap count_in low ∙ found_ranged i.count)
    (and_then_lem (reason_of ((reason_code i.reason * 16 + i.count.value) / 16)) _ i.reason _ (ap reason_of high ∙ found_reason i.reason) refl))

pub diversion_read : (d : DiversionInformation) → diversion_in (diversion_octets d) ≡ Some d
diversion_read d = grind (arith, nat_tests)

pub restriction_read : (r : Restriction) → restriction_in (restriction_octets r) ≡ Some r
restriction_read r = found_restriction r

pub cause_read : (c : Cause) → cause_from (0x82 ∷ (0x80 + c.value) ∷ []) ≡ Some c
cause_read c =
    let above : leb 0x80 (0x80 + c.value) ≡ true = grind (arith, nat_tests) in
    let less : 0x80 + c.value - 0x80 ≡ c.value = omega arith in
    cond-true (leb 0x80 (0x80 + c.value)) _ _ above ∙ ap cause_in less ∙ found_ranged c

pub circuit_read : (c : Circuit) → circuit_from ((8 * c.call + c.leg) % 256) ((8 * c.call + c.leg) / 256) ≡ Some c
circuit_read c =
    let lo = c.calls in
    let hi = c.legs in
    let low = (8 * c.call + c.leg) % 256 in
    let high = (8 * c.call + c.leg) / 256 in
    let call : (high * 256 + low) / 8 ≡ c.call = omega arith in
    let leg : (high * 256 + low) % 8 ≡ c.leg = omega arith in
    ap (λ (n : ℕ). circuit_in n ((high * 256 + low) % 8)) call ∙ ap (circuit_in c.call) leg ∙ found_circuit c
