-- What the contents of optional parameters and of the cause mean.
use Rattle.std.specs.Prelude.{ℕ, ◌-◌, ◌/◌, ◌%◌, Bool, cond, ◌&&◌, List, length, Some, None, Option, ◌==◌, nat_le, slice_index}
use Rattle.isup.specs.Ranges.{Cause}
use Rattle.isup.specs.declared.message.RedirectionInformation.{RedirectionInformation}
use Rattle.isup.specs.declared.message.DiversionInformation.{DiversionInformation}
use Rattle.isup.specs.declared.message.Restriction.{Restriction}
use Rattle.isup.specs.Ranges.{cause_in, count_in}
use Rattle.isup.specs.Codes.{reason_of, notification_of, indicator_of, restriction_of}

abbrev pub and_then : {A B : Type 0} → Option A → (A → Option B) → Option B
and_then (Some x) f = f x
and_then None f = None

-- the content is this octet alone
abbrev pub is_octet : List ℕ → ℕ → Bool
is_octet c n = length c == 1 && slice_index c 0 == n

-- two octets: the indicator; then the count in the low half (its top bit is 0) and the reason in the high one
abbrev pub information_in : List ℕ → Option RedirectionInformation
information_in c =
    cond (length c == 2)
    (and_then (indicator_of (slice_index c 0)) (λ i. and_then (count_in (slice_index c 1 % 16)) (λ n. and_then (reason_of (slice_index c 1 / 16)) (λ r.
    Some (record { indicator = i; count = n; reason = r }))))) None

-- one octet: the notification option in the low three bits, the reason in the others
abbrev pub diversion_in : List ℕ → Option DiversionInformation
diversion_in c =
    cond (length c == 1)
    (and_then (notification_of (slice_index c 0 % 8)) (λ o. and_then (reason_of (slice_index c 0 / 8)) (λ r. Some (record { notification = o; reason = r })))) None

-- one octet
abbrev pub restriction_in : List ℕ → Option Restriction
restriction_in c = cond (length c == 1) (restriction_of (slice_index c 0)) None

-- 82, then 80 and the cause
abbrev pub cause_from : List ℕ → Option Cause
cause_from c = cond (length c == 2 && slice_index c 0 == 0x82) (cond (nat_le 0x80 (slice_index c 1)) (cause_in (slice_index c 1 - 0x80)) None) None
