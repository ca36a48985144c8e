-- What is found under a code or a number is the value with it, and each value is found.
use Rattle.std.proofs.Common.{◌≡◌, ℕ, List, [], ◌∷◌, Some, ap, ◌∙◌, sym, refl, arith}
use Rattle.std.proofs.Math.Decide.{dec_le}
use Rattle.std.proofs.Math.Logic.{dite}
use Rattle.std.proofs.lemmas.Option.{none-some, same_Some}
use Rattle.std.proofs.lemmas.Bool.Decides.{nat_tests}
use Rattle.isup.specs.declared.message.Service.{Service}
use Rattle.isup.specs.declared.message.Service.TheVariants as service
use Rattle.isup.specs.declared.message.Reason.{Reason}
use Rattle.isup.specs.declared.message.Reason.TheVariants as reason
use Rattle.isup.specs.declared.message.Notification.{Notification}
use Rattle.isup.specs.declared.message.Notification.TheVariants as notification
use Rattle.isup.specs.declared.message.Indicator.{Indicator}
use Rattle.isup.specs.declared.message.Indicator.TheVariants as indicator
use Rattle.isup.specs.declared.message.Restriction.{Restriction}
use Rattle.isup.specs.declared.message.Restriction.TheVariants as restriction
use Rattle.isup.specs.declared.message.LineStatus.{LineStatus}
use Rattle.isup.specs.declared.message.LineStatus.TheVariants as status
use Rattle.isup.specs.declared.message.Event.{Event}
use Rattle.isup.specs.declared.message.Event.TheVariants as event
use Rattle.isup.specs.declared.message.Way.{Way}
use Rattle.isup.specs.declared.message.Way.TheVariants as way
use Rattle.isup.specs.declared.message.Ranged.{Ranged}
use Rattle.isup.specs.declared.message.Circuit.{Circuit}
use Rattle.isup.specs.Codes.{with_code, service_code, service_of, reason_code, reason_of, notification_code, notification_of, indicator_code, indicator_of, restriction_code, restriction_of, status_code, status_of, event_code, event_of, way_code, way_of}
use Rattle.isup.specs.Ranges.{in_range, circuit_in}
use Rattle.isup.proofs.Same.{ranged_made, none_below, none_above, circuit_made}

-- a value found under a code has that code
pub code_of_found : {A : Type 0} (code : A → ℕ) (xs : List A) (n : ℕ) (x : A) → with_code code xs n ≡ Some x → n ≡ code x
code_of_found code [] n x e = absurd (let z : ◌≡◌ {A = ℕ} 0 1 = cc in omega arith)
code_of_found code (y ∷ ys) n x e =
    let rest = code_of_found code ys n x in
    grind (arith, nat_tests)

pub found_service : (x : Service) → service_of (service_code x) ≡ Some x
found_service service.Speech = refl
found_service service.Digital64 = refl
found_service service.Audio = refl

pub code_of_service : (n : ℕ) (x : Service) → service_of n ≡ Some x → n ≡ service_code x
code_of_service = code_of_found service_code (service.Speech ∷ service.Digital64 ∷ service.Audio ∷ [])

pub found_reason : (x : Reason) → reason_of (reason_code x) ≡ Some x
found_reason reason.Unknown = refl
found_reason reason.Busy = refl
found_reason reason.NoReply = refl
found_reason reason.Unconditional = refl
found_reason reason.DeflectionAlerting = refl
found_reason reason.DeflectionImmediate = refl
found_reason reason.MobileUnreachable = refl

pub code_of_reason : (n : ℕ) (x : Reason) → reason_of n ≡ Some x → n ≡ reason_code x
code_of_reason =
    code_of_found reason_code
    (reason.Unknown ∷ reason.Busy ∷ reason.NoReply ∷ reason.Unconditional ∷ reason.DeflectionAlerting ∷ reason.DeflectionImmediate ∷ reason.MobileUnreachable ∷ [])

pub found_notification : (x : Notification) → notification_of (notification_code x) ≡ Some x
found_notification notification.Unknown = refl
found_notification notification.NotAllowed = refl
found_notification notification.WithNumber = refl
found_notification notification.WithoutNumber = refl

pub code_of_notification : (n : ℕ) (x : Notification) → notification_of n ≡ Some x → n ≡ notification_code x
code_of_notification = code_of_found notification_code (notification.Unknown ∷ notification.NotAllowed ∷ notification.WithNumber ∷ notification.WithoutNumber ∷ [])

pub found_indicator : (x : Indicator) → indicator_of (indicator_code x) ≡ Some x
found_indicator indicator.Diverted = refl
found_indicator indicator.AllRestricted = refl
found_indicator indicator.NumberRestricted = refl

pub code_of_indicator : (n : ℕ) (x : Indicator) → indicator_of n ≡ Some x → n ≡ indicator_code x
code_of_indicator = code_of_found indicator_code (indicator.Diverted ∷ indicator.AllRestricted ∷ indicator.NumberRestricted ∷ [])

pub found_restriction : (x : Restriction) → restriction_of (restriction_code x) ≡ Some x
found_restriction restriction.Allowed = refl
found_restriction restriction.Restricted = refl

pub code_of_restriction : (n : ℕ) (x : Restriction) → restriction_of n ≡ Some x → n ≡ restriction_code x
code_of_restriction = code_of_found restriction_code (restriction.Allowed ∷ restriction.Restricted ∷ [])

pub found_status : (x : LineStatus) → status_of (status_code x) ≡ Some x
found_status status.Free = refl
found_status status.NoIndication = refl

pub code_of_status : (n : ℕ) (x : LineStatus) → status_of n ≡ Some x → n ≡ status_code x
code_of_status = code_of_found status_code (status.Free ∷ status.NoIndication ∷ [])

pub found_event : (x : Event) → event_of (event_code x) ≡ Some x
found_event event.Alerting = refl
found_event event.Progress = refl

pub code_of_event : (n : ℕ) (x : Event) → event_of n ≡ Some x → n ≡ event_code x
code_of_event = code_of_found event_code (event.Alerting ∷ event.Progress ∷ [])

pub found_way : (x : Way) → way_of (way_code x) ≡ Some x
found_way way.Forward = refl
found_way way.Back = refl

pub code_of_way : (n : ℕ) (x : Way) → way_of n ≡ Some x → n ≡ way_code x
code_of_way = code_of_found way_code (way.Forward ∷ way.Back ∷ [])

pub found_ranged : {low high : ℕ} (x : Ranged low high) → in_range low high x.value ≡ Some x
found_ranged x = sym (ranged_made x)

pub found_circuit : (x : Circuit) → circuit_in x.call x.leg ≡ Some x
found_circuit x = sym (circuit_made x)

-- a value found under a number has that number
pub number_of_ranged : (low high n : ℕ) (x : Ranged low high) → in_range low high n ≡ Some x → n ≡ x.value
number_of_ranged low high n x e =
    dite (dec_le low n)
    (λ l. dite (dec_le n high) (λ h. ap (λ (y : Ranged low high). y.value) (same_Some _ _ (ranged_made (record { value = n; low = l; high = h }) ∙ e)))
    (λ not. absurd (none-some x (none_above low high n (omega arith) ∙ e))))
    (λ not. absurd (none-some x (none_below low high n (omega arith) ∙ e)))

pub numbers_of_circuit : (c l : ℕ) (x : Circuit) → circuit_in c l ≡ Some x → (c ≡ x.call) × (l ≡ x.leg)
numbers_of_circuit c l x e = grind (arith, nat_tests)
