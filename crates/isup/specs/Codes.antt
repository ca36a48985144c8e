-- The code of each value, and the value of each code.
use Rattle.std.specs.Prelude.{ℕ, cond, List, [], ◌∷◌, Some, None, Option, Result, ◌==◌}
use Rattle.std.specs.Option.{ok_or}
use Rattle.isup.specs.declared.codes.UnknownCode.{UnknownCode}
use Rattle.isup.specs.declared.row.ParameterName.{ParameterName}
use Rattle.isup.specs.declared.row.ParameterName.TheVariants as name
use Rattle.isup.specs.declared.message.MessageKind.{MessageKind}
use Rattle.isup.specs.declared.message.MessageKind.TheVariants as kind
use Rattle.isup.specs.declared.message.Service.{Service}
use Rattle.isup.specs.declared.message.Service.TheVariants as service
use Rattle.isup.specs.declared.message.Reason.{Reason}
use Rattle.isup.specs.declared.message.Reason.TheVariants as reason
use Rattle.isup.specs.declared.message.Notification.{Notification}
use Rattle.isup.specs.declared.message.Notification.TheVariants as notification
use Rattle.isup.specs.declared.message.Indicator.{Indicator}
use Rattle.isup.specs.declared.message.Indicator.TheVariants as indicator
use Rattle.isup.specs.declared.message.Restriction.{Restriction}
use Rattle.isup.specs.declared.message.Restriction.TheVariants as restriction
use Rattle.isup.specs.declared.message.LineStatus.{LineStatus}
use Rattle.isup.specs.declared.message.LineStatus.TheVariants as status
use Rattle.isup.specs.declared.message.Event.{Event}
use Rattle.isup.specs.declared.message.Event.TheVariants as event
use Rattle.isup.specs.declared.message.Way.{Way}
use Rattle.isup.specs.declared.message.Way.TheVariants as way

abbrev pub service_code : Service → ℕ
service_code service.Speech = 0x00
service_code service.Digital64 = 0x02
service_code service.Audio = 0x03

abbrev pub reason_code : Reason → ℕ
reason_code reason.Unknown = 0
reason_code reason.Busy = 1
reason_code reason.NoReply = 2
reason_code reason.Unconditional = 3
reason_code reason.DeflectionAlerting = 4
reason_code reason.DeflectionImmediate = 5
reason_code reason.MobileUnreachable = 6

abbrev pub notification_code : Notification → ℕ
notification_code notification.Unknown = 0
notification_code notification.NotAllowed = 1
notification_code notification.WithNumber = 2
notification_code notification.WithoutNumber = 3

abbrev pub indicator_code : Indicator → ℕ
indicator_code indicator.Diverted = 3
indicator_code indicator.AllRestricted = 4
indicator_code indicator.NumberRestricted = 6

abbrev pub restriction_code : Restriction → ℕ
restriction_code restriction.Allowed = 0x00
restriction_code restriction.Restricted = 0x01

abbrev pub status_code : LineStatus → ℕ
status_code status.Free = 0x04
status_code status.NoIndication = 0x00

abbrev pub event_code : Event → ℕ
event_code event.Alerting = 0x01
event_code event.Progress = 0x02

abbrev pub way_code : Way → ℕ
way_code way.Forward = 0
way_code way.Back = 1

abbrev pub kind_code : MessageKind → ℕ
kind_code kind.InitialAddress = 0x01
kind_code kind.AddressComplete = 0x06
kind_code kind.CallProgress = 0x2C
kind_code kind.Answer = 0x09
kind_code kind.Connect = 0x07
kind_code kind.Release = 0x0C

abbrev pub name_code : ParameterName → ℕ
name_code name.Redirecting = 0x0B
name_code name.Original = 0x28
name_code name.Information = 0x13
name_code name.MayDivert = 0x29
name_code name.Announced = 0x2C
name_code name.Diversion = 0x36
name_code name.Redirection = 0x0C
name_code name.Restriction = 0x40

-- the value among these whose code is n
abbrev pub with_code : {A : Type 0} → (A → ℕ) → List A → ℕ → Option A
with_code code [] n = None
with_code code (x ∷ xs) n = cond (n == code x) (Some x) (with_code code xs n)

abbrev pub service_of : ℕ → Option Service
service_of n = with_code service_code (service.Speech ∷ service.Digital64 ∷ service.Audio ∷ []) n

abbrev pub reason_of : ℕ → Option Reason
reason_of n =
    with_code reason_code
    (reason.Unknown ∷ reason.Busy ∷ reason.NoReply ∷ reason.Unconditional ∷ reason.DeflectionAlerting ∷ reason.DeflectionImmediate ∷ reason.MobileUnreachable ∷ []) n

abbrev pub notification_of : ℕ → Option Notification
notification_of n = with_code notification_code (notification.Unknown ∷ notification.NotAllowed ∷ notification.WithNumber ∷ notification.WithoutNumber ∷ []) n

abbrev pub indicator_of : ℕ → Option Indicator
indicator_of n = with_code indicator_code (indicator.Diverted ∷ indicator.AllRestricted ∷ indicator.NumberRestricted ∷ []) n

abbrev pub restriction_of : ℕ → Option Restriction
restriction_of n = with_code restriction_code (restriction.Allowed ∷ restriction.Restricted ∷ []) n

abbrev pub status_of : ℕ → Option LineStatus
status_of n = with_code status_code (status.Free ∷ status.NoIndication ∷ []) n

abbrev pub event_of : ℕ → Option Event
event_of n = with_code event_code (event.Alerting ∷ event.Progress ∷ []) n

abbrev pub way_of : ℕ → Option Way
way_of n = with_code way_code (way.Forward ∷ way.Back ∷ []) n

abbrev pub kind_of : ℕ → Option MessageKind
kind_of n =
    with_code kind_code
    (kind.InitialAddress ∷ kind.AddressComplete ∷ kind.CallProgress ∷ kind.Answer ∷ kind.Connect ∷ kind.Release ∷ []) n

abbrev pub name_of : ℕ → Option ParameterName
name_of n =
    with_code name_code
    (name.Redirecting ∷ name.Original ∷ name.Information ∷ name.MayDivert ∷ name.Announced ∷ name.Diversion ∷ name.Redirection ∷ name.Restriction ∷ []) n

-- what was found under a code, or the error that names the code
abbrev pub known : {A : Type 0} → ℕ → Option A → Result A UnknownCode
known code found = ok_or found (record { 0 = code })
