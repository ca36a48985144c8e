-- The raw parts of a message and of an envelope.
use Rattle.std.specs.Prelude.{◌≡◌, ℕ, true, false, Some, None, Ok, Err, Option, Result, ◌≢◌}
use Rattle.std.specs.Option.{option_map}
use Rattle.numbers.specs.declared.number.Number.{Number}
use Rattle.numbers.specs.declared.refusal.Refusal.{Refusal}
use Rattle.numbers.specs.declared.refusal.Refusal.TheVariants.{OutOfRange}
use Rattle.isup.specs.declared.message.Circuit.{Circuit}
use Rattle.isup.specs.declared.message.RedirectionInformation.{RedirectionInformation}
use Rattle.isup.specs.declared.message.DiversionInformation.{DiversionInformation}
use Rattle.isup.specs.declared.message.Redirection.{Redirection}
use Rattle.isup.specs.declared.message.Notice.{Notice}
use Rattle.isup.specs.declared.message.Message.{Message}
use Rattle.isup.specs.declared.message.Message.TheVariants.{InitialAddress, AddressComplete, CallProgress, Answer, Connect, Release}
use Rattle.isup.specs.declared.message.Envelope.{Envelope}
use Rattle.isup.specs.Codes.{service_code, reason_code, notification_code, indicator_code, restriction_code, status_code, event_code, way_code}
use Rattle.making.specs.declared.parts.Mandatory.{Mandatory}
use Rattle.making.specs.declared.parts.RawInformation.{RawInformation}
use Rattle.making.specs.declared.parts.RawRedirection.{RawRedirection}
use Rattle.making.specs.declared.parts.RawDiversion.{RawDiversion}
use Rattle.making.specs.declared.parts.RawNotice.{RawNotice}
use Rattle.making.specs.declared.parts.Optional.{Optional}
use Rattle.making.specs.declared.parts.Parts.{Parts}

-- the type octet
abbrev pub kind_of : Message Number → ℕ
kind_of (InitialAddress s c r) = 0x01
kind_of (AddressComplete l b) = 0x06
kind_of (CallProgress e b) = 0x2C
kind_of (Answer r) = 0x09
kind_of (Connect r) = 0x07
kind_of (Release c) = 0x0C

-- the parts that the message must have
abbrev pub mandatory_of : Message Number → Mandatory
mandatory_of (InitialAddress s c r) = record { service = Some (service_code s); called = Some c; status = None; event = None; cause = None }
mandatory_of (AddressComplete l b) = record { service = None; called = None; status = Some (status_code l); event = None; cause = None }
mandatory_of (CallProgress e b) = record { service = None; called = None; status = None; event = Some (event_code e); cause = None }
mandatory_of (Answer r) = record { service = None; called = None; status = None; event = None; cause = None }
mandatory_of (Connect r) = record { service = None; called = None; status = None; event = None; cause = None }
mandatory_of (Release c) = record { service = None; called = None; status = None; event = None; cause = Some c.value }

-- the optional parts of the message
abbrev pub optional_of : Message Number → Optional
optional_of (InitialAddress s c r) = record { redirection = r; may_divert = false; notice = None; restriction = None }
optional_of (AddressComplete l b) = record { redirection = None; may_divert = b.may_divert; notice = b.notice; restriction = b.restriction }
optional_of (CallProgress e b) = record { redirection = None; may_divert = b.may_divert; notice = b.notice; restriction = b.restriction }
optional_of (Answer r) = record { redirection = None; may_divert = false; notice = None; restriction = r }
optional_of (Connect r) = record { redirection = None; may_divert = false; notice = None; restriction = r }
optional_of (Release c) = record { redirection = None; may_divert = false; notice = None; restriction = None }

abbrev pub raw_information : RedirectionInformation → RawInformation
raw_information i = record { indicator = indicator_code i.indicator; count = i.count.value; reason = reason_code i.reason }

abbrev pub raw_diversion : DiversionInformation → RawDiversion
raw_diversion d = record { notification = notification_code d.notification; reason = reason_code d.reason }

-- redirecting number, original called number and redirection information: all or none
abbrev pub raw_redirection : Option (Redirection Number) → RawRedirection
raw_redirection None = record { redirecting = None; original = None; information = None }
raw_redirection (Some r) =
    record { redirecting = Some r.redirecting; original = Some r.original; information = Some (raw_information r.information) }

-- announcement, call diversion information and redirection number: all or none
abbrev pub raw_notice : Option (Notice Number) → RawNotice
raw_notice None = record { announced = false; diversion = None; number = None }
raw_notice (Some n) = record { announced = true; diversion = Some (raw_diversion n.information); number = Some n.number }

-- the raw parts of a message on its circuit
abbrev pub parts_of : Circuit → Message Number → Parts
parts_of c m = record {
  call = c.call;
  leg = c.leg;
  kind = kind_of m;
  mandatory = mandatory_of m;
  redirection = raw_redirection (optional_of m).redirection;
  may_divert = (optional_of m).may_divert;
  notice = raw_notice (optional_of m).notice;
  restriction = option_map restriction_code (optional_of m).restriction;
}

-- exactly the parts of a message are accepted, and that message is answered
abbrev pub Made : Parts → Result (Circuit × Message Number) Refusal → Type 0
Made p (Ok r) = p ≡ parts_of r.0 r.1
Made p (Err e) = (e ≡ OutOfRange) × ((c : Circuit) (m : Message Number) → p ≢ parts_of c m)

-- the raw parts that an envelope is made from
pub record PartsOfEnvelope (from to way : ℕ) (c : Circuit) (m : Message Number) (e : Envelope Number) : Type 0 where
  pub from_is : from ≡ e.from.value
  pub to_is : to ≡ e.to.value
  pub way_is : way ≡ way_code e.way
  pub circuit_is : c ≡ e.circuit
  pub message_is : m ≡ e.message

-- exactly the parts of an envelope are accepted, and that envelope is answered
abbrev pub EnvelopeMade : ℕ → ℕ → ℕ → Circuit → Message Number → Result (Envelope Number) Refusal → Type 0
EnvelopeMade from to way c m (Ok e) = PartsOfEnvelope from to way c m e
EnvelopeMade from to way c m (Err r) = (r ≡ OutOfRange) × ((e : Envelope Number) → PartsOfEnvelope from to way c m e → ⊥)
