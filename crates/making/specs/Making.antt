-- What each step of making answers.
use Rattle.std.specs.Prelude.{ℕ, Bool, true, false, cond, Some, None, Option, ◌==◌}
use Rattle.numbers.specs.declared.number.Number.{Number}
use Rattle.numbers.specs.declared.number.Party.{Party}
use Rattle.isup.specs.declared.message.Circuit.{Circuit}
use Rattle.isup.specs.declared.message.Restriction.{Restriction}
use Rattle.isup.specs.declared.message.RedirectionInformation.{RedirectionInformation}
use Rattle.isup.specs.declared.message.DiversionInformation.{DiversionInformation}
use Rattle.isup.specs.declared.message.Redirection.{Redirection}
use Rattle.isup.specs.declared.message.Notice.{Notice}
use Rattle.isup.specs.declared.message.Backward.{Backward}
use Rattle.isup.specs.declared.message.Message.{Message}
use Rattle.isup.specs.declared.message.Message.TheVariants.{InitialAddress, AddressComplete, CallProgress, Answer, Connect, Release}
use Rattle.isup.specs.declared.message.Envelope.{Envelope}
use Rattle.isup.specs.Codes.{service_of, reason_of, notification_of, indicator_of, restriction_of, status_of, event_of, way_of}
use Rattle.isup.specs.Ranges.{cause_in, count_in, circuit_in, exchange_in}
use Rattle.making.specs.declared.parts.Mandatory.{Mandatory}
use Rattle.making.specs.declared.parts.RawInformation.{RawInformation}
use Rattle.making.specs.declared.parts.RawRedirection.{RawRedirection}
use Rattle.making.specs.declared.parts.RawDiversion.{RawDiversion}
use Rattle.making.specs.declared.parts.RawNotice.{RawNotice}
use Rattle.making.specs.declared.parts.Optional.{Optional}
use Rattle.making.specs.declared.parts.Parts.{Parts}

-- goes on with a value that has to be there
abbrev pub takes : {A B : Type 0} → Option A → (A → Option B) → Option B
takes (Some x) f = f x
takes None f = None

-- goes on where a value is not there
abbrev pub lacks : {A B : Type 0} → Option A → Option B → Option B
lacks None r = r
lacks (Some x) r = None

abbrev pub information_in : RawInformation → Option RedirectionInformation
information_in i =
    takes (indicator_of i.indicator) (λ a. takes (count_in i.count) (λ b. takes (reason_of i.reason) (λ c. Some (record { indicator = a; count = b; reason = c }))))

abbrev pub redirection_from : Option (Party Number) → Option (Party Number) → Option RawInformation → Option (Option (Redirection Number))
redirection_from None o i = lacks o (lacks i (Some None))
redirection_from (Some a) o i =
    takes o (λ b. takes i (λ raw. takes (information_in raw) (λ c. Some (Some (record { redirecting = a; original = b; information = c })))))

abbrev pub redirection_in : RawRedirection → Option (Option (Redirection Number))
redirection_in g = redirection_from g.redirecting g.original g.information

abbrev pub diversion_in : RawDiversion → Option DiversionInformation
diversion_in d = takes (notification_of d.notification) (λ a. takes (reason_of d.reason) (λ b. Some (record { notification = a; reason = b })))

abbrev pub notice_from : Bool → Option RawDiversion → Option Number → Option (Option (Notice Number))
notice_from false d n = lacks d (lacks n (Some None))
notice_from true d n = takes d (λ raw. takes n (λ b. takes (diversion_in raw) (λ a. Some (Some (record { information = a; number = b })))))

abbrev pub notice_in : RawNotice → Option (Option (Notice Number))
notice_in g = notice_from g.announced g.diversion g.number

abbrev pub restriction_in : Option ℕ → Option (Option Restriction)
restriction_in None = Some None
restriction_in (Some code) = takes (restriction_of code) (λ r. Some (Some r))

abbrev pub optional_in : Parts → Option Optional
optional_in p =
    takes (redirection_in p.redirection) (λ a. takes (notice_in p.notice) (λ b. takes (restriction_in p.restriction) (λ c.
    Some (record { redirection = a; may_divert = p.may_divert; notice = b; restriction = c }))))

abbrev pub backward_in : Optional → Option (Backward Number)
backward_in o = lacks o.redirection (Some (record { may_divert = o.may_divert; notice = o.notice; restriction = o.restriction }))

abbrev pub restriction_alone : Optional → Option (Option Restriction)
restriction_alone o = lacks o.redirection (cond o.may_divert None (lacks o.notice (Some o.restriction)))

abbrev pub initial_in : Mandatory → Optional → Option (Message Number)
initial_in m o =
    takes m.service (λ code. takes m.called (λ number. lacks m.status (lacks m.event (lacks m.cause
    (cond o.may_divert None (lacks o.notice (lacks o.restriction
    (takes (service_of code) (λ s. Some (InitialAddress s number o.redirection))))))))))

abbrev pub complete_in : Mandatory → Optional → Option (Message Number)
complete_in m o =
    lacks m.service (lacks m.called (takes m.status (λ code. lacks m.event (lacks m.cause
    (takes (status_of code) (λ l. takes (backward_in o) (λ b. Some (AddressComplete l b))))))))

abbrev pub progress_in : Mandatory → Optional → Option (Message Number)
progress_in m o =
    lacks m.service (lacks m.called (lacks m.status (takes m.event (λ code. lacks m.cause
    (takes (event_of code) (λ e. takes (backward_in o) (λ b. Some (CallProgress e b))))))))

-- no mandatory part, and no optional one but the restriction
abbrev pub connected_in : Mandatory → Optional → Option (Option Restriction)
connected_in m o = lacks m.service (lacks m.called (lacks m.status (lacks m.event (lacks m.cause (restriction_alone o)))))

abbrev pub release_in : Mandatory → Optional → Option (Message Number)
release_in m o =
    lacks m.service (lacks m.called (lacks m.status (lacks m.event (takes m.cause (λ value.
    takes (restriction_alone o) (λ r. lacks r (takes (cause_in value) (λ c. Some (Release c)))))))))

abbrev pub message_in : ℕ → Mandatory → Optional → Option (Message Number)
message_in kind m o =
    cond (kind == 0x01) (initial_in m o)
    (cond (kind == 0x06) (complete_in m o)
    (cond (kind == 0x2C) (progress_in m o)
    (cond (kind == 0x09) (takes (connected_in m o) (λ r. Some (Answer r)))
    (cond (kind == 0x07) (takes (connected_in m o) (λ r. Some (Connect r)))
    (cond (kind == 0x0C) (release_in m o) None)))))

abbrev pub made_from : Parts → Option (Circuit × Message Number)
made_from p =
    takes (circuit_in p.call p.leg) (λ c. takes (optional_in p) (λ o. takes (message_in p.kind p.mandatory o) (λ m. Some (c, m))))

abbrev pub envelope_from : ℕ → ℕ → ℕ → Circuit → Message Number → Option (Envelope Number)
envelope_from from to way c m =
    takes (exchange_in from) (λ f. takes (exchange_in to) (λ t. takes (way_of way) (λ w. Some (record { from = f; to = t; way = w; circuit = c; message = m }))))
