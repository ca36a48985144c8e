-- The messages that are sent along a leg, and what a message is to the end that it comes to.
use Rattle.std.specs.Prelude.{ℕ, zero, suc, Bool, true, false, cond, not, Some, None, Option}
use Rattle.numbers.specs.declared.number.Party.{Party}
use Rattle.isup.specs.Ranges.{Exchange, cause_of, count_of}
use Rattle.isup.specs.declared.message.Backward.{Backward}
use Rattle.isup.specs.declared.message.Event.{Event}
use Rattle.isup.specs.declared.message.Event.TheVariants as progress
use Rattle.isup.specs.declared.message.LineStatus.{LineStatus}
use Rattle.isup.specs.declared.message.LineStatus.TheVariants as status
use Rattle.isup.specs.declared.message.Message.{Message}
use Rattle.isup.specs.declared.message.Message.TheVariants as message
use Rattle.isup.specs.declared.message.Notice.{Notice}
use Rattle.isup.specs.declared.message.Reason.{Reason}
use Rattle.isup.specs.declared.message.Reason.TheVariants as reason
use Rattle.isup.specs.declared.message.Redirection.{Redirection}
use Rattle.isup.specs.declared.message.Restriction.{Restriction}
use Rattle.isup.specs.declared.message.Service.{Service}
use Rattle.isup.specs.declared.message.Way.{Way}
use Rattle.isup.specs.declared.message.Way.TheVariants.{Forward, Back}
use Rattle.options.specs.declared.record.Kind.{Kind}
use Rattle.options.specs.declared.record.Kind.TheVariants as kind
use Rattle.options.specs.declared.record.NotificationOption.{NotificationOption}
use Rattle.options.specs.declared.record.Record.{Record}
use Rattle.rules.specs.declared.arrival.Arrival.{Arrival}
use Rattle.rules.specs.declared.arrival.Arrival.TheVariants as arrival
use Rattle.rules.specs.declared.arrival.Indication.{Indication}
use Rattle.rules.specs.declared.arrival.Indication.TheVariants as indication
use Rattle.rules.specs.declared.leg.Leg.{Leg}
use Rattle.rules.specs.declared.leg.LegState.TheVariants.{Sent}
use Rattle.rules.specs.declared.note.NoteKind.{NoteKind}
use Rattle.rules.specs.declared.note.NoteKind.TheVariants as note
use Rattle.rules.specs.Parts.{Signal, Meaning}
use Rattle.rules.specs.Strictness.{strictest_with, notification_for, indicator_for, indicated_option, restriction_for}

-- a message forward along leg k
abbrev pub along : {N : Type 0} → ℕ → ℕ → Leg N → Message N → Signal N
along c k l m = record { from = l.near.value; to = l.far.value; way = Forward; call = c; leg = k; message = m }

-- a message back along leg k
abbrev pub back : {N : Type 0} → ℕ → ℕ → Leg N → Message N → Signal N
back c k l m = record { from = l.far.value; to = l.near.value; way = Back; call = c; leg = k; message = m }

-- a release with a cause
abbrev pub release_with : {N : Type 0} → ℕ → Message N
release_with cause = message.Release (cause_of cause)

-- leg k's initial address
abbrev pub initial_of : {N : Type 0} → ℕ → ℕ → Service → Leg N → Signal N
initial_of c k service l = along c k l (message.InitialAddress service l.called l.redirection)

-- a line that is free is alerting, else there is progress
abbrev pub status_event : LineStatus → Event
status_event status.Free = progress.Alerting
status_event status.NoIndication = progress.Progress

-- addresses and releases forward count at the far end, indications and releases back at the near end; what goes the
-- wrong way for its type is no arrival
abbrev pub arrival_of : {N : Type 0} → Way → Message N → Option (Arrival N)
arrival_of Forward (message.InitialAddress s n r) = Some (arrival.Address r)
arrival_of Forward (message.AddressComplete st b) = None
arrival_of Forward (message.CallProgress ev b) = None
arrival_of Forward (message.Answer r) = None
arrival_of Forward (message.Connect r) = None
arrival_of Forward (message.Release c) = Some (arrival.ForwardRelease c)
arrival_of Back (message.InitialAddress s n r) = None
arrival_of Back (message.AddressComplete st b) = Some (arrival.Indicated (indication.Progress (status_event st) b))
arrival_of Back (message.CallProgress ev b) = Some (arrival.Indicated (indication.Progress ev b))
arrival_of Back (message.Answer r) = Some (arrival.Indicated (indication.Answer r))
arrival_of Back (message.Connect r) = Some (arrival.Indicated (indication.Answer r))
arrival_of Back (message.Release c) = Some (arrival.BackwardRelease c)

-- an indication goes on back as call progress or answer, with its parameters
abbrev pub relayed : {N : Type 0} → Indication N → Message N
relayed (indication.Progress ev b) = message.CallProgress ev b
relayed (indication.Answer r) = message.Answer r

-- progress or alerting, or answer
abbrev pub note_kind_of : {N : Type 0} → Indication N → NoteKind
note_kind_of (indication.Progress progress.Alerting b) = note.Alerting
note_kind_of (indication.Progress progress.Progress b) = note.Progress
note_kind_of (indication.Answer r) = note.Answer

-- the notice that an indication has
abbrev pub notice_of : {N : Type 0} → Indication N → Option (Notice N)
notice_of (indication.Progress ev b) = b.notice
notice_of (indication.Answer r) = None

-- the restriction indicator that an indication has
abbrev pub restriction_of : {N : Type 0} → Indication N → Option Restriction
restriction_of (indication.Progress ev b) = b.restriction
restriction_of (indication.Answer r) = r

-- events 3 and 5 add the restriction indicator on legs above 0, by the withheld mark
abbrev pub restriction_at : {N : Type 0} → Meaning N → ℕ → N → Option Restriction
restriction_at m zero n = None
restriction_at m (suc k) n = Some (restriction_for (m.withheld n))

-- the reason of a diversion by its kind; of a deflection by whether the leg was alerting
abbrev pub reason_of : Kind → Bool → Reason
reason_of kind.Unconditional alerting = reason.Unconditional
reason_of kind.Busy alerting = reason.Busy
reason_of kind.NoReply alerting = reason.NoReply
reason_of kind.Deflection true = reason.DeflectionAlerting
reason_of kind.Deflection false = reason.DeflectionImmediate

-- the notice of a diversion: the diverting party's option, the reason, the target
abbrev pub notice_for : {N : Type 0} → Bool → Kind → Record N → N → Notice N
notice_for alerting w r target = record { information = record { notification = notification_for r.option; reason = reason_of w alerting }; number = target }

-- what goes back with the notice: call progress from an alerting leg, else address complete
abbrev pub notice_message : {N : Type 0} → Bool → Notice N → Message N
notice_message alerting n =
    let parts : Backward _ = record { may_divert = false; notice = Some n; restriction = None } in
    cond alerting (message.CallProgress progress.Progress parts) (message.AddressComplete status.NoIndication parts)

-- the original called number is the one received, or at the first diversion the redirecting number
abbrev pub original_of : {N : Type 0} → Option (Redirection N) → Party N → Party N
original_of None p = p
original_of (Some r) p = r.original

-- the strictest option so far, as the redirection received tells it
abbrev pub strictest_in : {N : Type 0} → Option (Redirection N) → Option NotificationOption
strictest_in None = None
strictest_in (Some r) = Some (indicated_option r.information.indicator)

-- what the address of leg k+1 says of the diversions: the redirecting number, restricted unless the party's own number
-- may be told; the original called number; the indicator of the strictest option so far, the count k+1, the reason
abbrev pub redirection_for : {N : Type 0} → ℕ → Leg N → Bool → Kind → Record N → Redirection N
redirection_for k l alerting w r =
    let party : Party _ = record { number = l.called; restricted = not r.may_release } in
    record {
      redirecting = party;
      original = original_of l.redirection party;
      information = record { indicator = indicator_for (strictest_with (strictest_in l.redirection) r.option); count = count_of (suc k); reason = reason_of w alerting };
    }

-- leg k+1, from the far exchange of leg k to the target's
abbrev pub next_leg : {N : Type 0} → ℕ → Leg N → Bool → Kind → Record N → N → Exchange → Leg N
next_leg k l alerting w r target x = record { near = l.far; far = x; state = Sent; called = target; redirection = Some (redirection_for k l alerting w r) }
