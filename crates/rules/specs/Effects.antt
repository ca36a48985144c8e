-- What happens to one call: when a message reaches an end of one of its legs, when a line reports, when the caller hangs up.
use Rattle.std.specs.Prelude.{is_some, ℕ, zero, suc, Bool, true, false, cond, ◌&&◌, ◌||◌, List, [], ◌∷◌, ◌++◌, Some, None, Option, ◌==◌, nat_lt, slice_set}
use Rattle.std.specs.List.{slice_get}
use Rattle.isup.specs.Ranges.{Cause, Exchange}
use Rattle.isup.specs.declared.message.LineStatus.TheVariants.{Free}
use Rattle.isup.specs.declared.message.Message.{Message}
use Rattle.isup.specs.declared.message.Message.TheVariants as message
use Rattle.isup.specs.declared.message.Notice.{Notice}
use Rattle.isup.specs.declared.message.Redirection.{Redirection}
use Rattle.isup.specs.declared.message.Restriction.{Restriction}
use Rattle.isup.specs.declared.message.Restriction.TheVariants.{Allowed, Restricted}
use Rattle.isup.specs.declared.message.Way.{Way}
use Rattle.isup.specs.declared.message.Way.TheVariants.{Forward, Back}
use Rattle.options.specs.declared.record.Kind.{Kind}
use Rattle.options.specs.declared.record.Kind.TheVariants as kind
use Rattle.options.specs.declared.record.NotificationOption.{NotificationOption}
use Rattle.options.specs.declared.record.NotificationOption.TheVariants.{NotAllowed, WithNumber, WithoutNumber}
use Rattle.options.specs.declared.record.Record.{Record}
use Rattle.rules.specs.declared.arrival.Arrival.{Arrival}
use Rattle.rules.specs.declared.arrival.Arrival.TheVariants as arrival
use Rattle.rules.specs.declared.arrival.Indication.{Indication}
use Rattle.rules.specs.declared.leg.Leg.{Leg}
use Rattle.rules.specs.declared.leg.LegState.{LegState}
use Rattle.rules.specs.declared.leg.LegState.TheVariants.{Offered, Alerting, Diverted, Answered, Ended}
use Rattle.rules.specs.declared.note.Note.{Note}
use Rattle.rules.specs.declared.note.NoteKind.TheVariants.{Release}
use Rattle.rules.specs.declared.request.LineEvent.{LineEvent}
use Rattle.rules.specs.declared.request.LineEvent.TheVariants as event
use Rattle.rules.specs.Parts.{Setup, Meaning, Call, Signal, is_sent, is_offered, is_alerting, is_diverted, is_answered, is_ended}
use Rattle.rules.specs.Strictness.{strictest_with, told_option}
use Rattle.rules.specs.Messages.{along, back, release_with, initial_of, arrival_of, relayed, note_kind_of, notice_of, restriction_of, restriction_at, notice_for, notice_message, next_leg}

-- what happens to a call: its new record, what is sent, in order, and the caller's note
pub record Effect (N : Type 0) : Type 0 where
  pub call : Call N
  pub sent : List (Signal N)
  pub note : Option (Note N)

-- nothing happens
abbrev pub unchanged : {N : Type 0} → Call N → Effect N
unchanged d = record { call = d; sent = []; note = None }

-- the leg, in another state
abbrev pub in_state : {N : Type 0} → LegState → Leg N → Leg N
in_state t l = record { near = l.near; far = l.far; state = t; called = l.called; redirection = l.redirection }

-- the call, with other legs
abbrev pub with_legs : {N : Type 0} → Call N → List (Leg N) → Call N
with_legs d ls = record { up = d.up; service = d.service; strictest = d.strictest; kept = d.kept; legs = ls }

-- the call, its caller no longer up
abbrev pub down : {N : Type 0} → Call N → Call N
down d = record { up = false; service = d.service; strictest = d.strictest; kept = d.kept; legs = d.legs }

-- leg k takes a state and a message goes back along it
abbrev pub sends_back : {N : Type 0} → ℕ → ℕ → Call N → Leg N → LegState → Message N → Effect N
sends_back c k d l t m = record { call = with_legs d (slice_set d.legs k (in_state t l)); sent = back c k l m ∷ []; note = None }

-- leg k ends and a release goes back along it
abbrev pub ends_leg : {N : Type 0} → ℕ → ℕ → Call N → Leg N → Message N → Effect N
ends_leg c k d l release = sends_back c k d l Ended release

-- Diverting. A record that leg k may be diverted by, and the exchange of its target
pub record Usable (N : Type 0) : Type 0 where
  pub by : Record N
  pub exchange : Exchange

-- k has to be below the limit, and the target has to have a route
abbrev pub usable_to : {N : Type 0} → Setup N → ℕ → Record N → Option Exchange → Option (Usable N)
usable_to s k r None = None
usable_to s k r (Some x) = cond (nat_lt k s.limit) (Some (record { by = r; exchange = x })) None

-- the record held, if there is one and it may be used
abbrev pub usable_record : {N : Type 0} → Setup N → ℕ → Option (Record N) → Option (Usable N)
usable_record s k None = None
usable_record s k (Some r) = usable_to s k r (s.route r.target)

-- the record of a kind that the called number of leg k holds for the call's service, if it may be used
abbrev pub usable_held : {N : Type 0} → Setup N → Meaning N → ℕ → Call N → Leg N → Kind → Option (Usable N)
usable_held s m k d l w = usable_record s k (m.held l.called d.service w)

-- leg k becomes diverted and leg k+1 sent; first the notice goes back, then the initial address forward
abbrev pub diverts : {N : Type 0} → ℕ → ℕ → Call N → Leg N → Bool → Kind → Record N → N → Exchange → Effect N
diverts c k d l alerting w r target x =
    let next : Leg _ = next_leg k l alerting w r target x in
    record {
      call = with_legs d (slice_set d.legs k (in_state Diverted l) ++ (next ∷ []));
      sent = back c k l (notice_message alerting (notice_for alerting w r target)) ∷ initial_of c (suc k) d.service next ∷ [];
      note = None;
    }

-- a diversion by a record that may be used, to its target; without one, something else
abbrev pub diverts_or : {N : Type 0} → Effect N → ℕ → ℕ → Call N → Leg N → Bool → Kind → Option (Usable N) → Effect N
diverts_or other c k d l alerting w None = other
diverts_or other c k d l alerting w (Some u) = diverts c k d l alerting w u.by u.by.target u.exchange

-- An initial address. The leg is offered, with the redirection that came
abbrev pub offered_with : {N : Type 0} → Leg N → Option (Redirection N) → Leg N
offered_with l r = record { near = l.near; far = l.far; state = Offered; called = l.called; redirection = r }

-- it stays so without an unconditional record; with one it is diverted, or where that cannot be, released with cause 21
abbrev pub offers : {N : Type 0} → Setup N → ℕ → ℕ → Call N → Leg N → Option (Record N) → Effect N
offers s c k d l None = record { call = with_legs d (slice_set d.legs k l); sent = []; note = None }
offers s c k d l (Some r) = diverts_or (ends_leg c k d l (release_with 21)) c k d l false kind.Unconditional (usable_record s k (Some r))

-- Releases. One goes forward along leg k, if there is such a leg
abbrev pub release_along : {N : Type 0} → ℕ → ℕ → Option (Leg N) → Message N → List (Signal N)
release_along c k None release = []
release_along c k (Some l) release = along c k l release ∷ []

-- a release forward ends leg k's far end; where that was diverted it goes on along the next leg
abbrev pub releases_forward : {N : Type 0} → ℕ → ℕ → Call N → Leg N → Cause → Effect N
releases_forward c k d l cause =
    record {
      call = with_legs d (slice_set d.legs k (in_state Ended l));
      sent = cond (is_diverted l.state) (release_along c (suc k) (slice_get d.legs (suc k)) (message.Release cause)) [];
      note = None;
    }

-- the caller is released: no longer up, with a note of the cause
abbrev pub releases_caller : {N : Type 0} → ℕ → Call N → Cause → Effect N
releases_caller c d cause = record { call = down d; sent = []; note = Some (record { call = c; kind = Release cause; diverted = false; shown = None }) }

-- a release that came back on leg j+1 goes on back along leg j, if that is diverted, and ends it
abbrev pub release_relayed : {N : Type 0} → ℕ → ℕ → Call N → Cause → Option (Leg N) → Effect N
release_relayed c j d cause None = unchanged d
release_relayed c j d cause (Some l) = cond (is_diverted l.state) (ends_leg c j d l (message.Release cause)) (unchanged d)

-- a release back on leg 0 reaches the caller, while up
abbrev pub releases_back : {N : Type 0} → ℕ → ℕ → Call N → Cause → Effect N
releases_back c zero d cause = cond d.up (releases_caller c d cause) (unchanged d)
releases_back c (suc j) d cause = release_relayed c j d cause (slice_get d.legs j)

-- The caller's end. The notice of a message counts in the strictest option before the note
abbrev pub strictest_after : {N : Type 0} → Option NotificationOption → Option (Notice N) → Option NotificationOption
strictest_after o None = o
strictest_after o (Some n) = Some (strictest_with o (told_option n.information.notification))

-- the last redirection number received is kept
abbrev pub kept_after : {N : Type 0} → Option N → Option (Notice N) → Option N
kept_after o None = o
kept_after o (Some n) = Some n.number

-- the caller may be told of a diversion where the strictest option is 2 or 3
abbrev pub tells_diversion : Option NotificationOption → Bool
tells_diversion None = false
tells_diversion (Some NotAllowed) = false
tells_diversion (Some WithNumber) = true
tells_diversion (Some WithoutNumber) = true

-- the number kept is shown where the strictest option is 2 and the message says that it may be shown
abbrev pub shows_number : Option NotificationOption → Option Restriction → Bool
shows_number None r = false
shows_number (Some NotAllowed) r = false
shows_number (Some WithoutNumber) r = false
shows_number (Some WithNumber) None = false
shows_number (Some WithNumber) (Some Restricted) = false
shows_number (Some WithNumber) (Some Allowed) = true

-- the caller's end keeps what the notice says, and gives a note
abbrev pub informs_caller : {N : Type 0} → ℕ → Call N → Indication N → Effect N
informs_caller c d t =
    let strictest : Option NotificationOption = strictest_after d.strictest (notice_of t) in
    let kept : Option _ = kept_after d.kept (notice_of t) in
    record {
      call = record { up = d.up; service = d.service; strictest = strictest; kept = kept; legs = d.legs };
      sent = [];
      note = Some (record {
        call = c;
        kind = note_kind_of t;
        diverted = is_some (notice_of t) && tells_diversion strictest;
        shown = cond (shows_number strictest (restriction_of t)) kept None;
      });
    }

-- Indications. One that came back on leg j+1 goes on back along leg j, if that is diverted
abbrev pub relays : {N : Type 0} → ℕ → ℕ → Call N → Indication N → Option (Leg N) → Effect N
relays c j d t None = unchanged d
relays c j d t (Some l) = cond (is_diverted l.state) (record { call = d; sent = back c j l (relayed t) ∷ []; note = None }) (unchanged d)

-- one of leg 0 reaches the caller, while up
abbrev pub indicates : {N : Type 0} → ℕ → ℕ → Call N → Indication N → Effect N
indicates c zero d t = cond d.up (informs_caller c d t) (unchanged d)
indicates c (suc j) d t = relays c j d t (slice_get d.legs j)

-- What a message does at the end that it comes to. An address counts only at a leg that is sent, and nothing at a far end that has ended
abbrev pub receives : {N : Type 0} → Setup N → Meaning N → ℕ → ℕ → Call N → Leg N → Option (Arrival N) → Effect N
receives s m c k d l None = unchanged d
receives s m c k d l (Some (arrival.Address r)) = cond (is_sent l.state) (offers s c k d (offered_with l r) (m.held l.called d.service kind.Unconditional)) (unchanged d)
receives s m c k d l (Some (arrival.ForwardRelease cause)) = cond (is_ended l.state) (unchanged d) (releases_forward c k d l cause)
receives s m c k d l (Some (arrival.Indicated t)) = indicates c k d t
receives s m c k d l (Some (arrival.BackwardRelease cause)) = releases_back c k d cause

-- a signal fits a leg if it goes between its two exchanges, the way that it says
abbrev pub fits : {N : Type 0} → Signal N → Leg N → Way → Bool
fits e l Forward = e.from == l.near.value && e.to == l.far.value
fits e l Back = e.from == l.far.value && e.to == l.near.value

-- a signal for a leg that is not there, or that does not fit it, does nothing
abbrev pub arrives_at : {N : Type 0} → Setup N → Meaning N → Signal N → Call N → Option (Leg N) → Effect N
arrives_at s m e d None = unchanged d
arrives_at s m e d (Some l) = cond (fits e l e.way) (receives s m e.call e.leg d l (arrival_of e.way e.message)) (unchanged d)

-- what a signal that is taken does to its call
abbrev pub arrives : {N : Type 0} → Setup N → Meaning N → Signal N → Call N → Effect N
arrives s m e d = arrives_at s m e d (slice_get d.legs e.leg)

-- Events of a line. 1 and 2: diverted by B, else released with cause 17
abbrev pub busy : {N : Type 0} → Setup N → Meaning N → ℕ → ℕ → Call N → Leg N → Effect N
busy s m c k d l = diverts_or (ends_leg c k d l (release_with 17)) c k d l false kind.Busy (usable_held s m k d l kind.Busy)

-- 3: address complete with the line free; a diversion may occur if N or D is active
abbrev pub alerts : {N : Type 0} → Meaning N → ℕ → ℕ → Call N → Leg N → Effect N
alerts m c k d l =
    let may : Bool = is_some (m.held l.called d.service kind.NoReply) || is_some (m.held l.called d.service kind.Deflection) in
    sends_back c k d l Alerting (message.AddressComplete Free (record { may_divert = may; notice = None; restriction = restriction_at m k l.called }))

-- 4: diverted by N, else nothing
abbrev pub replies_not : {N : Type 0} → Setup N → Meaning N → ℕ → ℕ → Call N → Leg N → Effect N
replies_not s m c k d l = diverts_or (unchanged d) c k d l true kind.NoReply (usable_held s m k d l kind.NoReply)

-- 5: connect from an offered leg, answer from an alerting one
abbrev pub answers : {N : Type 0} → Meaning N → ℕ → ℕ → Call N → Leg N → (Option Restriction → Message N) → Effect N
answers m c k d l connected = sends_back c k d l Answered (connected (restriction_at m k l.called))

-- each event in the states that it may be reported in; 6 releases with cause 16
abbrev pub reported : {N : Type 0} → Setup N → Meaning N → ℕ → ℕ → Call N → Leg N → LineEvent → Option (Effect N)
reported s m c k d l event.BusyNetwork = cond (is_offered l.state) (Some (busy s m c k d l)) None
reported s m c k d l event.BusyUser = cond (is_offered l.state) (Some (busy s m c k d l)) None
reported s m c k d l event.Alerting = cond (is_offered l.state) (Some (alerts m c k d l)) None
reported s m c k d l event.NoReply = cond (is_alerting l.state) (Some (replies_not s m c k d l)) None
reported s m c k d l event.Answer =
    cond (is_offered l.state) (Some (answers m c k d l message.Connect))
    (cond (is_alerting l.state) (Some (answers m c k d l message.Answer)) None)
reported s m c k d l event.HangsUp = cond (is_answered l.state) (Some (ends_leg c k d l (release_with 16))) None

-- The caller hangs up: a release with cause 16 goes along leg 0
abbrev pub hangs_up : {N : Type 0} → ℕ → Call N → Effect N
hangs_up c d = record { call = down d; sent = release_along c 0 (slice_get d.legs 0) (release_with 16); note = None }
