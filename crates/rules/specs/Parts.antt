-- What the rules speak of: set-up, stores, calls with their legs, signals, and the state of the network. Numbers are
-- of any type N: no rule looks into one.
use Rattle.std.specs.Prelude.{Result, ℕ, Bool, List, [], ◌∷◌, None, Option, ◌==◌, slice_index_or}
use Rattle.numbers.specs.declared.refusal.Refusal.{Refusal}
use Rattle.isup.specs.Codes.{with_code}
use Rattle.isup.specs.declared.message.Service.{Service}
use Rattle.isup.specs.Ranges.{Exchange}
use Rattle.isup.specs.declared.message.Way.{Way}
use Rattle.isup.specs.declared.message.Message.{Message}
use Rattle.isup.specs.declared.message.Envelope.{Envelope}
use Rattle.options.specs.declared.record.Kind.{Kind}
use Rattle.options.specs.declared.record.NotificationOption.{NotificationOption}
use Rattle.options.specs.declared.record.Record.{Record}
use Rattle.rules.specs.declared.leg.Leg.{Leg}
use Rattle.rules.specs.declared.leg.LegState.{LegState}
use Rattle.rules.specs.declared.leg.LegState.TheVariants as state
use Rattle.rules.specs.declared.request.Granted.{Granted}
use Rattle.rules.specs.declared.request.LineEvent.{LineEvent}
use Rattle.rules.specs.declared.request.LineEvent.TheVariants as event

-- the limit of diversions, and the exchange of each number that has a route
pub record Setup (N : Type 0) : Type 0 where
  pub limit : ℕ
  pub route : N → Option Exchange

-- what a store means: the record held for a number, a service and a kind, and whether a number is withheld
pub record Meaning (N : Type 0) : Type 0 where
  pub held : N → Service → Kind → Option (Record N)
  pub withheld : N → Bool

-- an open call: whether the caller is up, the service, what the caller's end keeps (the strictest option and the last
-- redirection number that it received), and the legs, leg 0 first
pub record Call (N : Type 0) : Type 0 where
  pub up : Bool
  pub service : Service
  pub strictest : Option NotificationOption
  pub kept : Option N
  pub legs : List (Leg N)

-- what the network answers: what it granted, or its refusal
abbrev pub Answer : Type 0 → Type 0
Answer N = Result (Granted N) Refusal

-- a message on its way, with the call and the leg that its circuit names
pub record Signal (N : Type 0) : Type 0 where
  pub from : ℕ
  pub to : ℕ
  pub way : Way
  pub call : ℕ
  pub leg : ℕ
  pub message : Message N

-- what an envelope signals
abbrev pub signal_of : {N : Type 0} → Envelope N → Signal N
signal_of e = record { from = e.from.value; to = e.to.value; way = e.way; call = e.circuit.call; leg = e.circuit.leg; message = e.message }

-- the network and its carrier: the 64 calls, how many signals may wait, and those that wait, the earliest first
pub record State (N : Type 0) : Type 0 where
  pub calls : List (Option (Call N))
  pub capacity : ℕ
  pub waiting : List (Signal N)

-- call c, if it is open
abbrev pub at : {A : Type 0} → List (Option A) → ℕ → Option A
at calls c = slice_index_or calls c None

-- the number of an event
abbrev pub event_number : LineEvent → ℕ
event_number event.BusyNetwork = 1
event_number event.BusyUser = 2
event_number event.Alerting = 3
event_number event.NoReply = 4
event_number event.Answer = 5
event_number event.HangsUp = 6

-- the event with a number from 1 to 6
abbrev pub line_event : ℕ → Option LineEvent
line_event n = with_code event_number (event.BusyNetwork ∷ event.BusyUser ∷ event.Alerting ∷ event.NoReply ∷ event.Answer ∷ event.HangsUp ∷ []) n

-- the states of a leg, numbered so that they can be compared
abbrev pub state_number : LegState → ℕ
state_number state.Sent = 0
state_number state.Offered = 1
state_number state.Alerting = 2
state_number state.Diverted = 3
state_number state.Answered = 4
state_number state.Ended = 5

-- whether a leg's state is this one
abbrev pub is_in : LegState → LegState → Bool
is_in t u = state_number u == state_number t

abbrev pub is_sent : LegState → Bool
is_sent u = is_in state.Sent u

abbrev pub is_offered : LegState → Bool
is_offered u = is_in state.Offered u

abbrev pub is_alerting : LegState → Bool
is_alerting u = is_in state.Alerting u

abbrev pub is_diverted : LegState → Bool
is_diverted u = is_in state.Diverted u

abbrev pub is_answered : LegState → Bool
is_answered u = is_in state.Answered u

abbrev pub is_ended : LegState → Bool
is_ended u = is_in state.Ended u
