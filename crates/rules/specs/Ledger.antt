-- The ledger: an account of each open call, kept by someone who sees of each call of the network its arguments, the
-- store's meaning at that moment, whether it was refused and, of a step, the type and circuit of the message taken. It
-- never looks at the records of legs.
use Rattle.std.specs.Prelude.{ℕ, zero, suc, Bool, true, false, cond, ◌&&◌, List, [], ◌∷◌, ◌++◌, take, Some, None, Option, ◌==◌, nat_lt}
use Rattle.std.specs.List.{slice_get}
use Rattle.isup.specs.Ranges.{Exchange}
use Rattle.isup.specs.declared.message.Service.{Service}
use Rattle.options.specs.declared.record.Kind.{Kind}
use Rattle.options.specs.declared.record.Kind.TheVariants as kind
use Rattle.options.specs.declared.record.NotificationOption.{NotificationOption}
use Rattle.options.specs.declared.record.Record.{Record}
use Rattle.rules.specs.declared.request.LineEvent.{LineEvent}
use Rattle.rules.specs.declared.request.LineEvent.TheVariants as event
use Rattle.rules.specs.declared.request.Request.{Request}
use Rattle.rules.specs.declared.request.Request.TheVariants.{Open, Step, Report, Deflect, HangUp, Clear}
use Rattle.rules.specs.Parts.{Setup, Meaning, line_event}

-- what is seen of the message that a step takes: whether it is an initial address, and its circuit
pub record Taken : Type 0 where
  pub initial : Bool
  pub call : ℕ
  pub leg : ℕ

-- all that is seen of a call of the network
pub record Observation (N : Type 0) : Type 0 where
  pub request : Request N
  pub meaning : Meaning N
  pub refused : Bool
  pub taken : Option Taken

-- a number of a chain; the option and the release mark of the record that diverted to it (none with number 0); and its
-- withheld mark at the accepted events 3 and 5 of its leg
pub record Link (N : Type 0) : Type 0 where
  pub number : N
  pub option : Option NotificationOption
  pub released : Option Bool
  pub alerted : Option Bool
  pub answered : Option Bool

-- the account of an open call: the exchange that it was opened from, its service, and its chain, whose number 0 is the dialled one
pub record Account (N : Type 0) : Type 0 where
  pub caller : ℕ
  pub service : Service
  pub chain : List (Link N)

-- an account for each open call
abbrev pub Ledger : Type 0 → Type 0
Ledger N = ℕ → Option (Account N)

-- no call is open
abbrev pub blank : {N : Type 0} → Ledger N
blank c = None

-- one account is replaced
abbrev pub written : {N : Type 0} → Ledger N → ℕ → Option (Account N) → Ledger N
written L c a j = cond (j == c) a (L j)

-- the account with another chain
abbrev pub with_chain : {N : Type 0} → Account N → List (Link N) → Account N
with_chain a xs = record { caller = a.caller; service = a.service; chain = xs }

-- Additions. What is added to a chain: number leg+1, which number leg diverts to by a record of a kind
pub record Addition (N : Type 0) : Type 0 where
  pub call : ℕ
  pub leg : ℕ
  pub kind : Kind
  pub by : Record N
  pub target : N

-- whether there is a route
abbrev pub routed : Option Exchange → Bool
routed None = false
routed (Some x) = true

-- number k diverts by a record if k is below the limit and the record's target has a route
abbrev pub added_by : {N : Type 0} → Setup N → Kind → ℕ → ℕ → Option (Record N) → Option (Addition N)
added_by s w c k None = None
added_by s w c k (Some r) = cond (nat_lt k s.limit && routed (s.route r.target)) (Some (record { call = c; leg = k; kind = w; by = r; target = r.target })) None

-- by the record then held for it and the service
abbrev pub added_for : {N : Type 0} → Setup N → Meaning N → Kind → ℕ → ℕ → Service → Option (Link N) → Option (Addition N)
added_for s m w c k service None = None
added_for s m w c k service (Some x) = added_by s w c k (m.held x.number service w)

-- only an open call has numbers
abbrev pub added_in : {N : Type 0} → Setup N → Meaning N → Kind → ℕ → ℕ → Option (Account N) → Option (Addition N)
added_in s m w c k None = None
added_in s m w c k (Some a) = added_for s m w c k a.service (slice_get a.chain k)

-- U diverts when a step takes leg k's initial address
abbrev pub added_at_step : {N : Type 0} → Setup N → Ledger N → Meaning N → Option Taken → Option (Addition N)
added_at_step s L m None = None
added_at_step s L m (Some t) = cond t.initial (added_in s m kind.Unconditional t.call t.leg (L t.call)) None

-- B diverts at events 1 and 2, N at event 4
abbrev pub added_at_event : {N : Type 0} → Setup N → Ledger N → Meaning N → ℕ → ℕ → Option LineEvent → Option (Addition N)
added_at_event s L m c k None = None
added_at_event s L m c k (Some event.BusyNetwork) = added_in s m kind.Busy c k (L c)
added_at_event s L m c k (Some event.BusyUser) = added_in s m kind.Busy c k (L c)
added_at_event s L m c k (Some event.Alerting) = None
added_at_event s L m c k (Some event.NoReply) = added_in s m kind.NoReply c k (L c)
added_at_event s L m c k (Some event.Answer) = None
added_at_event s L m c k (Some event.HangsUp) = None

-- D diverts to the target named
abbrev pub deflected_by : {N : Type 0} → ℕ → ℕ → N → Option (Record N) → Option (Addition N)
deflected_by c k t None = None
deflected_by c k t (Some r) = Some (record { call = c; leg = k; kind = kind.Deflection; by = r; target = t })

-- by the D record then held for number k and the service
abbrev pub deflected_for : {N : Type 0} → Meaning N → ℕ → ℕ → N → Service → Option (Link N) → Option (Addition N)
deflected_for m c k t service None = None
deflected_for m c k t service (Some x) = deflected_by c k t (m.held x.number service kind.Deflection)

-- of an open call
abbrev pub deflected_in : {N : Type 0} → Meaning N → ℕ → ℕ → N → Option (Account N) → Option (Addition N)
deflected_in m c k t None = None
deflected_in m c k t (Some a) = deflected_for m c k t a.service (slice_get a.chain k)

-- what a request adds if it is not refused
abbrev pub adds : {N : Type 0} → Setup N → Ledger N → Meaning N → Option Taken → Request N → Option (Addition N)
adds s L m t (Open c x n service) = None
adds s L m t (Step a b) = added_at_step s L m t
adds s L m t (Report c k n) = added_at_event s L m c k (line_event n)
adds s L m t (Deflect c k n) = deflected_in m c k n (L c)
adds s L m t (HangUp c) = None
adds s L m t (Clear c) = None

-- a refused request adds nothing
abbrev pub addition : {N : Type 0} → Setup N → Ledger N → Observation N → Option (Addition N)
addition s L o = cond o.refused None (adds s L o.meaning o.taken o.request)

-- the target, with the option and the release mark of the record
abbrev pub new_link : {N : Type 0} → Addition N → Link N
new_link a = record { number = a.target; option = Some a.by.option; released = Some a.by.may_release; alerted = None; answered = None }

-- the addition is number leg+1: it follows numbers 0 to leg
abbrev pub extended : {N : Type 0} → Addition N → Account N → Account N
extended a x = with_chain x (take (suc a.leg) x.chain ++ (new_link a ∷ []))

-- only an open call's chain grows
abbrev pub extended_in : {N : Type 0} → Addition N → Option (Account N) → Option (Account N)
extended_in a None = None
extended_in a (Some x) = Some (extended a x)

-- the ledger with an addition
abbrev pub with_addition : {N : Type 0} → Ledger N → Option (Addition N) → Ledger N
with_addition L None = L
with_addition L (Some a) = written L a.call (extended_in a (L a.call))

-- Marks. A number's withheld mark is kept at events 3 and 5
abbrev pub marked_link : {N : Type 0} → Meaning N → Option LineEvent → Link N → Link N
marked_link m None x = x
marked_link m (Some event.BusyNetwork) x = x
marked_link m (Some event.BusyUser) x = x
marked_link m (Some event.Alerting) x = record { number = x.number; option = x.option; released = x.released; alerted = Some (m.withheld x.number); answered = x.answered }
marked_link m (Some event.NoReply) x = x
marked_link m (Some event.Answer) x = record { number = x.number; option = x.option; released = x.released; alerted = x.alerted; answered = Some (m.withheld x.number) }
marked_link m (Some event.HangsUp) x = x

-- at leg k's event, number k's
abbrev pub marked_chain : {N : Type 0} → Meaning N → Option LineEvent → List (Link N) → ℕ → List (Link N)
marked_chain m ev [] k = []
marked_chain m ev (x ∷ xs) zero = marked_link m ev x ∷ xs
marked_chain m ev (x ∷ xs) (suc k) = x ∷ marked_chain m ev xs k

-- in the account of an open call
abbrev pub marked_in : {N : Type 0} → Meaning N → Option LineEvent → ℕ → Option (Account N) → Option (Account N)
marked_in m ev k None = None
marked_in m ev k (Some a) = Some (with_chain a (marked_chain m ev a.chain k))

-- The account of a call just opened
abbrev pub first_account : {N : Type 0} → ℕ → Service → N → Account N
first_account x service n = record { caller = x; service = service; chain = record { number = n; option = None; released = None; alerted = None; answered = None } ∷ [] }

-- what an accepted request does to the ledger besides an addition: opening writes an account, clearing strikes it out, events mark
abbrev pub keeps : {N : Type 0} → Ledger N → Meaning N → Request N → Ledger N
keeps L m (Open c x n service) = written L c (Some (first_account x service n))
keeps L m (Step a b) = L
keeps L m (Report c k n) = written L c (marked_in m (line_event n) k (L c))
keeps L m (Deflect c k n) = L
keeps L m (HangUp c) = L
keeps L m (Clear c) = written L c None

-- the ledger after a call of the network
unfoldable pub advance : {N : Type 0} → Setup N → Ledger N → Observation N → Ledger N
advance s L o = cond o.refused L (with_addition (keeps L o.meaning o.request) (addition s L o))
