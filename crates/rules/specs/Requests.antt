-- What each call of the network does: a refusal, in the order of the tests, or what changes, is taken, sent and answered.
use Rattle.std.specs.Prelude.{Ok, Err, Result, is_some, ℕ, Bool, true, false, cond, not, ◌&&◌, ◌||◌, List, [], ◌∷◌, Some, None, Option, ◌==◌, nat_lt, slice_set}
use Rattle.std.specs.List.{slice_get}
use Rattle.numbers.specs.declared.refusal.Refusal.{Refusal}
use Rattle.numbers.specs.declared.refusal.Refusal.TheVariants.{OutOfRange, NoRoute, CallInUse, NothingWaits, OtherState, NoDeflection, LimitReached, CallerUp, MessagesWait}
use Rattle.isup.specs.Ranges.{Exchange, exchange_in}
use Rattle.isup.specs.declared.message.Service.{Service}
use Rattle.options.specs.declared.record.Kind.TheVariants.{Deflection}
use Rattle.waiting.specs.Items.{earliest, without_earliest}
use Rattle.rules.specs.declared.leg.Leg.{Leg}
use Rattle.rules.specs.declared.leg.LegState.TheVariants.{Sent}
use Rattle.rules.specs.declared.request.Granted.TheVariants as granted
use Rattle.rules.specs.declared.request.Request.{Request}
use Rattle.rules.specs.declared.request.Request.TheVariants.{Open, Step, Report, Deflect, HangUp, Clear}
use Rattle.rules.specs.Parts.{Answer, Setup, Meaning, Call, Signal, State, at, line_event, is_offered, is_alerting}
use Rattle.rules.specs.Messages.{initial_of}
use Rattle.rules.specs.Effects.{Effect, diverts, arrives, reported, hangs_up}

-- what is done: the calls after it, the signal taken, those left waiting, those sent, and the answer
pub record Done (N : Type 0) : Type 0 where
  pub calls : List (Option (Call N))
  pub taken : Option (Signal N)
  pub left : List (Signal N)
  pub sent : List (Signal N)
  pub answer : Answer N

-- a request is accepted, with what is done, or refused
abbrev pub Decision : Type 0 → Type 0
Decision N = Result (Done N) Refusal

-- refused unless there is one
abbrev pub need : {N A : Type 0} → Refusal → Option A → (A → Decision N) → Decision N
need r None f = Err r
need r (Some a) f = f a

-- refused unless the test holds
abbrev pub require : {N : Type 0} → Refusal → Bool → Decision N → Decision N
require r b d = cond b d (Err r)

-- an effect on call c, with nothing taken
abbrev pub affects : {N : Type 0} → State N → ℕ → Effect N → Done N
affects g c f = record { calls = slice_set g.calls c (Some f.call); taken = None; left = g.waiting; sent = f.sent; answer = Ok granted.Done }

-- Opening. Leg 0 goes from the caller's exchange to that of the dialled number
abbrev pub first_leg : {N : Type 0} → Exchange → N → Exchange → Leg N
first_leg x n y = record { near = x; far = y; state = Sent; called = n; redirection = None }

-- the caller is up, and keeps nothing yet
abbrev pub opened_with : {N : Type 0} → Service → Leg N → Call N
opened_with service l = record { up = true; service = service; strictest = None; kept = None; legs = l ∷ [] }

-- leg 0's initial address is sent
abbrev pub opens : {N : Type 0} → State N → ℕ → Service → Leg N → Done N
opens g c service l = record { calls = slice_set g.calls c (Some (opened_with service l)); taken = None; left = g.waiting; sent = initial_of c 0 service l ∷ []; answer = Ok (granted.Opened c) }

-- Stepping. Whether a signal goes from exchange a to exchange b
abbrev pub between : {N : Type 0} → ℕ → ℕ → Signal N → Bool
between a b e = e.from == a && e.to == b

-- a signal is taken; one for a call that is not open does nothing more
abbrev pub takes : {N : Type 0} → Setup N → Meaning N → State N → Signal N → List (Signal N) → Option (Call N) → Done N
takes s m g e left None = record { calls = g.calls; taken = Some e; left = left; sent = []; answer = Ok (granted.Stepped None) }
takes s m g e left (Some d) =
    let f : Effect _ = arrives s m e d in
    record { calls = slice_set g.calls e.call (Some f.call); taken = Some e; left = left; sent = f.sent; answer = Ok (granted.Stepped f.note) }

-- Clearing. The signals of a call, in order
abbrev pub signals_for : {N : Type 0} → ℕ → List (Signal N) → List (Signal N)
signals_for c [] = []
signals_for c (e ∷ es) = cond (e.call == c) (e ∷ signals_for c es) (signals_for c es)

-- whether there are none
abbrev pub is_empty : {A : Type 0} → List A → Bool
is_empty [] = true
is_empty (x ∷ xs) = false

-- the call is struck out
abbrev pub clears : {N : Type 0} → State N → ℕ → Done N
clears g c = record { calls = slice_set g.calls c None; taken = None; left = g.waiting; sent = []; answer = Ok granted.Done }

-- each request with its refusals in their order; want of room is judged afterwards, for all of them alike
abbrev pub decide : {N : Type 0} → Setup N → Meaning N → State N → Request N → Decision N
decide s m g (Open c x n service) =
    require OutOfRange (nat_lt c 64)
    (need OutOfRange (exchange_in x) (λ x.
    require CallInUse (not (is_some (at g.calls c)))
    (need NoRoute (s.route n) (λ y.
    Ok (opens g c service (first_leg x n y))))))
decide s m g (Step a b) =
    require OutOfRange (nat_lt a 8 && nat_lt b 8)
    (need NothingWaits (earliest (between a b) g.waiting) (λ e.
    Ok (takes s m g e (without_earliest (between a b) g.waiting) (at g.calls e.call))))
decide s m g (Report c k n) =
    require OutOfRange (nat_lt c 64 && nat_lt k 6)
    (need OutOfRange (line_event n) (λ ev.
    need OtherState (at g.calls c) (λ d.
    need OtherState (slice_get d.legs k) (λ l.
    need OtherState (reported s m c k d l ev) (λ f.
    Ok (affects g c f))))))
decide s m g (Deflect c k t) =
    require OutOfRange (nat_lt c 64 && nat_lt k 6)
    (need OtherState (at g.calls c) (λ d.
    need OtherState (slice_get d.legs k) (λ l.
    require OtherState (is_offered l.state || is_alerting l.state)
    (need NoDeflection (m.held l.called d.service Deflection) (λ r.
    require LimitReached (nat_lt k s.limit)
    (need NoRoute (s.route t) (λ x.
    Ok (affects g c (diverts c k d l (is_alerting l.state) Deflection r t x)))))))))
decide s m g (HangUp c) =
    require OutOfRange (nat_lt c 64)
    (need OtherState (at g.calls c) (λ d.
    require OtherState d.up
    (Ok (affects g c (hangs_up c d)))))
decide s m g (Clear c) =
    need OtherState (at g.calls c) (λ d.
    require CallerUp (not d.up)
    (require MessagesWait (is_empty (signals_for c g.waiting))
    (Ok (clears g c))))
