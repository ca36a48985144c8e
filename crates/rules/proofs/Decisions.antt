-- What is to be shown of each accepted request, so as to have it of every decision and every outcome.
use Rattle.std.proofs.Common.{Ok, Err, is_some, ◌≡◌, ℕ, ◌-◌, ◌<◌, Bool, true, false, not, ◌&&◌, ◌||◌, ltb, leb, List, [], ◌∷◌, length, Some, None, Option, refl}
use Rattle.std.proofs.lemmas.Bool.{cond_both, false≢true, ltb-true}
use Rattle.std.specs.List.{slice_get}
use Rattle.waiting.specs.Items.{earliest, without_earliest}
use Rattle.isup.specs.Ranges.{Exchange, exchange_in}
use Rattle.isup.specs.declared.message.Service.{Service}
use Rattle.numbers.specs.declared.refusal.Refusal.{Refusal}
use Rattle.numbers.specs.declared.refusal.Refusal.TheVariants.{OutOfRange, NoRoute, CallInUse, NothingWaits, OtherState, NoDeflection, LimitReached, CallerUp, MessagesWait, Full}
use Rattle.options.specs.declared.record.Record.{Record}
use Rattle.rules.specs.declared.leg.Leg.{Leg}
use Rattle.rules.specs.declared.request.Request.{Request}
use Rattle.rules.specs.declared.request.LineEvent.{LineEvent}
use Rattle.rules.specs.declared.request.Request.TheVariants.{Open, Step, Report, Deflect, HangUp, Clear}
use Rattle.rules.specs.Effects.{reported, diverts, Effect, hangs_up}
use Rattle.rules.specs.Parts.{at, Setup, Meaning, line_event, is_offered, Signal, is_alerting, State, Call}
use Rattle.rules.specs.Requests.{between, Done, signals_for, decide, is_empty, takes, first_leg, affects, need, clears, Decision, require, opens}
use Rattle.rules.specs.Runs.{settles, Outcome, refusal, outcome}
use Rattle.rules.proofs.Basics.{earliest_splits, Splits}
use Rattle.options.specs.declared.record.Kind.TheVariants as kind

-- a decision is a refusal, or does what is asked of it
abbrev pub Decides : {N : Type 0} → (Done N → Type 0) → Decision N → Type 0
Decides P (Err r) = Unit {0}
Decides P (Ok d) = P d

pub record Accepting {N : Type 0} (s : Setup N) (m : Meaning N) (g : State N) (Q : Request N → Done N → Type 0) : Type 0 where
  pub at_opening : (c x : ℕ) (n : N) (sv : Service) (y z : Exchange) → c < 64 → exchange_in x ≡ Some y → at g.calls c ≡ None → s.route n ≡ Some z → Q (Open c x n sv) (opens g c sv (first_leg y n z))
  pub at_step : (a b : ℕ) (e : Signal N) (o : Option (Call N)) → Splits a b g.waiting e → at g.calls e.call ≡ o → Q (Step a b) (takes s m g e (without_earliest (between a b) g.waiting) o)
  pub at_event : (c k n : ℕ) (ev : LineEvent) (d : Call N) (l : Leg N) (f : Effect N) → line_event n ≡ Some ev → at g.calls c ≡ Some d → slice_get d.legs k ≡ Some l → reported s m c k d l ev ≡ Some f → Q (Report c k n) (affects g c f)
  pub at_deflection : (c k : ℕ) (t : N) (d : Call N) (l : Leg N) (r : Record N) (x : Exchange) → at g.calls c ≡ Some d → slice_get d.legs k ≡ Some l → (is_offered l.state || is_alerting l.state) ≡ true →
      m.held l.called d.service kind.Deflection ≡ Some r → k < s.limit → s.route t ≡ Some x → Q (Deflect c k t) (affects g c (diverts c k d l (is_alerting l.state) kind.Deflection r t x))
  pub at_hanging : (c : ℕ) (d : Call N) → at g.calls c ≡ Some d → d.up ≡ true → Q (HangUp c) (affects g c (hangs_up c d))
  pub at_clearing : (c : ℕ) (d : Call N) → at g.calls c ≡ Some d → signals_for c g.waiting ≡ [] → Q (Clear c) (clears g c)

nil_is : {A : Type 0} (xs : List A) → is_empty xs ≡ true → xs ≡ []
nil_is [] e = refl
nil_is (x ∷ xs) e = absurd (false≢true e)

not_given : {A : Type 0} (o : Option A) → not (is_some o) ≡ true → o ≡ None
not_given None e = refl
not_given (Some a) e = absurd (false≢true e)

-- refusals are passed over
at_need : {N : Type 0} {A : Type 0} (P : Done N → Type 0) (r : Refusal) (o : Option A) (f : A → Decision N) → ((a : A) → o ≡ Some a → Decides P (f a)) → Decides P (need r o f)
at_need P r None f h = tt
at_need P r (Some a) f h = h a refl

at_require : {N : Type 0} (P : Done N → Type 0) (r : Refusal) (b : Bool) (d : Decision N) → (b ≡ true → Decides P d) → Decides P (require r b d)
at_require P r true d h = h refl
at_require P r false d h = tt

-- the room that a decision asks for
abbrev pub Room : {N : Type 0} → State N → Done N → Type 0
Room g d = leb (length d.sent) (g.capacity - length d.left) ≡ true

pub settled : {N : Type 0} (P : Done N → Type 0) (g : State N) (R : Outcome N → Type 0) → ((r : Refusal) → R (refusal g r)) → ((d : Done N) → P d → Room g d → R (outcome g d)) →
    (d : Decision N) → Decides P d → R (settles g d)
settled P g R nay yea (Err r) h = nay r
settled P g R nay yea (Ok d) h = cond_both (leb (length d.sent) (g.capacity - length d.left)) (outcome g d) (refusal g Full) R (λ e. yea d h e) (λ _. nay Full)

pub decided : {N : Type 0} (s : Setup N) (m : Meaning N) (g : State N) (Q : Request N → Done N → Type 0) → Accepting s m g Q → (q : Request N) → Decides (Q q) (decide s m g q)
decided s m g Q h (Open c x n sv) =
    at_require (Q (Open c x n sv)) OutOfRange (ltb c 64) _ (λ lt.
    at_need (Q (Open c x n sv)) OutOfRange (exchange_in x) _ (λ y ey.
    at_require (Q (Open c x n sv)) CallInUse (not (is_some (at g.calls c))) _ (λ e.
    at_need (Q (Open c x n sv)) NoRoute (s.route n) _ (λ z ez.
    h.at_opening c x n sv y z (ltb-true c 64 lt) ey (not_given (at g.calls c) e) ez))))
decided s m g Q h (Step a b) =
    at_require (Q (Step a b)) OutOfRange (ltb a 8 && ltb b 8) _ (λ _.
    at_need (Q (Step a b)) NothingWaits (earliest (between a b) g.waiting) _ (λ e ee.
    h.at_step a b e (at g.calls e.call) (earliest_splits a b g.waiting e ee) refl))
decided s m g Q h (Report c k n) =
    at_require (Q (Report c k n)) OutOfRange (ltb c 64 && ltb k 6) _ (λ _.
    at_need (Q (Report c k n)) OutOfRange (line_event n) _ (λ ev ee.
    at_need (Q (Report c k n)) OtherState (at g.calls c) _ (λ d ed.
    at_need (Q (Report c k n)) OtherState (slice_get d.legs k) _ (λ l el.
    at_need (Q (Report c k n)) OtherState (reported s m c k d l ev) _ (λ f ef.
    h.at_event c k n ev d l f ee ed el ef)))))
decided s m g Q h (Deflect c k t) =
    at_require (Q (Deflect c k t)) OutOfRange (ltb c 64 && ltb k 6) _ (λ _.
    at_need (Q (Deflect c k t)) OtherState (at g.calls c) _ (λ d ed.
    at_need (Q (Deflect c k t)) OtherState (slice_get d.legs k) _ (λ l el.
    at_require (Q (Deflect c k t)) OtherState (is_offered l.state || is_alerting l.state) _ (λ live.
    at_need (Q (Deflect c k t)) NoDeflection (m.held l.called d.service kind.Deflection) _ (λ r er.
    at_require (Q (Deflect c k t)) LimitReached (ltb k s.limit) _ (λ lt.
    at_need (Q (Deflect c k t)) NoRoute (s.route t) _ (λ x ex.
    h.at_deflection c k t d l r x ed el live er (ltb-true k s.limit lt) ex)))))))
decided s m g Q h (HangUp c) =
    at_require (Q (HangUp c)) OutOfRange (ltb c 64) _ (λ _.
    at_need (Q (HangUp c)) OtherState (at g.calls c) _ (λ d ed.
    at_require (Q (HangUp c)) OtherState d.up _ (λ up.
    h.at_hanging c d ed up)))
decided s m g Q h (Clear c) =
    at_need (Q (Clear c)) OtherState (at g.calls c) _ (λ d ed.
    at_require (Q (Clear c)) CallerUp (not d.up) _ (λ _.
    at_require (Q (Clear c)) MessagesWait (is_empty (signals_for c g.waiting)) _ (λ e.
    h.at_clearing c d ed (nil_is (signals_for c g.waiting) e))))
