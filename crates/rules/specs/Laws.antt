-- The laws of diverted initial addresses, of the limit, and of the numbers shown, said of a transcript and the ledger.
use Rattle.std.specs.Prelude.{Ok, Err, ◌≡◌, ℕ, suc, ◌<◌, ◌≤◌, max, Bool, true, false, cond, not, ◌&&◌, List, [], ◌∷◌, length, Some, None, Option, nat_lt}
use Rattle.std.specs.List.{slice_get}
use Rattle.numbers.specs.declared.number.Party.{Party}
use Rattle.isup.specs.declared.message.Backward.{Backward}
use Rattle.isup.specs.Ranges.{Count, Exchange}
use Rattle.isup.specs.declared.message.Event.TheVariants.{Progress}
use Rattle.isup.specs.declared.message.Indicator.{Indicator}
use Rattle.isup.specs.declared.message.Indicator.TheVariants as indicator
use Rattle.isup.specs.declared.message.LineStatus.TheVariants.{NoIndication}
use Rattle.isup.specs.declared.message.Message.{Message}
use Rattle.isup.specs.declared.message.Message.TheVariants as message
use Rattle.isup.specs.declared.message.Notice.{Notice}
use Rattle.isup.specs.declared.message.Notification.{Notification}
use Rattle.isup.specs.declared.message.Notification.TheVariants as notification
use Rattle.isup.specs.declared.message.Reason.{Reason}
use Rattle.isup.specs.declared.message.Reason.TheVariants as reason
use Rattle.isup.specs.declared.message.Service.{Service}
use Rattle.isup.specs.declared.message.Way.TheVariants.{Forward, Back}
use Rattle.options.specs.declared.record.Kind.{Kind}
use Rattle.options.specs.declared.record.Kind.TheVariants as kind
use Rattle.options.specs.declared.record.NotificationOption.{NotificationOption}
use Rattle.options.specs.declared.record.NotificationOption.TheVariants.{NotAllowed, WithNumber, WithoutNumber}
use Rattle.rules.specs.declared.note.Note.{Note}
use Rattle.rules.specs.declared.note.NoteKind.{NoteKind}
use Rattle.rules.specs.declared.note.NoteKind.TheVariants as note
use Rattle.rules.specs.declared.request.Granted.TheVariants as granted
use Rattle.rules.specs.Parts.{Answer, Setup, Signal, State}
use Rattle.rules.specs.Ledger.{Link, Account, Ledger, Addition, addition, advance}
use Rattle.rules.specs.Runs.{is_initial, Entry, entry, observed, Turn, perform}

-- a law holds of each entry of a transcript, with the ledger as it stands before it
abbrev pub Each : {N : Type 0} → (Setup N → Ledger N → Entry N → Type 0) → Setup N → Ledger N → List (Entry N) → Type 0
Each P s L [] = Unit {0}
Each P s L (e ∷ es) = P s L e × Each P s (advance s L (observed e)) es

-- a law holds along a run: of the state before each call of the network, the entry that it makes, and the state after it
abbrev pub Along : {N : Type 0} → (Setup N → State N → Entry N → State N → Type 0) → Setup N → State N → List (Turn N) → Type 0
Along P s g [] = Unit {0}
Along P s g (t ∷ ts) =
    P s g (entry t (perform s t.meaning g t.request)) (perform s t.meaning g t.request).after
    × Along P s (perform s t.meaning g t.request).after ts

-- What an account says. Number k of its chain, with what is kept with it
abbrev pub link_of : {N : Type 0} → Option (Account N) → ℕ → Option (Link N)
link_of None k = None
link_of (Some a) k = slice_get a.chain k

abbrev pub number_of : {N : Type 0} → Option (Link N) → Option N
number_of None = None
number_of (Some x) = Some x.number

abbrev pub option_of : {N : Type 0} → Option (Link N) → Option NotificationOption
option_of None = None
option_of (Some x) = x.option

abbrev pub released_of : {N : Type 0} → Option (Link N) → Option Bool
released_of None = None
released_of (Some x) = x.released

-- number k of the chain
abbrev pub chain_number : {N : Type 0} → Option (Account N) → ℕ → Option N
chain_number o k = number_of (link_of o k)

-- the option kept with number k
abbrev pub chain_option : {N : Type 0} → Option (Account N) → ℕ → Option NotificationOption
chain_option o k = option_of (link_of o k)

-- the release mark kept with number k
abbrev pub chain_released : {N : Type 0} → Option (Account N) → ℕ → Option Bool
chain_released o k = released_of (link_of o k)

-- the service of the call
abbrev pub chain_service : {N : Type 0} → Option (Account N) → Option Service
chain_service None = None
chain_service (Some a) = Some a.service

-- Strictness: with the number (2) is 1, without it (3) is 2, not allowed (1) is 3; nothing is 0
abbrev pub strictness : Option NotificationOption → ℕ
strictness None = 0
strictness (Some WithNumber) = 1
strictness (Some WithoutNumber) = 2
strictness (Some NotAllowed) = 3

-- that of the strictest option kept with the numbers of a chain
abbrev pub strictness_of : {N : Type 0} → List (Link N) → ℕ
strictness_of [] = 0
strictness_of (x ∷ xs) = max (strictness x.option) (strictness_of xs)

abbrev pub chain_strictness : {N : Type 0} → Option (Account N) → ℕ
chain_strictness None = 0
chain_strictness (Some a) = strictness_of a.chain

-- that of an indicator: 3 is for option 2, 6 for option 3, 4 for option 1
abbrev pub indicator_strictness : Indicator → ℕ
indicator_strictness indicator.Diverted = 1
indicator_strictness indicator.NumberRestricted = 2
indicator_strictness indicator.AllRestricted = 3

-- The law of diverted addresses. They are the initial addresses of legs above 0
abbrev pub diverted_in : {N : Type 0} → List (Signal N) → List (Signal N)
diverted_in [] = []
diverted_in (e ∷ es) = cond (is_initial e.message && nat_lt 0 e.leg) (e ∷ diverted_in es) (diverted_in es)

-- the reason by the kind of the diversion: U and B divert a leg that is not alerting, N one that is, D either
abbrev pub ReasonFor : Kind → Bool → Reason → Type 0
ReasonFor kind.Unconditional alerting r = (alerting ≡ false) × (r ≡ reason.Unconditional)
ReasonFor kind.Busy alerting r = (alerting ≡ false) × (r ≡ reason.Busy)
ReasonFor kind.NoReply alerting r = (alerting ≡ true) × (r ≡ reason.NoReply)
ReasonFor kind.Deflection alerting r = r ≡ cond alerting reason.DeflectionAlerting reason.DeflectionImmediate

-- the option that a notice states
abbrev pub States : Notification → NotificationOption → Type 0
States n NotAllowed = n ≡ notification.NotAllowed
States n WithNumber = n ≡ notification.WithNumber
States n WithoutNumber = n ≡ notification.WithoutNumber

-- a notice goes back alone, by call progress from an alerting leg, else by address complete
abbrev pub back_with : {N : Type 0} → Bool → Notice N → Message N
back_with alerting n =
    let parts : Backward _ = record { may_divert = false; notice = Some n; restriction = None } in
    cond alerting (message.CallProgress Progress parts) (message.AddressComplete NoIndication parts)

-- A diversion of number k sends two messages. Back along leg k goes the notice: the record's option, the reason, the
-- target. Then forward goes leg k+1's initial address, of the call's service, to number k+1 and its exchange. Its original
-- called number is number 0, with the mark of the first diversion; its redirecting number is number k, with the mark of
-- this one; its indicator is that of the strictest option kept with the chain, its count is k+1, which is within the limit
pub record Address {N : Type 0} (s : Setup N) (o : Option (Account N)) (a : Addition N) (sent : List (Signal N)) : Type 0 where
  pub alerting : Bool
  pub reason : Reason
  pub near : Exchange
  pub here : Exchange
  pub far : Exchange
  pub service : Service
  pub notification : Notification
  pub called : N
  pub original : Party N
  pub redirecting : N
  pub indicator : Indicator
  pub count : Count
  pub messages : sent ≡
      record {
        from = here.value;
        to = near.value;
        way = Back;
        call = a.call;
        leg = a.leg;
        message = back_with alerting (record { information = record { notification = notification; reason = reason }; number = a.target });
      } ∷ record {
        from = here.value;
        to = far.value;
        way = Forward;
        call = a.call;
        leg = suc a.leg;
        message = message.InitialAddress service called (Some (record {
          redirecting = record { number = redirecting; restricted = not a.by.may_release };
          original = original;
          information = record { indicator = indicator; count = count; reason = reason };
        }));
      } ∷ []
  pub called_is : chain_number o (suc a.leg) ≡ Some called
  pub original_is : chain_number o 0 ≡ Some original.number
  pub original_mark : chain_released o 1 ≡ Some (not original.restricted)
  pub redirecting_is : chain_number o a.leg ≡ Some redirecting
  pub strictest : indicator_strictness indicator ≡ chain_strictness o
  pub service_is : chain_service o ≡ Some service
  pub option_is : States notification a.by.option
  pub reason_is : ReasonFor a.kind alerting reason
  pub count_is : s.limit ≤ 5 → count.value ≡ suc a.leg
  pub route : s.route called ≡ Some far
  pub within : suc a.leg ≤ s.limit

-- without an addition no diverted initial address is sent; the ledger stands after the entry
abbrev pub Addresses : {N : Type 0} → Setup N → Ledger N → Option (Addition N) → List (Signal N) → Type 0
Addresses s L None sent = diverted_in sent ≡ []
Addresses s L (Some a) sent = Address s (L a.call) a sent

-- an entry sends a diverted initial address exactly if the ledger adds a number for it, and then the one that the chain asks for
abbrev pub Diverts : {N : Type 0} → Setup N → Ledger N → Entry N → Type 0
Diverts s L e = Addresses s (advance s L (observed e)) (addition s L (observed e)) e.sent

-- The law of the limit. A chain has at most as many numbers as the limit and one
abbrev pub Short : {N : Type 0} → Setup N → Option (Account N) → Type 0
Short s None = Unit {0}
Short s (Some a) = length a.chain ≤ suc s.limit

-- after every entry, in every call
abbrev pub Limited : {N : Type 0} → Setup N → Ledger N → Entry N → Type 0
Limited s L e = (c : ℕ) → Short s (advance s L (observed e) c)

-- The law of the numbers shown. The mark kept with a number for a note: at event 3 for alerting, at event 5 for answer
abbrev pub withheld_mark : {N : Type 0} → NoteKind → Option (Link N) → Option Bool
withheld_mark w None = None
withheld_mark note.Progress (Some x) = None
withheld_mark note.Alerting (Some x) = x.alerted
withheld_mark note.Answer (Some x) = x.answered
withheld_mark (note.Release c) (Some x) = None

-- a number that may be shown in a note: it is number k of the call's chain for some k above 0, the options kept with
-- numbers 1 to k are all "with number", and it was not withheld at the note's event; so only alerting and answer show one
pub record Allowed {N : Type 0} (o : Option (Account N)) (w : NoteKind) (x : N) : Type 0 where
  pub place : ℕ
  pub above : 0 < place
  pub number : chain_number o place ≡ Some x
  pub agreed : (j : ℕ) → 0 < j → j ≤ place → chain_option o j ≡ Some WithNumber
  pub free : withheld_mark w (link_of o place) ≡ Some false

-- a note that shows a number shows one that may be shown
abbrev pub ShowsAt : {N : Type 0} → Option (Account N) → NoteKind → Option N → Type 0
ShowsAt o w None = Unit {0}
ShowsAt o w (Some x) = Allowed o w x

-- the call of the message that a step takes
abbrev pub call_of : {N : Type 0} → Option (Signal N) → Option ℕ
call_of None = None
call_of (Some e) = Some e.call

-- a note is of the call whose message was taken, and shows what that call's account allows
abbrev pub ShowsIn : {N : Type 0} → Ledger N → Option (Signal N) → Option (Note N) → Type 0
ShowsIn L t None = Unit {0}
ShowsIn L t (Some n) = (call_of t ≡ Some n.call) × ShowsAt (L n.call) n.kind n.shown

-- only a step has a note
abbrev pub ShowsBy : {N : Type 0} → Ledger N → Option (Signal N) → Answer N → Type 0
ShowsBy L t (Err r) = Unit {0}
ShowsBy L t (Ok (granted.Opened c)) = Unit {0}
ShowsBy L t (Ok (granted.Stepped n)) = ShowsIn L t n
ShowsBy L t (Ok granted.Done) = Unit {0}

-- each note shows only what the ledger allows
abbrev pub Shows : {N : Type 0} → Setup N → Ledger N → Entry N → Type 0
Shows s L e = ShowsBy L e.taken e.answer
