-- The law of what waits: signals neither vanish nor appear, and nothing changes the capacity.
use Rattle.std.specs.Prelude.{Ok, Err, ◌≡◌, ℕ, ◌≤◌, Bool, true, false, List, [], ◌∷◌, ◌++◌, length, Some, None, Option}
use Rattle.rules.specs.declared.request.Granted.TheVariants as granted
use Rattle.rules.specs.declared.request.Request.{Request}
use Rattle.rules.specs.declared.request.Request.TheVariants.{Open, Step, Report, Deflect, HangUp, Clear}
use Rattle.rules.specs.Parts.{Answer, Setup, Signal, State}
use Rattle.rules.specs.Runs.{is_refused, Entry}

-- one or none, as a list
abbrev pub listed : {A : Type 0} → Option A → List A
listed None = []
listed (Some a) = a ∷ []

-- none of the signals goes from exchange a to exchange b
abbrev pub NoneFrom : {N : Type 0} → ℕ → ℕ → List (Signal N) → Type 0
NoneFrom a b [] = Unit {0}
NoneFrom a b (e ∷ es) = ((e.from ≡ a) → (e.to ≡ b) → ⊥) × NoneFrom a b es

-- the signal taken goes from a to b, and none before it does
abbrev pub EarliestFrom : {N : Type 0} → ℕ → ℕ → List (Signal N) → Option (Signal N) → Type 0
EarliestFrom a b before None = ⊥
EarliestFrom a b before (Some e) = (e.from ≡ a) × (e.to ≡ b) × NoneFrom a b before

-- a step takes the earliest signal from the one exchange to the other; no other call takes one
abbrev pub TakenBy : {N : Type 0} → Request N → List (Signal N) → Option (Signal N) → Type 0
TakenBy (Open c x n service) before t = t ≡ None
TakenBy (Step a b) before t = EarliestFrom a b before t
TakenBy (Report c k ev) before t = t ≡ None
TakenBy (Deflect c k n) before t = t ≡ None
TakenBy (HangUp c) before t = t ≡ None
TakenBy (Clear c) before t = t ≡ None

-- nor does a refused one
abbrev pub TakenUnless : {N : Type 0} → Bool → Request N → List (Signal N) → Option (Signal N) → Type 0
TakenUnless true q before t = t ≡ None
TakenUnless false q before t = TakenBy q before t

-- a refusal, or that it is done
abbrev pub Plain : {N : Type 0} → Answer N → Type 0
Plain (Err r) = Unit {0}
Plain (Ok (granted.Opened j)) = ⊥
Plain (Ok (granted.Stepped o)) = ⊥
Plain (Ok granted.Done) = Unit {0}

-- an accepted opening answers the call opened, a step its note if there is one, any other call that it is done
abbrev pub AnswerTo : {N : Type 0} → Request N → Answer N → Type 0
AnswerTo (Open c x n service) (Err r) = Unit {0}
AnswerTo (Open c x n service) (Ok (granted.Opened j)) = j ≡ c
AnswerTo (Open c x n service) (Ok (granted.Stepped o)) = ⊥
AnswerTo (Open c x n service) (Ok granted.Done) = ⊥
AnswerTo (Step a b) (Err r) = Unit {0}
AnswerTo (Step a b) (Ok (granted.Opened j)) = ⊥
AnswerTo (Step a b) (Ok (granted.Stepped o)) = Unit {0}
AnswerTo (Step a b) (Ok granted.Done) = ⊥
AnswerTo (Report c k ev) a = Plain a
AnswerTo (Deflect c k n) a = Plain a
AnswerTo (HangUp c) a = Plain a
AnswerTo (Clear c) a = Plain a

-- what waits after a call of the network is what waited before, less the one taken, followed by what was sent, and never
-- more than the capacity, which stays; a refusal changes nothing
pub record Carries {N : Type 0} (s : Setup N) (g : State N) (e : Entry N) (h : State N) : Type 0 where
  pub before : List (Signal N)
  pub behind : List (Signal N)
  pub was : g.waiting ≡ before ++ (listed e.taken ++ behind)
  pub now : h.waiting ≡ (before ++ behind) ++ e.sent
  pub taken : TakenUnless (is_refused e.answer) e.request before e.taken
  pub refusal : is_refused e.answer ≡ true → (h ≡ g) × (e.sent ≡ [])
  pub answer : AnswerTo e.request e.answer
  pub capacity : h.capacity ≡ g.capacity
  pub room : length g.waiting ≤ g.capacity → length h.waiting ≤ h.capacity
