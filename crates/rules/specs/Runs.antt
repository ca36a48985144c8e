-- Runs: one call of the network carried out, and a whole list of them with its transcript.
use Rattle.std.specs.Prelude.{is_err, Ok, Err, ℕ, zero, suc, ◌-◌, Bool, true, false, cond, List, [], ◌∷◌, ◌++◌, length, Some, None, Option, nat_le}
use Rattle.numbers.specs.declared.refusal.Refusal.{Refusal}
use Rattle.numbers.specs.declared.refusal.Refusal.TheVariants.{Full}
use Rattle.isup.specs.declared.message.Message.{Message}
use Rattle.isup.specs.declared.message.Message.TheVariants as message
use Rattle.rules.specs.declared.request.Request.{Request}
use Rattle.rules.specs.Parts.{Answer, Setup, Meaning, Signal, State}
use Rattle.rules.specs.Ledger.{Taken, Observation}
use Rattle.rules.specs.Requests.{Done, Decision, decide}

-- the state after a call of the network, its answer, what was taken and what was sent
pub record Outcome (N : Type 0) : Type 0 where
  pub after : State N
  pub answer : Answer N
  pub taken : Option (Signal N)
  pub sent : List (Signal N)

-- a refusal changes nothing
abbrev pub refusal : {N : Type 0} → State N → Refusal → Outcome N
refusal g r = record { after = g; answer = Err r; taken = None; sent = [] }

-- what is sent waits behind what is left
abbrev pub outcome : {N : Type 0} → State N → Done N → Outcome N
outcome g d = record { after = record { calls = d.calls; capacity = g.capacity; waiting = d.left ++ d.sent }; answer = d.answer; taken = d.taken; sent = d.sent }

-- room is judged last: 15 where more would be sent than there are free places, that of the signal taken among them
abbrev pub settles : {N : Type 0} → State N → Decision N → Outcome N
settles g (Err r) = refusal g r
settles g (Ok d) = cond (nat_le (length d.sent) (g.capacity - length d.left)) (outcome g d) (refusal g Full)

-- one call of the network
unfoldable pub perform : {N : Type 0} → Setup N → Meaning N → State N → Request N → Outcome N
perform s m g q = settles g (decide s m g q)

-- a call of the network to be made, with what the store means at that moment
pub record Turn (N : Type 0) : Type 0 where
  pub request : Request N
  pub meaning : Meaning N

-- a call of the network as it was made, and what came of it
pub record Entry (N : Type 0) : Type 0 where
  pub request : Request N
  pub meaning : Meaning N
  pub answer : Answer N
  pub taken : Option (Signal N)
  pub sent : List (Signal N)

abbrev pub entry : {N : Type 0} → Turn N → Outcome N → Entry N
entry t o = record { request = t.request; meaning = t.meaning; answer = o.answer; taken = o.taken; sent = o.sent }

-- the transcript of a list of calls, from a state on
abbrev pub runs : {N : Type 0} → Setup N → State N → List (Turn N) → List (Entry N)
runs s g [] = []
runs s g (t ∷ ts) = entry t (perform s t.meaning g t.request) ∷ runs s (perform s t.meaning g t.request).after ts

-- no call is open
abbrev pub no_calls : {A : Type 0} → ℕ → List (Option A)
no_calls zero = []
no_calls (suc k) = None ∷ no_calls k

-- a network just set up, on an empty carrier
abbrev pub just_set_up : {N : Type 0} → ℕ → State N
just_set_up capacity = record { calls = no_calls 64; capacity = capacity; waiting = [] }

-- What the ledger sees. Whether a message is an initial address
abbrev pub is_initial : {N : Type 0} → Message N → Bool
is_initial (message.InitialAddress s n r) = true
is_initial (message.AddressComplete st b) = false
is_initial (message.CallProgress ev b) = false
is_initial (message.Answer r) = false
is_initial (message.Connect r) = false
is_initial (message.Release c) = false

-- the type and the circuit of the message taken
abbrev pub taken_in : {N : Type 0} → Option (Signal N) → Option Taken
taken_in None = None
taken_in (Some e) = Some (record { initial = is_initial e.message; call = e.call; leg = e.leg })

-- whether an answer is a refusal
abbrev pub is_refused : {N : Type 0} → Answer N → Bool
is_refused a = is_err a

abbrev pub observed : {N : Type 0} → Entry N → Observation N
observed e = record { request = e.request; meaning = e.meaning; refused = is_refused e.answer; taken = taken_in e.taken }
