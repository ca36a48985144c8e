-- The law of renaming: two runs that are alike but for the names of numbers give answers that are alike but for the names.
use Rattle.std.specs.Option.{option_map}
use Rattle.std.specs.Prelude.{Ok, Err, ◌≡◌, ℕ, List, [], ◌∷◌, map}
use Rattle.isup.specs.declared.message.Service.{Service}
use Rattle.options.specs.declared.record.Kind.{Kind}
use Rattle.options.specs.declared.record.Record.{Record}
use Rattle.rules.specs.declared.note.Note.{Note}
use Rattle.rules.specs.declared.request.Granted.TheVariants as granted
use Rattle.rules.specs.declared.request.Request.{Request}
use Rattle.rules.specs.declared.request.Request.TheVariants.{Open, Step, Report, Deflect, HangUp, Clear}
use Rattle.rules.specs.Parts.{Answer, Setup, Meaning}
use Rattle.rules.specs.Runs.{Turn, Entry, runs, just_set_up}

-- a one-to-one renaming of numbers
pub record OneToOne (N M : Type 0) : Type 0 where
  pub there : N → M
  pub back : M → N
  pub there_back : (y : M) → there (back y) ≡ y
  pub back_there : (x : N) → back (there x) ≡ x

-- the same request, its number renamed
abbrev pub renamed_request : {N M : Type 0} → (N → M) → Request N → Request M
renamed_request f (Open c x n service) = Open c x (f n) service
renamed_request f (Step a b) = Step a b
renamed_request f (Report c k ev) = Report c k ev
renamed_request f (Deflect c k n) = Deflect c k (f n)
renamed_request f (HangUp c) = HangUp c
renamed_request f (Clear c) = Clear c

-- the same record, its target renamed
abbrev pub renamed_record : {N M : Type 0} → (N → M) → Record N → Record M
renamed_record f r = record { target = f r.target; option = r.option; may_release = r.may_release }

-- the same note, the number shown renamed
abbrev pub renamed_note : {N M : Type 0} → (N → M) → Note N → Note M
renamed_note f n = record { call = n.call; kind = n.kind; diverted = n.diverted; shown = option_map f n.shown }

-- the same answer, the number shown renamed
abbrev pub renamed_answer : {N M : Type 0} → (N → M) → Answer N → Answer M
renamed_answer f (Err r) = Err r
renamed_answer f (Ok (granted.Opened c)) = Ok (granted.Opened c)
renamed_answer f (Ok (granted.Stepped n)) = Ok (granted.Stepped (option_map (renamed_note f) n))
renamed_answer f (Ok granted.Done) = Ok granted.Done

-- two stores' records and withheld marks match under a renaming
pub record Matches {N M : Type 0} (f : N → M) (m : Meaning N) (p : Meaning M) : Type 0 where
  pub held : (n : N) (service : Service) (w : Kind) → p.held (f n) service w ≡ option_map (renamed_record f) (m.held n service w)
  pub withheld : (n : N) → p.withheld (f n) ≡ m.withheld n

-- two calls of the network match: the same request, renamed, with stores that match
pub record SameTurn {N M : Type 0} (f : N → M) (t : Turn N) (u : Turn M) : Type 0 where
  pub request : u.request ≡ renamed_request f t.request
  pub meaning : Matches f t.meaning u.meaning

-- two lists of calls match, one by one
abbrev pub SameTurns : {N M : Type 0} → (N → M) → List (Turn N) → List (Turn M) → Type 0
SameTurns f [] [] = Unit {0}
SameTurns f [] (u ∷ us) = ⊥
SameTurns f (t ∷ ts) [] = ⊥
SameTurns f (t ∷ ts) (u ∷ us) = SameTurn f t u × SameTurns f ts us

-- the same limit, and every number keeps its route
pub record SameSetup {N M : Type 0} (f : N → M) (s : Setup N) (r : Setup M) : Type 0 where
  pub limit : r.limit ≡ s.limit
  pub route : (n : N) → r.route (f n) ≡ s.route n

-- the answers of a transcript
abbrev pub answers_of : {N : Type 0} → List (Entry N) → List (Answer N)
answers_of [] = []
answers_of (e ∷ es) = e.answer ∷ answers_of es

-- all answers match under the renaming, on carriers of the same capacity
abbrev pub Renamed : {N M : Type 0} → (N → M) → Setup N → Setup M → ℕ → List (Turn N) → List (Turn M) → Type 0
Renamed f s r capacity ts us = answers_of (runs r (just_set_up capacity) us) ≡ map (renamed_answer f) (answers_of (runs s (just_set_up capacity) ts))
