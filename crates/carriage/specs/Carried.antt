-- What is asked of the envelopes that wait, and what putting answers.
use Rattle.std.specs.Prelude.{ℕ, Bool, cond, ◌&&◌, map, Ok, Err, Result, ◌==◌}
use Rattle.isup.specs.declared.message.Envelope.{Envelope}
use Rattle.numbers.specs.declared.refusal.Refusal.{Refusal}
use Rattle.numbers.specs.declared.refusal.Refusal.TheVariants.{Full}
use Rattle.waiting.specs.Items.{Waiting, is_full}
use Rattle.carriage.specs.declared.question.Between.{Between}

-- whether an envelope goes from the one exchange to the other
abbrev pub between : {N : Type 0} → Between → Envelope N → Bool
between ends e = e.from.value == ends.from.value && e.to.value == ends.to.value

-- whether an envelope's message belongs to a call
abbrev pub of_call : {N : Type 0} → ℕ → Envelope N → Bool
of_call call e = e.circuit.call == call

-- what waits in slots of which each keeps an envelope
abbrev pub unpacked : {S E : Type 0} → (S → E) → Waiting S → Waiting E
unpacked kept w = record { places = w.places; items = map kept w.items }

-- what putting answers: a refusal exactly when as many wait as there is room for
abbrev pub put_answer : {X : Type 0} → Waiting X → Result (Unit {0}) Refusal
put_answer w = cond (is_full w.places w.items) (Err Full) (Ok tt)
