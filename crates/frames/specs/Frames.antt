-- What frames hold.
use Rattle.std.specs.Prelude.{◌≡◌, true, is_some, Some, None, Option}
use Rattle.std.proofs.lemmas.Bool.{false≢true}
use Rattle.numbers.specs.declared.number.Number.{Number}
use Rattle.isup.specs.declared.message.Envelope.{Envelope}
use Rattle.frames.specs.Framing.{envelope_in}
use Rattle.frames.specs.declared.frame.Frame.{Frame}

-- the value that is there
abbrev pub the_some : {X : Type 0} (o : Option X) → is_some o ≡ true → X
the_some (Some x) h = x
the_some None h = absurd (false≢true h)

-- the envelope that a frame holds
unfoldable pub envelope_of : Frame → Envelope Number
envelope_of f = the_some (envelope_in f.octets) f.coded
