-- Accepted octets are a coding of the message answered, and refused ones of none.
use Rattle.std.proofs.Common.{◌≡◌, ℕ, List, Ok, Err, Result, sym, ◌∙◌}
use Rattle.numbers.specs.declared.number.Number.{Number}
use Rattle.isup.specs.declared.message.Circuit.{Circuit}
use Rattle.isup.specs.declared.message.Message.{Message}
use Rattle.decode.specs.declared.fault.MessageFault.{MessageFault}
use Rattle.decode.specs.Messages.{read_message}
use Rattle.decode.specs.Reading.{Octets, ReadAsCoded}
use Rattle.decode.proofs.Sound.{only_codings_are_read}
use Rattle.decode.proofs.Complete.{every_coding_is_read}

abbrev Out : Type 0
Out = Result (Circuit × Message Number) MessageFault

pub read_as_coded : (xs : List ℕ) (r : Out) → Octets xs → r ≡ read_message xs → ReadAsCoded xs r
read_as_coded xs (Ok p) o e = only_codings_are_read xs p.0 p.1 o (sym e)
read_as_coded xs (Err f) o e = λ c m k. (let ok = e ∙ every_coding_is_read xs c m k in cc)
