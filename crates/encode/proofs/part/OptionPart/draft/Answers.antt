use Rattle.std.proofs.Common.{ap}
use Rattle.encode.specs.Sending.{octets_if}
use Rattle.encode.proofs.Adds.{added_none}
use Rattle.encode.proofs.part.OptionPart.draft.Goals as goal

pub returns-in_default : goal.returns-in_default
returns-in_default g c = added_none c.args.draft.now _ (ap (octets_if g.P.Part.octets) c.in_default.is)
