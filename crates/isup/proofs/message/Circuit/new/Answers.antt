use Rattle.isup.proofs.Same.{circuit_made}
use Rattle.isup.proofs.message.Circuit.new.Goals as goal

pub returns : goal.returns
returns c = circuit_made _
