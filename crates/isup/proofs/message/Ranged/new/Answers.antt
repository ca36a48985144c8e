use Rattle.isup.proofs.Same.{ranged_made}
use Rattle.isup.proofs.message.Ranged.new.Goals as goal

pub returns : goal.returns
returns g c = ranged_made _
