use Rattle.frames.proofs.Parts.{frame_holds}
use Rattle.frames.proofs.frame.Frame.new.Goals as goal

pub returns-clause-holds : goal.returns-clause-holds
returns-clause-holds c = frame_holds _ _ c.octets_of.ensures
