use Rattle.std.proofs.Common.{sym, ◌∙◌}
use Rattle.frames.proofs.Parts.{frame_holds}
use Rattle.frames.proofs.frame.Frame.envelope.Goals as goal

pub returns-clause-holds : goal.returns-clause-holds
returns-clause-holds c = sym (frame_holds c.args.self.now _ (sym c.envelope_in.ensures ∙ c.unwrap.ensures))
