use Rattle.std.proofs.Common.{Bool, ap}
use Rattle.isup.specs.Coding.{encoded}
use Rattle.encode.specs.Sending.{may_divert_sent}
use Rattle.encode.proofs.Adds.{added_none}
use Rattle.encode.proofs.optional.draft_may_divert.Goals as goal

pub returns-else-may_divert : goal.returns-else-may_divert
returns-else-may_divert c = added_none c.args.draft.now _ (ap (λ (b : Bool). encoded (may_divert_sent b)) c.if-may_divert.false)
