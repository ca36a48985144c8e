use Rattle.std.proofs.Common.{refl, arith}
use Rattle.numbers.specs.Drafts.{drafted}
use Rattle.numbers.proofs.Cuts.{cut_none, cut_next}
use Rattle.numbers.proofs.draft.Draft.push_all.Goals as goal

pub loop-octet-init : goal.loop-octet-init
loop-octet-init c = cut_none c.args.self.now

pub loop-octet-preserved : goal.loop-octet-preserved
loop-octet-preserved c =
    cut_next (drafted c.args.self.now) (drafted c.loop-octet.self) (drafted c.push.new.self) c.args.octets.now c.loop-octet.octet-index _
    (omega arith) refl c.loop-octet.invariant c.push.ensures
