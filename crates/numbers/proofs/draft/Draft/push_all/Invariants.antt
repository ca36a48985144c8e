use Rattle.std.proofs.Common.{◌≡◌, ◌++◌, take}
use Rattle.numbers.specs.Drafts.{drafted, cut}
use Rattle.numbers.proofs.draft.Draft.push_all.Given as goal

abbrev pub invariant-loop-octet : goal.invariant-loop-octet
invariant-loop-octet l = drafted l.self ≡ cut (drafted l.initial.self ++ take l.octet-index l.octets)
