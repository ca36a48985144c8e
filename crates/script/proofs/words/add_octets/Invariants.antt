use Rattle.std.proofs.Common.{vec_items}
use Rattle.script.proofs.Spelling.{Sofar}
use Rattle.script.proofs.words.add_octets.Given as goal

abbrev pub invariant-loop-pair : goal.invariant-loop-pair
invariant-loop-pair l = Sofar l.word (vec_items l.initial.octets) (vec_items l.octets) l.pair-iterator
