use Rattle.std.proofs.Common.{vec_items}
use Rattle.script.proofs.Spelling.{Words}
use Rattle.script.proofs.words.octets.Given as goal

abbrev pub invariant-loop-word : goal.invariant-loop-word
invariant-loop-word l = Words l.words (vec_items l.octets) l.word-index
