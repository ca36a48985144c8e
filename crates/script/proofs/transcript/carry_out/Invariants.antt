use Rattle.std.proofs.Common.{◌≡◌, length, drop}
use Rattle.script.specs.Transcripts.{carry_out, final_state, more, state_of}
use Rattle.script.specs.Words.{lines}
use Rattle.script.proofs.transcript.carry_out.Given as goal

-- the lines that are left, carried out after the others, come to the whole script
abbrev pub invariant-loop-index : goal.invariant-loop-index
invariant-loop-index l = carry_out (more (length l.yielded)) (drop (length l.yielded) (lines l.script)) (state_of l.transcript) ≡ final_state l.script
