-- What a whole script answers: its lines one by one, then the report.
use Rattle.std.specs.Prelude.{ℕ, ◌+◌, ◌-◌, ◌^◌, min, List, [], ◌∷◌, ◌++◌, Some, None, Ok, Err, string_bytes, codes, decimal, Option, Result}
use Rattle.script.specs.declared.answer.Answer.{Answer}
use Rattle.script.specs.declared.report.LineCounts.{LineCounts}
use Rattle.script.specs.declared.transcript.Transcript.{Transcript}
use Rattle.script.specs.Answers.{answer, answer_text}
use Rattle.script.specs.Lines.{Asked, Mistake, meaning}
use Rattle.script.specs.Texts.{mistake_text, no_lines, report_of, report_text}
use Rattle.script.specs.Words.{newline, lines}

-- what a line answers, if it asks for anything, or why it is none of the script's
abbrev pub reply : Result Asked Mistake → Result (Option Answer) Mistake
reply (Ok asked) = Ok (answer asked)
reply (Err mistake) = Err mistake

-- what is written for a line: nothing, an answer, or why it is none of the script's
pub data Output : Type 0 where
  silent : Output
  answered : List ℕ → Output
  mistaken : List ℕ → Output

-- an answer stands behind the number of its line
abbrev pub answer_line : ℕ → Option Answer → Output
answer_line n None = silent
answer_line n (Some a) = answered (decimal n ++ (codes ": " ++ (answer_text a ++ (newline ∷ []))))

-- so does why a line is none of the script's
abbrev pub error_line : ℕ → List ℕ → Output
error_line n why = mistaken (decimal n ++ (codes ": error " ++ (why ++ (newline ∷ []))))

-- what is written for line number n
abbrev pub output_of : ℕ → Result Asked Mistake → Output
output_of n (Ok asked) = answer_line n (answer asked)
output_of n (Err mistake) = error_line n (mistake_text mistake)

-- one more; a count stays at the largest that it can be
abbrev pub more : ℕ → ℕ
more n = min (n + 1) (2 ^ 64 - 1)

-- what was written so far, and the count of lines
pub record State : Type 0 where
  pub text : List ℕ
  pub lines_counted : LineCounts

-- what a transcript has so far
abbrev pub state_of : Transcript → State
state_of t = record { text = string_bytes t.text; lines_counted = t.lines }

-- the output of a line is added, and the line counted
abbrev pub adding : Output → State → State
adding silent s = s
adding (answered text) s = record {
  text = s.text ++ text;
  lines_counted = record { carried_out = more s.lines_counted.carried_out; refused = s.lines_counted.refused; errors = s.lines_counted.errors };
}
adding (mistaken text) s = record {
  text = s.text ++ text;
  lines_counted = record { carried_out = s.lines_counted.carried_out; refused = s.lines_counted.refused; errors = more s.lines_counted.errors };
}

-- the lines from number n on
abbrev pub carry_out : ℕ → List (List ℕ) → State → State
carry_out n [] s = s
carry_out n (line ∷ rest) s = carry_out (more n) rest (adding (output_of n (meaning line)) s)

-- before the first line
abbrev pub first_state : State
first_state = record { text = []; lines_counted = no_lines }

-- after the whole script, whose first line is number 1
abbrev pub final_state : List ℕ → State
final_state script = carry_out 1 (lines script) first_state

-- what was written for the lines, then the report
abbrev pub transcript : List ℕ → List ℕ
transcript script = (final_state script).text ++ (report_text (report_of (final_state script).lines_counted) ++ (newline ∷ []))
