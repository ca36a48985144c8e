-- A script that is carried out line by line.
use Rattle.std.proofs.Common.{◌≡◌, ℕ, ◌+◌, ◌^◌, ◌<◌, ◌≤◌, List, [], ◌∷◌, ◌++◌, length, get_or, drop, ap, arith, string_bytes}
use Rattle.std.proofs.lemmas.List.{drop_more, drop_all}
use Rattle.script.specs.Lines.{meaning}
use Rattle.script.specs.declared.report.Report.{Report}
use Rattle.script.specs.declared.transcript.Transcript.{Transcript}
use Rattle.script.specs.Texts.{report_of, report_text}
use Rattle.script.specs.Transcripts.{State, adding, carry_out, final_state, more, output_of, state_of, transcript}
use Rattle.script.specs.Words.{newline}

module _ (ls : List (List ℕ)) (i : ℕ) (now end : State) (sofar : carry_out (more i) (drop i ls) now ≡ end) where
  -- the line with index i is carried out, as number i + 1
  pub goes_on : (line : List ℕ) (next : State) → i < length ls → line ≡ get_or ls i line → i + 1 < 2 ^ 64 → next ≡ adding (output_of (i + 1) (meaning line)) now → carry_out (more (i + 1)) (drop (i + 1) ls) next ≡ end
  goes_on line next inside is fits step =
      let number : more i ≡ i + 1 = omega arith in
      rw (step, is) (rw number at (rw (drop_more ls i line inside) at sofar))

  pub ends : length ls ≤ i → now ≡ end
  ends all = rw (drop_all i ls all) at sofar

-- the report comes at the end
pub closes : (script : List ℕ) (t : Transcript) (r : Report) → state_of t ≡ final_state script → r ≡ report_of t.lines → string_bytes t.text ++ (report_text r ++ (newline ∷ [])) ≡ transcript script
closes script t r is report = rw report (ap (λ s. s.text ++ (report_text (report_of s.lines_counted) ++ (newline ∷ []))) is)
