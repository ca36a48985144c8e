-- What is written of a line that is none of the script's, and of the report.
use Rattle.std.specs.Prelude.{ℕ, List, ◌∷◌, ◌++◌, codes, decimal}
use Rattle.script.specs.declared.line.LineError.{LineError}
use Rattle.script.specs.declared.line.LineError.TheVariants.{UnknownWord, OctetsMissing, NotOctets, Memory}
use Rattle.script.specs.declared.report.CallCounts.{CallCounts}
use Rattle.script.specs.declared.report.LineCounts.{LineCounts}
use Rattle.script.specs.declared.report.Report.{Report}
use Rattle.script.specs.Lines.{Mistake, unknown, missing, wrong}
use Rattle.script.specs.Words.{newline}

-- why a line is none of the script's
abbrev pub mistake_text : Mistake → List ℕ
mistake_text (unknown word) = codes "unknown word " ++ word
mistake_text missing = codes "octets missing"
mistake_text (wrong word) = codes "octets are pairs of hexadecimal digits: " ++ word

-- the same of what the code answers
abbrev pub error_text : LineError → List ℕ
error_text (UnknownWord word) = mistake_text (unknown word.now)
error_text OctetsMissing = mistake_text missing
error_text (NotOctets word) = mistake_text (wrong word.now)
error_text Memory = codes "memory is wanting"

-- before the first line
abbrev pub no_lines : LineCounts
no_lines = record { carried_out = 0; refused = 0; errors = 0 }

-- the report of a script without calls
abbrev pub report_of : LineCounts → Report
report_of counted = record { lines = counted; calls = record { opened = 0; cleared = 0; diversions = 0; notes = 0 }; waiting = 0 }

-- the counts of lines
abbrev pub lines_text : LineCounts → List ℕ
lines_text c =
    codes "lines carried out " ++ (decimal c.carried_out ++ (codes ", refused " ++ (decimal c.refused ++ (codes ", errors " ++ decimal c.errors))))

-- the counts of calls
abbrev pub calls_text : CallCounts → List ℕ
calls_text c =
    codes "calls opened " ++ (decimal c.opened ++ (codes ", cleared " ++ (decimal c.cleared
    ++ (codes ", diversions " ++ (decimal c.diversions ++ (codes ", notes " ++ decimal c.notes))))))

-- an empty line, then the counts
abbrev pub report_text : Report → List ℕ
report_text r = newline ∷ (lines_text r.lines ++ (newline ∷ (calls_text r.calls ++ (newline ∷ (codes "waiting " ++ decimal r.waiting)))))
