use Rattle.std.proofs.Common.{◌∙◌}
use Rattle.script.proofs.CarryingOut.{closes}
use Rattle.script.proofs.transcript.rehearse.Goals as goal

pub returns-clause-text : goal.returns-clause-text
returns-clause-text c = c.in_ok-add_report.ensures.text ∙ closes c.args.script.now c.in_ok-transcript.transcript c.from-report.result c.in_ok-transcript.ensures c.from-report.ensures
