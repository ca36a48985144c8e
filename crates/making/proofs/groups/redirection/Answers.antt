use Rattle.std.proofs.Common.{rules}
use Rattle.making.specs.Making.{information_in}
use Rattle.making.proofs.Refuses.{was_made, was_refused}
use Rattle.making.proofs.groups.redirection.Goals as goal

pub returns-in_err-information : goal.returns-in_err-information
returns-in_err-information c = let a = was_refused (information_in c.in-Some.raw) c.in_err-information.field-0.0 (search rules) in search rules

pub returns : goal.returns
returns c = let a = was_made (information_in c.in-Some.raw) c.in_ok-information.information (search rules) in search rules
