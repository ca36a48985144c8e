use Rattle.std.proofs.Common.{rules}
use Rattle.making.specs.Making.{redirection_in, notice_in, restriction_in}
use Rattle.making.proofs.Refuses.{was_made, was_refused}
use Rattle.making.proofs.groups.optional.Goals as goal

pub returns-in_err-redirection : goal.returns-in_err-redirection
returns-in_err-redirection c =
    let a = was_refused (redirection_in c.args.parts.now.redirection) c.in_err-redirection.field-0.0 (search rules) in
    search rules

pub returns-in_err-notice : goal.returns-in_err-notice
returns-in_err-notice c =
    let a = was_made (redirection_in c.args.parts.now.redirection) c.in_ok-redirection.redirection (search rules) in
    let b = was_refused (notice_in c.args.parts.now.notice) c.in_err-notice.field-0.0 (search rules) in
    search rules

pub returns-in_err-restriction : goal.returns-in_err-restriction
returns-in_err-restriction c =
    let a = was_made (redirection_in c.args.parts.now.redirection) c.in_ok-redirection.redirection (search rules) in
    let b = was_made (notice_in c.args.parts.now.notice) c.in_ok-notice.notice (search rules) in
    let d = was_refused (restriction_in c.args.parts.now.restriction) c.in_err-restriction.field-0.0 (search rules) in
    search rules

pub returns : goal.returns
returns c =
    let a = was_made (redirection_in c.args.parts.now.redirection) c.in_ok-redirection.redirection (search rules) in
    let b = was_made (notice_in c.args.parts.now.notice) c.in_ok-notice.notice (search rules) in
    let d = was_made (restriction_in c.args.parts.now.restriction) c.in_ok-restriction.restriction (search rules) in
    search rules
