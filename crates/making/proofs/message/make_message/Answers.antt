use Rattle.std.proofs.Common.{rules, Ok}
use Rattle.making.specs.Making.{optional_in, message_in}
use Rattle.making.proofs.Exact.{parts_make}
use Rattle.making.proofs.Refuses.{was_made, was_refused}
use Rattle.making.proofs.message.make_message.Goals as goal

pub returns-in_err-optional : goal.returns-in_err-optional
returns-in_err-optional c =
    let a = was_refused (optional_in c.args.parts.now) c.in_err-optional.field-0.0 (search rules) in
    parts_make _ _ (search rules)

pub returns-in_err-message : goal.returns-in_err-message
returns-in_err-message c =
    let p = c.args.parts.now in
    let a = was_made (optional_in p) c.in_ok-optional.optional (search rules) in
    let b = was_refused (message_in p.kind p.mandatory c.in_ok-optional.optional) c.in_err-message.field-0.0 (search rules) in
    parts_make _ _ (search rules)

pub returns : goal.returns
returns c =
    let p = c.args.parts.now in
    let o = c.in_ok-optional.optional in
    let m = c.in_ok-message.message in
    let a = was_made (optional_in p) o (search rules) in
    let b = was_made (message_in p.kind p.mandatory o) m (search rules) in
    parts_make p (Ok (c.in_ok-circuit.circuit, m)) (search rules)
