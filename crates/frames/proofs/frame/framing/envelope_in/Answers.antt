use Rattle.std.proofs.Common.{None, ap, ◌∙◌, inl, inr, arith}
use Rattle.std.specs.Result.{result_ok}
use Rattle.frames.proofs.Parts.{out_of_length, no_from, no_to, no_way, cut_off, sized, all_parts, found_known}
use Rattle.frames.proofs.frame.framing.envelope_in.Goals as goal

pub returns-in_default : goal.returns-in_default
returns-in_default c = out_of_length c.args.octets.now (λ a b. omega arith)

pub returns-in_err-from : goal.returns-in_err-from
returns-in_err-from c = c.from_residual.ensures ∙ no_from c.args.octets.now c.in_err-from.ensures

pub returns-in_err-to : goal.returns-in_err-to
returns-in_err-to c =
    c.from_residual-in_err-to.ensures ∙ no_to c.args.octets.now c.in_ok-from.from c.in_ok-from.ensures c.in_err-to.ensures

pub returns-in_err-way : goal.returns-in_err-way
returns-in_err-way c =
    c.from_residual-in_err-way.ensures
    ∙ no_way c.args.octets.now c.in_ok-from.from c.in_ok-to.to c.in_ok-from.ensures c.in_ok-to.ensures
    (c.in_err-way.ensures.value ∙ ap result_ok c.try_from.ensures ∙ found_known _ _)

pub returns-in_err-size : goal.returns-in_err-size
returns-in_err-size c =
    c.from_residual-in_err-size.ensures ∙ out_of_length c.args.octets.now (λ a b. omega (arith, c.in_err-size.ensures))

pub returns-in_err-get : goal.returns-in_err-get
returns-in_err-get c =
    let n = c.in_ok-size.ensures in
    c.from_residual-in_err-get.ensures
    ∙ elim c.in_err-get.ensures.lookup.0 [
      | inl h ↦ absurd (omega arith)
      | inr h ↦ cut_off c.args.octets.now c.in_ok-size.size (omega arith) h
    ]

pub returns-in_err-circuit : goal.returns-in_err-circuit
returns-in_err-circuit c =
    let xs = c.args.octets.now in
    let n = c.in_ok-size.ensures in
    let at = c.in_ok-get.ensures.lookup.0 in
    let way = c.in_ok-way.ensures.value ∙ ap result_ok c.try_from.ensures ∙ found_known _ _ in
    c.from_residual-in_err-circuit.ensures
    ∙ all_parts xs c.in_ok-get.field-0.now c.in_ok-size.size c.in_ok-from.from c.in_ok-to.to c.in_ok-way.way None (omega arith)
    (sized xs c.in_ok-get.field-0.now c.in_ok-size.size (omega arith) at.1 at.2) c.in_ok-from.ensures c.in_ok-to.ensures way
    (c.in_err-circuit.ensures.value ∙ ap result_ok c.read.ensures.answer)

pub returns : goal.returns
returns c =
    let xs = c.args.octets.now in
    let n = c.in_ok-size.ensures in
    let at = c.in_ok-get.ensures.lookup.0 in
    let way = c.in_ok-way.ensures.value ∙ ap result_ok c.try_from.ensures ∙ found_known _ _ in
    all_parts xs c.in_ok-get.field-0.now c.in_ok-size.size c.in_ok-from.from c.in_ok-to.to c.in_ok-way.way _ (omega arith)
    (sized xs c.in_ok-get.field-0.now c.in_ok-size.size (omega arith) at.1 at.2) c.in_ok-from.ensures c.in_ok-to.ensures way
    (c.in_ok-circuit.ensures.value ∙ ap result_ok c.read.ensures.answer)
