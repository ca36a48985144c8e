use Rattle.std.proofs.Common.{◌+◌, ◌*◌, ◌∷◌, ◌++◌, [], get_or, refl, ap, ◌∙◌}
use Rattle.std.proofs.lemmas.List.{append-nil}
use Rattle.frames.specs.Framing.{envelope_in}
use Rattle.frames.proofs.Parts.{always_fits, written_framed}
use Rattle.frames.proofs.frame.framing.octets_of.Goals as goal

pub unwrap-size-requires : goal.unwrap-size-requires
unwrap-size-requires c =
    always_fits c.args.e.now.circuit c.args.e.now.message _ c.write.new.memory c.write.result c.write.ensures refl

pub returns : goal.returns
returns c =
    let high = get_or c.to_be_bytes.result 0 0 in
    let low = get_or c.to_be_bytes.result 1 0 in
    ap (λ l. envelope_in (l ++ (c.write.new.memory ++ []))) c.copy_from_slice.ensures.after
    ∙ ap (λ l. envelope_in (high ∷ low ∷ c.value.result ∷ c.value-2.result ∷ c.from.result ∷ l)) (append-nil c.write.new.memory)
    ∙ written_framed c.args.e.now c.unwrap-size.result high low c.value.result c.value-2.result c.from.result _ c.write.new.memory c.write.result
    c.write.ensures c.unwrap-size.ensures c.write.auto.memory refl (ap (λ l. get_or l 0 0 * 256 + get_or l 1 0) c.to_be_bytes.ensures)
    c.value.ensures.is c.value-2.ensures.is c.from.ensures
