use Rattle.std.proofs.Common.{◌≡◌, ℕ, List, ◌++◌, refl, ap, ◌∙◌, subst, arith}
use Rattle.numbers.specs.Drafts.{drafted, cut, Written}
use Rattle.numbers.proofs.Cuts.{cut_short}
use Rattle.isup.specs.Ranges.{circuit_octets}
use Rattle.encode.specs.Writing.{body, written}
use Rattle.encode.proofs.Adds.{added_same, added_two}
use Rattle.encode.proofs.Sizes.{length-written, message_short}
use Rattle.encode.proofs.Codes.{message_written}
use Rattle.encode.proofs.write.Goals as goal

pub returns : goal.returns
returns c =
    let m = c.args.message.now in
    let all = written c.args.circuit m in
    let front = added_same c.new-draft.result c.push_all.new.self _ (circuit_octets c.args.circuit) c.push_all.ensures c.octets.ensures in
    let e : drafted c.draft.new.draft ≡ all =
    added_two c.new-draft.result c.push_all.new.self c.draft.new.draft (circuit_octets c.args.circuit) (body m) all front c.draft.ensures refl
    ∙ ap (λ (l : List ℕ). cut (l ++ all)) c.new-draft.ensures
    ∙ cut_short all (omega (arith, length-written c.args.circuit m, message_short m)) in
    message_written c.args.circuit m c.args.memory.now c.write_to.new.memory c.write_to.result c.write_to.auto.memory
    (subst (λ (l : List ℕ). Written l c.args.memory.now c.write_to.new.memory c.write_to.result) e c.write_to.ensures)
