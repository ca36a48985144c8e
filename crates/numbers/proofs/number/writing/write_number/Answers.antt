use Rattle.std.proofs.Common.{◌≡◌, ℕ, List, ◌++◌, ap, ◌∙◌, subst, arith}
use Rattle.numbers.specs.Digits.{content}
use Rattle.numbers.specs.Drafts.{drafted, cut, Written}
use Rattle.numbers.proofs.Cuts.{cut_short}
use Rattle.numbers.proofs.Contents.{content_short}
use Rattle.numbers.proofs.number.writing.write_number.Goals as goal

pub returns : goal.returns
returns c =
    let p = c.args.party.now in
    let e : drafted c.draft.new.draft ≡ content p =
    c.draft.ensures ∙ ap (λ (l : List ℕ). cut (l ++ content p)) c.new-draft.ensures ∙ cut_short (content p) (omega (arith, content_short p)) in
    subst (λ (l : List ℕ). Written l c.args.memory.now c.write_to.new.memory c.write_to.result) e c.write_to.ensures
