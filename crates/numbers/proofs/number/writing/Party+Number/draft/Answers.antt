use Rattle.std.proofs.Common.{◌≡◌, ℕ, List, [], ◌∷◌, ◌++◌, length, ap, ◌∙◌, rules, arith}
use Rattle.std.proofs.lemmas.Bool.Decides.{nat_tests}
use Rattle.numbers.specs.Digits.{pack, digits_of, nature_of, plan_of, content}
use Rattle.numbers.specs.Drafts.{drafted, cut}
use Rattle.numbers.proofs.Cuts.{cut_more}
use Rattle.numbers.proofs.number.writing.Party+Number.draft.Goals.{then-digits-eq1, else-digits-eq1}
use Rattle.numbers.proofs.number.writing.Party+Number.draft.Goals as goal

pub returns : goal.returns
returns c =
    let digits = digits_of c.args.self.now.number in
    let nature : c.if-digits-eq1.nature ≡ nature_of (length digits) =
    elim c.if-digits-eq1.branch [ then-digits-eq1 w ↦ grind (arith, nat_tests, w.nature-is, w.if-digits-eq1) | else-digits-eq1 w ↦ grind (arith, nat_tests, w.nature-is, w.if-digits-eq1) ] in
    let plan : c.if-self.plan ≡ plan_of c.args.self.now.restricted = search rules in
    let head = c.if-digits-eq1.nature ∷ c.if-self.plan ∷ [] in
    let same : head ++ pack digits ≡ content c.args.self.now = cc in
    cut_more (drafted c.args.draft.now) (drafted c.push_all.new.self) (drafted c.draft_digits.new.draft) head (pack digits) c.push_all.ensures
    (c.draft_digits.ensures ∙ ap (λ (l : List ℕ). cut (drafted c.push_all.new.self ++ pack l)) c.digits-digits.ensures)
    ∙ ap (λ (l : List ℕ). cut (drafted c.args.draft.now ++ l)) same
