use Rattle.std.proofs.Common.{ℕ, ◌+◌, List, [], ◌∷◌, None, sym, ap, ◌∙◌, arith}
use Rattle.numbers.specs.declared.number.Number.{Number}
use Rattle.isup.specs.declared.message.Backward.{Backward}
use Rattle.isup.specs.Coding.{behind}
use Rattle.encode.specs.Sending.{any_sent, backward_sent}
use Rattle.encode.specs.Writing.{body}
use Rattle.encode.proofs.Adds.{added_two, topped}
use Rattle.encode.proofs.MessageNumberPart.draft.Goals as goal

-- what stands behind the fixed octets
abbrev tail : Backward Number → List ℕ
tail b = behind None (any_sent (backward_sent b)) (backward_sent b)

pub returns-in-AddressComplete : goal.returns-in-AddressComplete
returns-in-AddressComplete c =
    let b = c.in-AddressComplete.backward in
    added_two c.args.draft.now c.push_all.new.self c.draft.new.draft _ (tail b) _ c.push_all.ensures c.draft.ensures
    (ap (λ (k : ℕ). 0x06 ∷ k ∷ 0x14 ∷ tail b) c.into.ensures ∙ ap body (sym c.in-AddressComplete.is))

pub returns-in-CallProgress : goal.returns-in-CallProgress
returns-in-CallProgress c =
    let b = c.in-CallProgress.backward in
    added_two c.args.draft.now c.push_all-in-CallProgress.new.self c.draft-in-CallProgress.new.draft _ (tail b) _ c.push_all-in-CallProgress.ensures
    c.draft-in-CallProgress.ensures (ap (λ (k : ℕ). 0x2C ∷ k ∷ tail b) c.into-in-CallProgress.ensures ∙ ap body (sym c.in-CallProgress.is))

pub returns-in-Answer : goal.returns-in-Answer
returns-in-Answer c =
    added_two c.args.draft.now c.push.new.self c.draft-in-Answer.new.draft _ (tail c.only_restriction.result) _ c.push.ensures c.draft-in-Answer.ensures
    (ap (λ (x : Backward Number). 0x09 ∷ tail x) c.only_restriction.ensures ∙ ap body (sym c.in-Answer.is))

pub returns-in-Connect : goal.returns-in-Connect
returns-in-Connect c =
    added_two c.args.draft.now c.push_all-in-Connect.new.self c.draft-in-Connect.new.draft _ (tail c.only_restriction-in-Connect.result) _
    c.push_all-in-Connect.ensures c.draft-in-Connect.ensures
    (ap (λ (x : Backward Number). 0x07 ∷ 0x04 ∷ 0x14 ∷ tail x) c.only_restriction-in-Connect.ensures ∙ ap body (sym c.in-Connect.is))

pub returns-in-Release : goal.returns-in-Release
returns-in-Release c =
    let t = topped c.value.result (omega (arith, c.value.ensures.bound)) in
    added_two c.args.draft.now c.push_all-in-Release.new.self c.push_all-in-Release-2.new.self _ _ _ c.push_all-in-Release.ensures c.push_all-in-Release-2.ensures
    (ap (λ (k : ℕ). 0x0C ∷ 0x02 ∷ 0x00 ∷ 2 ∷ 0x82 ∷ k ∷ []) (t ∙ ap (λ (k : ℕ). 0x80 + k) c.value.ensures.is) ∙ ap body (sym c.in-Release.is))
