use Rattle.std.proofs.Common.{ℕ, List, [], ◌∷◌, ◌++◌, ap, ◌∙◌}
use Rattle.numbers.specs.declared.number.Number.{Number}
use Rattle.numbers.specs.declared.number.Party.{Party}
use Rattle.numbers.specs.Digits.{content}
use Rattle.isup.specs.Coding.{encoded, diversion_octets}
use Rattle.encode.proofs.Adds.{added_three}
use Rattle.encode.proofs.optional.NoticeNumberPart.draft.Goals as goal

pub returns : goal.returns
returns c =
    let number = encoded ((0x0C, content c.from.result) ∷ []) in
    added_three c.args.draft.now c.push_all.new.self c.push_all-2.new.self c.draft_party.new.draft (0x2C ∷ 1 ∷ 0xFB ∷ []) (0x36 ∷ 1 ∷ c.diversion_octet.result ∷ [])
    number _ c.push_all.ensures c.push_all-2.ensures c.draft_party.ensures
    (ap (λ (l : List ℕ). 0x2C ∷ 1 ∷ 0xFB ∷ 0x36 ∷ 1 ∷ (l ++ number)) c.diversion_octet.ensures
    ∙ ap (λ (p : Party Number). 0x2C ∷ 1 ∷ 0xFB ∷ 0x36 ∷ 1 ∷ (diversion_octets c.args.self.now.information ++ encoded ((0x0C, content p) ∷ []))) c.from.ensures)
