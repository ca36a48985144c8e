use Rattle.std.proofs.Common.{ℕ, List, [], ◌∷◌, ◌++◌, get_or, ap}
use Rattle.numbers.specs.Digits.{content}
use Rattle.isup.specs.Coding.{encoded, information_octets}
use Rattle.encode.proofs.Adds.{added_same, added_three, encoded_three}
use Rattle.encode.proofs.optional.RedirectionNumberPart.draft.Goals as goal

pub returns : goal.returns
returns c =
    let r = c.args.self.now in
    let first = (0x0B, content r.redirecting) ∷ [] in
    let second = (0x28, content r.original) ∷ [] in
    let third = (0x13, information_octets r.information) ∷ [] in
    let last = added_same c.draft_party-2.new.draft c.push_all.new.self _ (encoded third ++ (0 ∷ [])) c.push_all.ensures
    (ap (λ (l : List ℕ). 0x13 ∷ 2 ∷ get_or l 0 0 ∷ get_or l 1 0 ∷ 0 ∷ []) c.information_octets.ensures) in
    added_three c.args.draft.now c.draft_party.new.draft c.draft_party-2.new.draft c.push_all.new.self (encoded first) (encoded second)
    (encoded third ++ (0 ∷ [])) _ c.draft_party.ensures c.draft_party-2.ensures last (encoded_three first second third (0 ∷ []))
