use Rattle.std.proofs.Common.{◌≡◌, length}
use Rattle.std.proofs.lemmas.List.{append-nil}
use Rattle.numbers.specs.Digits.{content}
use Rattle.isup.specs.Codes.{name_code}
use Rattle.encode.proofs.Adds.{added_two}
use Rattle.encode.proofs.optional.draft_party.Goals as goal

pub returns : goal.returns
returns c =
    let xs = content c.args.party.now in
    let n = append-nil xs in
    let len : c.content_len.result ≡ length xs = c.content_len.ensures.count in
    let name : c.into.result ≡ name_code c.args.name = c.into.ensures in
    added_two c.args.draft.now c.push_all.new.self c.draft.new.draft _ xs _ c.push_all.ensures c.draft.ensures (cc)
