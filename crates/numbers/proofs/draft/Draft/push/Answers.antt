use Rattle.std.proofs.Common.{◌≡◌, [], ◌∷◌, ◌++◌, take, sym, ◌∙◌, arith}
use Rattle.std.proofs.lemmas.List.{take_more_set, length-append, length-take-le}
use Rattle.numbers.proofs.Cuts.{cut_short, cut_full}
use Rattle.numbers.proofs.draft.Draft.push.Goals as goal

pub returns-then-at-lt64 : goal.returns-then-at-lt64
returns-then-at-lt64 c =
    let d = c.args.self.now in
    let w = d.whole in
    let t = length-take-le d.len d.octets (omega arith) in
    let l = length-append (take d.len d.octets) (c.args.octet ∷ []) in
    take_more_set d.octets d.len c.args.octet (omega arith) ∙ sym (cut_short (take d.len d.octets ++ c.args.octet ∷ []) (omega arith))

pub returns-else-at-lt64 : goal.returns-else-at-lt64
returns-else-at-lt64 c =
    let d = c.args.self.now in
    let w = d.whole in
    let h = d.within in
    sym (cut_full (take d.len d.octets) (c.args.octet ∷ []) (length-take-le d.len d.octets (omega arith) ∙ (let z : d.len ≡ 64 = omega arith in z)))
