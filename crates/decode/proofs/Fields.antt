-- What stands under each name of what is gathered.
use Rattle.std.proofs.Common.{ℕ, cond, eqb, List, [], ◌∷◌}
use Rattle.numbers.specs.Digits.{content, plain}
use Rattle.isup.specs.Coding.{if_there, information_octets, diversion_octets, restriction_octets}
use Rattle.decode.specs.declared.optional.Gathered.{Gathered}

abbrev pub gathered_field : Gathered → ℕ → List (List ℕ)
gathered_field g n =
    cond (eqb n 0x0B) (if_there content g.redirecting)
    (cond (eqb n 0x28) (if_there content g.original)
    (cond (eqb n 0x13) (if_there information_octets g.information)
    (cond (eqb n 0x29) (cond g.may_divert ((0x02 ∷ []) ∷ []) [])
    (cond (eqb n 0x2C) (cond g.announced ((0xFB ∷ []) ∷ []) [])
    (cond (eqb n 0x36) (if_there diversion_octets g.diversion)
    (cond (eqb n 0x0C) (if_there plain g.redirection)
    (cond (eqb n 0x40) (if_there restriction_octets g.restriction) [])))))))
