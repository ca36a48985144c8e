use Rattle.std.proofs.Common.{◌≡◌, ℕ, ◌+◌, cond, List, [], ◌∷◌, length, Option, refl, sym, ap, rules}
use Rattle.numbers.specs.declared.draft.Draft.{Draft}
use Rattle.numbers.specs.declared.number.Number.{Number}
use Rattle.numbers.specs.Digits.{content, plain}
use Rattle.numbers.specs.Drafts.{Adds}
use Rattle.isup.specs.declared.message.Redirection.{Redirection}
use Rattle.isup.specs.declared.message.Service.{Service}
use Rattle.isup.specs.declared.message.Message.TheVariants.{InitialAddress}
use Rattle.isup.specs.Codes.{service_code}
use Rattle.isup.specs.Coding.{optional_octets}
use Rattle.encode.specs.Sending.{any_sent, redirection_sent}
use Rattle.encode.specs.Writing.{body}
use Rattle.encode.proofs.Adds.{added_none, added_same, added_two, added_three}
use Rattle.encode.proofs.draft_initial.Goals as goal

-- the octets of the optional part, none if there is none
abbrev last : Option (Redirection Number) → List ℕ
last r = optional_octets (any_sent (redirection_sent r)) (redirection_sent r)

-- the fixed octets, the called number and the optional part make up the whole
drafted_initial :
    (a b c d e : Draft) (service : Service) (called : Number) (r : Option (Redirection Number)) (code pointer len : ℕ) (octets : List ℕ) →
    Adds a b (0x01 ∷ 0x00 ∷ 0x20 ∷ 0x01 ∷ 0x0A ∷ code ∷ []) → Adds b c (0x02 ∷ pointer ∷ len ∷ []) → Adds c d octets → Adds d e (last r) →
    code ≡ service_code service → pointer ≡ cond (any_sent (redirection_sent r)) (2 + len) 0 → len ≡ length octets → octets ≡ plain called →
    Adds a e (body (InitialAddress service called r))
drafted_initial a b c d e service called r code pointer len octets p q s t code-is pointer-is len-is octets-is =
    added_three a c d e _ octets (last r) _ (added_two a b c _ _ _ p q refl) s t cc

pub returns-in_default : goal.returns-in_default
returns-in_default c =
    drafted_initial c.args.draft.now c.push_all.new.self c.push_all-2.new.self c.draft.new.draft c.draft.new.draft c.args.service c.args.called c.args.redirection
    _ _ _ _ c.push_all.ensures c.push_all-2.ensures c.draft.ensures (added_none c.draft.new.draft _ (ap last c.in_default.is)) c.into.ensures
    (search rules) c.content_len-len.ensures.count (ap content c.from-called.ensures)

pub returns-in-Some : goal.returns-in-Some
returns-in-Some c =
    drafted_initial c.args.draft.now c.push_all.new.self c.push_all-2.new.self c.draft.new.draft c.draft-in-Some.new.draft c.args.service c.args.called
    c.args.redirection _ _ _ _ c.push_all.ensures c.push_all-2.ensures c.draft.ensures
    (added_same c.draft.new.draft c.draft-in-Some.new.draft _ _ c.draft-in-Some.ensures (ap last (sym c.in-Some.is))) c.into.ensures
    (search rules) c.content_len-len.ensures.count (ap content c.from-called.ensures)
