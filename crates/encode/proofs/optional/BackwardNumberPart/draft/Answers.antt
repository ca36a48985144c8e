use Rattle.std.proofs.Common.{◌≡◌, Bool, true, false, [], ◌∷◌, ◌++◌, Some, None, Option, sym, refl, ap, ◌∙◌}
use Rattle.numbers.specs.declared.number.Number.{Number}
use Rattle.isup.specs.declared.message.Notice.{Notice}
use Rattle.isup.specs.declared.message.Restriction.{Restriction}
use Rattle.isup.specs.Coding.{encoded, behind}
use Rattle.encode.specs.Sending.{octets_if, any_sent, may_divert_sent, notice_sent, restriction_sent, backward_sent}
use Rattle.encode.proofs.Adds.{added_same, added_two, added_three, encoded_three}
use Rattle.encode.proofs.optional.BackwardNumberPart.draft.Goals as goal

notice_octets : (n : Option (Notice Number)) → octets_if (λ x. encoded (notice_sent (Some x))) n ≡ encoded (notice_sent n)
notice_octets (Some n) = refl
notice_octets None = refl

restriction_octets : (r : Option Restriction) → octets_if (λ x. encoded (restriction_sent (Some x))) r ≡ encoded (restriction_sent r)
restriction_octets (Some r) = refl
restriction_octets None = refl

-- nothing is sent: pointer 00 and no optional part
pub returns-then-not-sends_any : goal.returns-then-not-sends_any
returns-then-not-sends_any c =
    let b = c.args.self.now in
    let none : any_sent (backward_sent b) ≡ false = sym c.sends_any.ensures ∙ c.if-not-sends_any.true in
    added_same c.args.draft.now c.push.new.self (0 ∷ []) _ c.push.ensures (ap (λ (t : Bool). behind None t (backward_sent b)) (sym none))

pub returns : goal.returns
returns c =
    let b = c.args.self.now in
    let may = may_divert_sent b.may_divert in
    let notice = notice_sent b.notice in
    let restriction = restriction_sent b.restriction in
    let any : any_sent (backward_sent b) ≡ true = sym c.sends_any.ensures ∙ c.if-not-sends_any.false in
    let told = added_same c.draft_may_divert.new.draft c.draft.new.draft _ (encoded notice) c.draft.ensures (notice_octets b.notice) in
    let shown = added_same c.draft.new.draft c.draft-2.new.draft _ (encoded restriction) c.draft-2.ensures (restriction_octets b.restriction) in
    let last = added_two c.draft.new.draft c.draft-2.new.draft c.push-3.new.self (encoded restriction) (0 ∷ []) _ shown c.push-3.ensures refl in
    let parts =
    added_three c.push-2.new.self c.draft_may_divert.new.draft c.draft.new.draft c.push-3.new.self (encoded may) (encoded notice)
    (encoded restriction ++ (0 ∷ [])) (encoded (backward_sent b) ++ (0 ∷ [])) c.draft_may_divert.ensures told last (encoded_three may notice restriction (0 ∷ [])) in
    added_two c.args.draft.now c.push-2.new.self c.push-3.new.self (1 ∷ []) (encoded (backward_sent b) ++ (0 ∷ [])) _ c.push-2.ensures parts
    (ap (λ (t : Bool). behind None t (backward_sent b)) (sym any))
