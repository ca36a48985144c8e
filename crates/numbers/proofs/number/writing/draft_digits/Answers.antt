use Rattle.std.proofs.Common.{◌≡◌, ℕ, ◌+◌, ◌-◌, ◌*◌, ◌%◌, ◌≤◌, List, [], ◌∷◌, ◌++◌, length, get_or, drop, refl, ap, sym, ◌∙◌, subst, arith}
use lib.Bits.{bit_or}
use Rattle.std.proofs.lemmas.List.{nil_from_length, take_all, length-drop, get_or-drop}
use Rattle.std.proofs.lemmas.Nat.{or_shifted}
use Rattle.numbers.specs.Digits.{pack}
use Rattle.numbers.specs.Drafts.{drafted, cut}
use Rattle.numbers.proofs.Cuts.{cut_none, cut_more}
use Rattle.numbers.proofs.number.writing.draft_digits.Goals as goal

-- the octet of the first two digits
first_two : (ds : List ℕ) → 2 ≤ length ds → ((k : ℕ) → get_or ds k 0 ≤ 9) → bit_or ((get_or ds 1 0 * 16) % 256) (get_or ds 0 0) ∷ pack (drop 2 ds) ≡ pack ds
first_two [] h f = absurd (omega arith)
first_two (d ∷ []) h f = absurd (omega arith)
first_two (d ∷ e ∷ ds) h f =
    let w : (e * 16) % 256 ≡ e * 16 = omega (arith, f 1) in
    ap (λ (o : ℕ). o ∷ pack ds) (rw w (or_shifted e 4 d (omega (arith, f 0))))

pub loop-left-preserved : goal.loop-left-preserved
loop-left-preserved c =
    let ds = c.loop-left.left.now in
    let rest = take_all (length ds - 2) (drop 2 ds) (omega (arith, length-drop 2 ds)) in (
      λ k. subst (λ (l : List ℕ). get_or l k 0 ≤ 9) (sym rest) (subst (λ (d : ℕ). d ≤ 9) (sym (get_or-drop 2 ds k 0)) (c.loop-left.invariant.0 (2 + k))),
      ap (λ (l : List ℕ). cut (drafted c.push-in-len2-up.new.self ++ pack l)) rest
          ∙ cut_more (drafted c.loop-left.draft) (drafted c.push-in-len2-up.new.self) _ (_ ∷ []) (pack (drop 2 ds)) c.push-in-len2-up.ensures refl
          ∙ ap (λ (l : List ℕ). cut (drafted c.loop-left.draft ++ l)) (first_two ds (omega arith) c.loop-left.invariant.0)
          ∙ c.loop-left.invariant.1,
    )

-- none is left
pub returns-in-empty : goal.returns-in-empty
returns-in-empty c =
    let none = nil_from_length c.loop-left.left.now (omega (arith, c.in-empty)) in
    cut_none c.loop-left.draft ∙ ap (λ (l : List ℕ). cut (drafted c.loop-left.draft ++ pack l)) (sym none) ∙ c.loop-left.invariant.1
