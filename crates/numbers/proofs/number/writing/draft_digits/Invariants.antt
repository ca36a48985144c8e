use Rattle.std.proofs.Common.{◌≡◌, ℕ, ◌≤◌, ◌++◌, length, get_or}
use Rattle.numbers.specs.Digits.{pack}
use Rattle.numbers.specs.Drafts.{drafted, cut}
use Rattle.numbers.proofs.number.writing.draft_digits.Given as goal

-- what is drafted and the digits that are left make up the whole
abbrev pub invariant-loop-left : goal.invariant-loop-left
invariant-loop-left l =
    ((k : ℕ) → get_or l.left k 0 ≤ 9)
    × (cut (drafted l.draft ++ pack l.left) ≡ cut (drafted l.initial.draft ++ pack l.digits))

abbrev pub decreases-loop-left : goal.decreases-loop-left
decreases-loop-left l = length l.left
