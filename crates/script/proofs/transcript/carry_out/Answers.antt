use Rattle.std.proofs.Common.{◌≡◌, ℕ, List, length, lit<, ap, ◌∙◌, ◌<◌, Bor, arith}
use Rattle.std.proofs.lemmas.Iterator.{YieldsList}
use Rattle.std.proofs.lemmas.Iterator.Consumers.{YieldsList-from_enumerate, YieldsList-at, YieldsList-turn, YieldsList-end}
use Rattle.std.proofs.lemmas.Iterator.Splits.{YieldsList-from_str_split}
use Rattle.std.proofs.lemmas.List.{length_push}
use Rattle.std.proofs.lemmas.List.FromFn.{length-enumerate_from, get_or-enumerate_from}
use Rattle.std.specs.Iterator.Adapters.{enumerate_steps}
use Rattle.std.specs.List.{enumerate_from}
use Rattle.std.specs.Str.Iter.{split_steps}
use Rattle.std.specs.Str.Pattern.{FindsChar}
use Rattle.script.specs.Words.{newline, lines}
use Rattle.script.proofs.CarryingOut.{goes_on, ends}
use Rattle.script.proofs.transcript.carry_out.Goals as goal
use Rattle.script.proofs.transcript.carry_out.Goals.{After-into_iter-index-iterator}

-- the lines come one by one, each with its index
numbered : (c : After-into_iter-index-iterator) → YieldsList (enumerate_steps (split_steps FindsChar (λ a b. b ≡ a))) (λ (p : ℕ × Bor (List ℕ)). (p.0, p.1.now)) c.into_iter-index-iterator.result (enumerate_from 0 (lines c.args.script.now))
numbered c =
    YieldsList-at c.into_iter-index-iterator.ensures.into_iter_gives
    (YieldsList-from_enumerate (YieldsList-at c.enumerate-index-items.ensures.source (YieldsList-from_str_split newline c.args.script.now (lit< tt) c.split.ensures.text c.split.ensures.has_more c.split.ensures.pattern))
    c.enumerate-index-items.ensures.count)

pub loop-index-preserved : goal.loop-index-preserved
loop-index-preserved c =
    let all = lines c.args.script.now in
    let xs = c.loop-index.yielded in
    let turn = YieldsList-turn (numbered (goal.at.loop-index-preserved c).After-into_iter-index-iterator) xs _ c.loop-index.yielded_by _ _ (c.in-Some.index, c.in-Some.line) c.in-Some.is c.next.ensures.steps in
    let inside : length xs < length all = omega (arith, turn.0, length-enumerate_from 0 all) in
    let at = turn.1 ∙ get_or-enumerate_from 0 all (length xs) _ inside in
    let index : c.in-Some.index ≡ length xs = omega (arith, ap (λ p. p.0) at) in
    let step = rw index at c.in_ok-carry_out.ensures in
    rw (length_push xs (c.in-Some.index, c.in-Some.line))
    (goes_on all (length xs) _ _ c.loop-index.invariant c.in-Some.line.now _ inside (ap (λ p. p.1) at) (rw index at c.in-Some.ensures.steps.3) step)

pub returns : goal.returns
returns c =
    let all = lines c.args.script.now in
    let xs = c.loop-index.yielded in
    let end = YieldsList-end (numbered (goal.at.returns c).After-into_iter-index-iterator) xs _ c.loop-index.yielded_by _ _ c.in-None.is c.next.ensures.steps in
    ends all (length xs) _ _ c.loop-index.invariant (omega (arith, end.1, length-enumerate_from 0 all))
