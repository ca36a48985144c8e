use Rattle.std.proofs.lemmas.Result.{err_from_is_err_and}
use Rattle.script.proofs.Spelling.{next_word, wrong_word, hands_on}
use Rattle.script.proofs.words.octets.Goals as goal

pub loop-word-preserved : goal.loop-word-preserved
loop-word-preserved c = next_word _ _ _ _ c.loop-word.invariant _ c.loop-word-test.true c.in_ok-add_octets.ensures

pub returns-in_err-add_octets : goal.returns-in_err-add_octets
returns-in_err-add_octets c =
    let p = err_from_is_err_and c.from_residual.result c.from_residual.ensures.1 in
    rw (p.1, p.2) (hands_on _ _ _ (λ e. wrong_word _ _ _ _ c.loop-word.invariant e c.loop-word-test.true) c.in_err-add_octets.ensures)
