use Rattle.std.proofs.Common.{ap, ◌∙◌}
use Rattle.waiting.specs.Items.{holding}
use Rattle.waiting.proofs.First.{found_answers, found_leaves, missing_answers, missing_leaves}
use Rattle.waiting.proofs.WaitingList.take_first.Goals as goal

pub returns-in_err-i : goal.returns-in_err-i
returns-in_err-i g c =
    let fits = g.Q.Question.fits c.args.question.now in
    let xs = c.args.self.now.items in
    record {
      answer = c.from_residual.ensures ∙ missing_answers fits xs c.in_err-i.ensures;
      after = ap (holding c.args.self.now) (missing_leaves fits xs c.in_err-i.ensures);
    }

pub returns : goal.returns
returns g c =
    let fits = g.Q.Question.fits c.args.question.now in
    let xs = c.args.self.now.items in
    record {
      answer = c.take.ensures.answer ∙ found_answers fits xs c.in_ok-i.i c.in_ok-i.ensures;
      after = c.take.ensures.after ∙ ap (holding c.args.self.now) (found_leaves fits xs c.in_ok-i.i c.in_ok-i.ensures);
    }
