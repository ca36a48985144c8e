use Rattle.std.proofs.Common.{◌∙◌, rules, tests}
use Rattle.std.proofs.lemmas.Iterator.{YieldsList-from_slice}
use Rattle.std.proofs.lemmas.Iterator.Search.{find_from_yields_List}
use Rattle.waiting.proofs.WaitingList.first.Goals as goal

pub returns : goal.returns
returns g c =
    let fits = g.Q.Question.fits c.args.question.now in
    c.copied.ensures
    ∙ find_from_yields_List fits _ _ c.find.result c.find.ensures.ran (YieldsList-from_slice c.args.self.now.items cc) (λ x b q k. search (rules, tests))
