use Rattle.std.proofs.Common.{◌≡◌, true, cond, is_err, MatchResult, sym, ap, ◌∙◌, subst, rules}
use Rattle.options.specs.Cells.{Marked, withheld_in}
use Rattle.options.proofs.Meaning.{mark_put}
use Rattle.options.proofs.cells.CellStore.withhold.Goals as goal

pub returns-clause-after : goal.returns-clause-after
returns-clause-after c =
    let refused : is_err c.map_err.result ≡ is_err c.put.result = search rules in
    subst (λ cells. MatchResult c.map_err.result (λ _. Marked cells c.put.new.self c.args.number true 0 (cond (withheld_in cells.items c.args.number) 0 1)) (λ _. c.put.new.self ≡ cells))
    c.self.view_is
    (mark_put c.self.inside.list c.put.new.self c.args.number c.map_err.result
    (ap (λ w. withheld_in w.items c.args.number) c.self.view_is ∙ sym c.if-is_withheld.ensures)
    (refused ∙ c.put.ensures.answer) c.put.ensures.after)
