use Rattle.std.proofs.Common.{false, count_by, sym, subst, ◌≡◌}
use Rattle.waiting.specs.Items.{holding, others}
use Rattle.options.specs.Cells.{Marked, is_withheld}
use Rattle.options.proofs.Meaning.{marked_without}
use Rattle.options.proofs.cells.CellStore.lift.Goals as goal

pub returns : goal.returns
returns c =
    let before = c.args.self.now in
    let p = is_withheld c.args.number in
    let after : c.take_all.new.self ≡ holding before (others p before.items) = cc in
    subst (λ l. Marked before l c.args.number false (count_by p before.items) 0) (sym after) (marked_without before c.args.number)
