use Rattle.std.proofs.Common.{◌≡◌, None, sym, subst}
use Rattle.waiting.specs.Items.{holding, others}
use Rattle.options.specs.Cells.{Diverted, is_diversion}
use Rattle.options.proofs.Meaning.{diverted_without}
use Rattle.options.proofs.cells.CellStore.deactivate.Goals as goal

pub returns-clause-after : goal.returns-clause-after
returns-clause-after c =
    let before = c.args.self.now in
    let after : c.take_all.new.self ≡ holding before (others (is_diversion c.args.meant) before.items) = cc in
    subst (λ l. Diverted before l c.args.meant None 0) (sym after) (diverted_without before c.args.meant)
