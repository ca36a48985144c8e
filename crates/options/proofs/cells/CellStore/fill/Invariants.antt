use Rattle.std.proofs.Common.{◌≡◌, ◌++◌, map, take}
use Rattle.waiting.specs.Items.{holding}
use Rattle.options.specs.declared.cells.Cell.TheVariants.{Diversion}
use Rattle.options.proofs.cells.CellStore.fill.Given as goal

-- the cells of the services so far are behind those that were there
abbrev pub invariant-loop-service : goal.invariant-loop-service
invariant-loop-service l =
    l.self-inside.list
    ≡ holding l.fn.self (l.fn.self.items
    ++ map (λ s. Diversion l.fn.meant.number s l.fn.meant.kind l.fn.record) (take l.service-index l.service-items))
