use Rattle.std.proofs.Common.{sym, ap, arith}
use Rattle.waiting.specs.Items.{holding}
use Rattle.waiting.proofs.Cut.{removed_none, within, taken_out}
use Rattle.waiting.proofs.WaitingList.take.Goals as goal

pub returns-in_err-taken-clause-after : goal.returns-in_err-taken-clause-after
returns-in_err-taken-clause-after g c =
    ap (holding c.args.self.now) (sym (removed_none c.args.self.now.items c.args.i c.in_err-taken.ensures))

pub overflow_add-i : goal.overflow_add-i
overflow_add-i g c =
    let h = within c.self.inside.slots.now c.self.inside.held c.args.i c.in_ok-taken.taken c.args.self.now c.self.view_is c.in_ok-taken.ensures in
    omega arith

pub copy_within-requires-clause-start_le_end : goal.copy_within-requires-clause-start_le_end
copy_within-requires-clause-start_le_end g c =
    let h = within c.self.inside.slots.now c.self.inside.held c.args.i c.in_ok-taken.taken c.args.self.now c.self.view_is c.in_ok-taken.ensures in
    omega arith

pub copy_within-requires-clause-dest_in_bounds : goal.copy_within-requires-clause-dest_in_bounds
copy_within-requires-clause-dest_in_bounds g c =
    let h = within c.self.inside.slots.now c.self.inside.held c.args.i c.in_ok-taken.taken c.args.self.now c.self.view_is c.in_ok-taken.ensures in
    omega (arith, c.self.invariant)

pub returns-clause-after : goal.returns-clause-after
returns-clause-after g c =
    let h = within c.self.inside.slots.now c.self.inside.held c.args.i c.in_ok-taken.taken c.args.self.now c.self.view_is c.in_ok-taken.ensures in
    taken_out c.self.inside.slots.now _ c.args.i c.self.inside.held c.args.self.now c.self.view_is c.self.invariant h
    c.copy_within.ensures.len c.copy_within.ensures.after
