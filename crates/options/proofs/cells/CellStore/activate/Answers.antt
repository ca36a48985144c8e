use Rattle.std.proofs.Common.{◌≡◌, ◌++◌, length, Some, None, Ok, Option, sym, ap, ◌∙◌, subst, arith}
use Rattle.std.specs.Option.{ok_or}
use Rattle.waiting.specs.Items.{holding, others}
use Rattle.options.specs.Records.{service_count, record_of}
use Rattle.options.specs.Cells.{Diverted, is_diversion, new_cells}
use Rattle.options.proofs.Lists.{length_without}
use Rattle.options.proofs.New.{diverted_new}
use Rattle.options.proofs.cells.CellStore.activate.Goals as goal

found : {A E : Type 0} (o : Option A) (e : E) (x : A) → Ok x ≡ ok_or o e → Some x ≡ o
found None e x h = cc
found (Some y) e x h = cc

pub fill-requires : goal.fill-requires
fill-requires c =
    let before = c.self.inside.list in
    let p = is_diversion c.args.meant in
    let all = length_without p before.items in
    let left : length c.take_all.new.self.items ≡ length (others p before.items) = ap (λ w. length w.items) c.take_all.ensures.after in
    let room : c.take_all.new.self.places ≡ before.places = ap (λ w. w.places) c.take_all.ensures.after in
    omega arith

pub returns-clause-after : goal.returns-clause-after
returns-clause-after c =
    let before = c.args.self.now in
    let meant = c.args.meant in
    let r = c.in_ok-record.record in
    let new = new_cells meant r in
    let read : Some r ≡ record_of c.args.raw.target c.args.raw.option c.args.raw.mark = found _ _ r (sym c.in_ok-record.was ∙ c.try_from.ensures) in
    let after : c.fill.new.self ≡ holding before (others (is_diversion meant) before.items ++ new) =
    c.fill.ensures
    ∙ ap (λ w. holding w (w.items ++ new)) c.take_all.ensures.after
    ∙ ap (λ w. holding w (others (is_diversion meant) w.items ++ new)) c.self.view_is in
    subst (λ o. Diverted before c.fill.new.self meant o (service_count meant.services)) read
    (subst (λ l. Diverted before l meant (Some r) (service_count meant.services)) (sym after) (diverted_new before meant r))
