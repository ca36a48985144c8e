use Rattle.std.proofs.Common.{◌≡◌, ap, ◌∙◌, rules}
use Rattle.std.specs.Option.{option_map}
use Rattle.numbers.specs.declared.number.Number.{Number}
use Rattle.waiting.specs.Items.{holding, earliest, without_earliest}
use Rattle.carriage.specs.Carried.{between, unpacked}
use Rattle.carriage.proofs.Mapping.{earliest-map, taken-unpacked}
use Rattle.carriage.proofs.list.ListCarrierCarrier.take.Goals as goal

pub returns-clause-answer : goal.returns-clause-answer
returns-clause-answer g c =
    let kept = g.S.Slot.kept in
    let p = between {N = Number} c.args.ends in
    let opened : c.map.result ≡ option_map kept c.take_first.result = search rules in
    opened
    ∙ ap (option_map kept) c.take_first.ensures.answer
    ∙ earliest-map kept p c.self.inside.list.items
    ∙ ap (λ w. earliest p w.items) c.self.view_is

pub returns-clause-after : goal.returns-clause-after
returns-clause-after g c =
    let kept = g.S.Slot.kept in
    let p = between {N = Number} c.args.ends in
    ap (unpacked kept) c.take_first.ensures.after
    ∙ taken-unpacked kept p c.self.inside.list
    ∙ ap (λ w. holding w (without_earliest p w.items)) c.self.view_is
