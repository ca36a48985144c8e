use Rattle.std.proofs.Common.{◌≡◌, ap, ◌∙◌, rules}
use Rattle.std.specs.Option.{option_map}
use Rattle.numbers.specs.declared.number.Number.{Number}
use Rattle.waiting.specs.Items.{earliest}
use Rattle.carriage.specs.Carried.{between}
use Rattle.carriage.proofs.Mapping.{earliest-map}
use Rattle.carriage.proofs.list.ListCarrierCarrier.look.Goals as goal

pub returns : goal.returns
returns g c =
    let kept = g.S.Slot.kept in
    let p = between {N = Number} c.args.ends in
    let opened : c.map.result ≡ option_map kept c.first.result = search rules in
    opened
    ∙ ap (option_map kept) c.first.ensures
    ∙ earliest-map kept p c.self.inside.list.items
    ∙ ap (λ w. earliest p w.items) c.self.view_is
