use Rattle.std.proofs.Common.{◌≡◌, refl, ◌∙◌, rules}
use Rattle.std.proofs.lemmas.Result.{err_from_is_err_and}
use Rattle.std.proofs.lemmas.List.{length-set}
use Rattle.decode.specs.Parameters.{part_of}
use Rattle.decode.specs.Optional.{start}
use Rattle.decode.proofs.Walks.{begins, ahead_then, ahead_else, stops, fails}
use Rattle.decode.proofs.optional.read_optional.Goals as goal

pub loop-p-init : goal.loop-p-init
loop-p-init c =
    let w : c.default-walk.result ≡ start = search rules in
    record { within = search rules; same = search rules; flags = refl; comes = rw w (begins c.args.row c.args.part.octets.now c.args.part.place) }

pub loop-p-preserved-then-has : goal.loop-p-preserved-then-has
loop-p-preserved-then-has c =
    let i = c.loop-p.invariant in
    let h = c.in_ok-p.ensures in
    record { within = search rules; same = search rules; flags = length-set _ _ _ ∙ i.flags; comes = search (rules, ahead_then) }

pub loop-p-preserved : goal.loop-p-preserved
loop-p-preserved c =
    let i = c.loop-p.invariant in
    let h = c.in_ok-p.ensures in
    record { within = search rules; same = search rules; flags = i.flags; comes = ahead_else _ _ _ _ _ _ _ _ (part_of c.in-Some.p) i.comes i.within (search rules) (search rules) c.name-name.ensures c.if-has.ensures }

pub returns : goal.returns
returns c =
    let i = c.loop-p.invariant in
    let h = c.in_ok-p.ensures in
    c.end.ensures ∙ stops _ _ _ _ _ _ i.comes i.within (search rules)

pub returns-in_err-p : goal.returns-in_err-p
returns-in_err-p c =
    let i = c.loop-p.invariant in
    let h = c.in_err-p.ensures in
    let p = err_from_is_err_and c.from_residual.result c.from_residual.ensures.1 in
    rw (p.1, p.2) (fails _ _ _ _ _ _ _ i.comes i.within (search rules))
