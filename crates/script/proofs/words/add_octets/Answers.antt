use Rattle.std.proofs.Common.{◌≡◌, is_ok, vec_items, Some, None, sym, ap, subst, arith}
use Rattle.std.proofs.ResultArms.{chosen}
use Rattle.std.proofs.lemmas.Result.{err_from_is_err_and}
use Rattle.script.specs.declared.line.LineError.TheVariants.{NotOctets}
use Rattle.script.specs.Lines.{octet_of}
use Rattle.script.proofs.Spelling.{Sofar, next_octet, no_octet}
use Rattle.script.proofs.words.add_octets.Goals as goal

pub loop-pair-preserved : goal.loop-pair-preserved
loop-pair-preserved c =
    let pushed = chosen _ _ _ _ c.push.ensures.items (ap is_ok c.in_ok-push.was) in
    let some : octet_of c.in-Some.pair.now ≡ Some c.in_ok-ok_or.field-0 = grind arith in
    let next = next_octet c.loop-pair.invariant c.next.new.self c.in-Some.pair c.in-Some.ensures.steps c.in_ok-ok_or.field-0 some in
    subst (λ l. Sofar c.args.word.now (vec_items c.args.octets.now) l c.next.new.self) (sym pushed) next

pub returns-in_err-ok_or : goal.returns-in_err-ok_or
returns-in_err-ok_or c =
    let none : octet_of c.in-Some.pair.now ≡ None = grind arith in
    let stopped = no_octet c.loop-pair.invariant c.next.new.self c.in-Some.pair c.in-Some.ensures.steps none in
    let error : c.in_err-ok_or.field-0.0 ≡ NotOctets c.args.word = grind arith in
    let p = err_from_is_err_and c.from_residual.result c.from_residual.ensures.1 in
    rw (p.1, p.2, error) stopped
