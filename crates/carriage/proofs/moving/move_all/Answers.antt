use Rattle.std.proofs.Common.{◌<◌, sym, ap, ◌∙◌, arith}
use Rattle.numbers.specs.declared.number.Number.{Number}
use Rattle.waiting.specs.Items.{earliest}
use Rattle.carriage.specs.Carried.{between}
use Rattle.carriage.specs.Moved.{free_of, move_answer}
use Rattle.carriage.proofs.Moves.{all_moved, one_moved}
use Rattle.carriage.proofs.moving.move_all.Goals as goal

pub returns-in_default : goal.returns-in_default
returns-in_default g c =
    let p = between {N = Number} c.args.ends in
    let s = g.S.Carrier.waiting c.loop-moved.source in
    let none = c.in_default.ensures.answer in
    let all = all_moved p s (g.T.Carrier.waiting c.loop-moved.target) none in
    let same = c.take.ensures.after ∙ all.whole in
    record {
      answer = ap move_answer (none ∙ sym (ap (λ w. earliest p w.items) same));
      left = same ∙ sym all.left ∙ c.loop-moved.invariant.left;
      moved = sym all.moved ∙ c.loop-moved.invariant.moved;
    }

pub loop-moved-preserved : goal.loop-moved-preserved
loop-moved-preserved g c =
    let t = g.T.Carrier.waiting c.loop-moved.target in
    let free : 0 < free_of t = omega (arith, c.loop-moved.invariant.room) in
    let one =
    one_moved (between {N = Number} c.args.ends) (g.S.Carrier.waiting c.loop-moved.source) t _ _ c.in-Some.e c.in-Some.ensures.answer free
    c.take.ensures.after c.put.ensures.after in
    record {
      left = one.left ∙ c.loop-moved.invariant.left;
      moved = one.moved ∙ c.loop-moved.invariant.moved;
      room = (let r = one.room in omega (arith, c.loop-moved.invariant.room));
    }
