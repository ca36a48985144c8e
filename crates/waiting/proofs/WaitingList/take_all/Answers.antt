use Rattle.std.proofs.Common.{sym, ap, ◌∙◌, arith, not}
use Rattle.std.proofs.lemmas.Grind.{common_steps}
use Rattle.std.proofs.lemmas.List.{append-nil}
use Rattle.std.proofs.lemmas.List.Elements.{filter_more}
use Rattle.waiting.specs.Items.{first_fit}
use Rattle.waiting.proofs.First.{passed}
use Rattle.waiting.proofs.WaitingList.take_all.Goals as goal
use Rattle.waiting.proofs.WaitingList.take_all.Goals.{then-not-asks, else-not-asks}

pub loop-i-init : goal.loop-i-init
loop-i-init g c =
    let fits = g.Q.Question.fits c.args.question.now in
    let found = c.find.ensures ∙ sym (ap (λ w. first_fit fits w.items) c.self.view_is) in
    let stays = passed fits c.self.inside.slots.now c.self.inside.held c.find.result c.self.invariant c.unwrap_or-first.ensures (omega arith) found in
    grind arith

pub loop-i-preserved : goal.loop-i-preserved
loop-i-preserved g c =
    let more = filter_more (λ x. not (g.Q.Question.fits c.args.question.now x)) c.self.inside.slots.now c.loop-i.i c.index-self-i.result in
    elim c.if-not-asks.branch [
      | then-not-asks w ↦ grind (arith, common_steps, more)
      | else-not-asks w ↦ grind (arith, common_steps, more, append-nil)
    ]
