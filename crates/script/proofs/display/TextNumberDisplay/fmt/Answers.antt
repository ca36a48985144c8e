use Rattle.std.proofs.Common.{[], take, get_or, decimal, sym, refl, ap, ◌∙◌}
use Rattle.std.proofs.Output.{has_written_append, has_written_of_eq}
use Rattle.std.proofs.lemmas.List.{flat_map_more, take_more}
use Rattle.script.specs.Answers.{digits_text}
use Rattle.script.proofs.display.TextNumberDisplay.fmt.Goals as goal

pub loop-digit-preserved : goal.loop-digit-preserved
loop-digit-preserved g c = λ plain.
    let ds = c.digits-digit-items.result.now in
    let i = c.loop-digit.digit-index in
    let old = c.loop-digit.invariant plain in
    let more = flat_map_more decimal [] (take i ds) (get_or ds i 0) ∙ ap digits_text (sym (take_more ds i 0 c.loop-digit-test.true)) in
    has_written_of_eq _ _ _ _ _ more (has_written_append _ _ _ _ _ _ old (c.in_ok-write.ensures.writes old.plain refl))
