use Rattle.std.proofs.Common.{sym, ◌∙◌}
use Rattle.std.proofs.lemmas.Slice.Eq.{slice_eq-Decides}
use Rattle.numbers.proofs.Compares.{compared}
use Rattle.numbers.proofs.number.comparing.NumberPartialEq.eq.Goals as goal
use Rattle.std.proofs.lemmas.Bool.Decides.{Decides-eqb}

pub returns : goal.returns
returns c =
    let e = c.digits.ensures in
    let f = c.digits-2.ensures in
    let h = slice_eq-Decides Decides-eqb c.digits.result.now c.digits-2.result.now c.eq.result c.eq.ensures in
    compared c.args.self.now c.args.other.now c.eq.result (λ t. sym e ∙ h.0 t ∙ f, λ q. h.1 (e ∙ q ∙ sym f))
