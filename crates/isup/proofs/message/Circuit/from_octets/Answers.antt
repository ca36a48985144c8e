use Rattle.std.proofs.Common.{◌≡◌, ℕ, ◌+◌, ◌*◌, ◌/◌, ◌%◌, ap, ◌∙◌, arith}
use Rattle.std.proofs.lemmas.Nat.{and_mask}
use Rattle.isup.specs.Ranges.{circuit_in}
use Rattle.isup.proofs.message.Circuit.from_octets.Goals as goal

pub returns : goal.returns
returns c =
    let v = c.from_le_bytes-value in
    let worth : v.result ≡ c.args.high * 256 + c.args.low = omega arith in
    c.new.ensures ∙ ap (λ (l : ℕ). circuit_in (v.result / 8) l) (and_mask v.result 3) ∙ ap (λ (n : ℕ). circuit_in (n / 8) (n % 8)) worth
