use Rattle.std.proofs.Common.{◌≡◌, ℕ, ◌*◌, length, get_or, take}
use Rattle.numbers.specs.Reading.{unpack}
use Rattle.numbers.proofs.number.reading.halves.Given as goal

-- the halves of the octets before k, and zeros behind them
abbrev pub invariant-loop-k : goal.invariant-loop-k
invariant-loop-k l = (length l.halves ≡ 16) × ((j : ℕ) → get_or l.halves j 0 ≡ get_or (take (2 * l.k) (unpack l.octets)) j 0)
