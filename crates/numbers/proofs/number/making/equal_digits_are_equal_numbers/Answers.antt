use Rattle.numbers.proofs.Same.{equal_digits}
use Rattle.numbers.proofs.number.making.equal_digits_are_equal_numbers.Goals as goal

pub returns : goal.returns
returns c = equal_digits
