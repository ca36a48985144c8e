use Rattle.numbers.proofs.Contents.{sound, complete, one_number}
use Rattle.numbers.proofs.number.reading.numbers_are_read_as_coded.Goals as goal

pub returns : goal.returns
returns c = record { read = record { sound = sound; complete = complete }; one = one_number }
