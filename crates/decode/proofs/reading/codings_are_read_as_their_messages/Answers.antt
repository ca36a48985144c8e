use Rattle.decode.proofs.Sound.{only_codings_are_read}
use Rattle.decode.proofs.Complete.{every_coding_is_read, one_message}
use Rattle.decode.proofs.reading.codings_are_read_as_their_messages.Goals as goal

pub returns : goal.returns
returns c = record { every = every_coding_is_read; only = only_codings_are_read; one = one_message }
