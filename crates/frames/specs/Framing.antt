-- What octets are the frame of.
use Rattle.std.specs.Prelude.{ℕ, ◌+◌, ◌-◌, ◌*◌, cond, List, length, take, drop, Some, None, Option, nat_lt, slice_index}
use Rattle.std.specs.Result.{result_ok}
use Rattle.numbers.specs.declared.number.Number.{Number}
use Rattle.isup.specs.declared.message.Circuit.{Circuit}
use Rattle.isup.specs.declared.message.Envelope.{Envelope}
use Rattle.isup.specs.declared.message.Message.{Message}
use Rattle.isup.specs.declared.message.Way.{Way}
use Rattle.isup.specs.Codes.{way_of}
use Rattle.isup.specs.Ranges.{Exchange, exchange_in}
use Rattle.decode.specs.Messages.{read_message}

-- where a frame ends: behind the two octets of the length and what follows them
abbrev pub end_in : List ℕ → ℕ
end_in xs = 2 + slice_index xs 0 * 256 + slice_index xs 1

-- the octets of the message: behind length, from, to and way
abbrev pub message_octets : List ℕ → List ℕ
message_octets xs = take (end_in xs - 5) (drop 5 xs)

-- the envelope of the parts that were read, where all of them are there
abbrev pub envelope_of_parts : Option Exchange → Option Exchange → Option Way → Option (Circuit × Message Number) → Option (Envelope Number)
envelope_of_parts (Some f) (Some t) (Some w) (Some p) = Some (record { from = f; to = t; way = w; circuit = p.0; message = p.1 })
envelope_of_parts (Some f) (Some t) (Some w) None = None
envelope_of_parts (Some f) (Some t) None p = None
envelope_of_parts (Some f) None w p = None
envelope_of_parts None t w p = None

-- the envelope that octets are the frame of, where they are one
unfoldable pub envelope_in : List ℕ → Option (Envelope Number)
envelope_in xs =
    cond (nat_lt (length xs) 5) None (cond (nat_lt (end_in xs) 5) None (cond (nat_lt (length xs) (end_in xs)) None
    (envelope_of_parts (exchange_in (slice_index xs 2)) (exchange_in (slice_index xs 3)) (way_of (slice_index xs 4)) (result_ok (read_message (message_octets xs))))))
