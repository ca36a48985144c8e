-- What reading a message answers, front to back.
use Rattle.std.specs.Prelude.{ℕ, ◌+◌, ◌-◌, Bool, false, cond, List, length, take, drop, Some, None, Ok, Err, Option, Result, ◌==◌, nat_le, nat_lt, slice_index}
use Rattle.numbers.specs.declared.number.Number.{Number}
use Rattle.numbers.specs.Reading.{read_number}
use Rattle.isup.specs.declared.message.Service.{Service}
use Rattle.isup.specs.declared.message.Circuit.{Circuit}
use Rattle.isup.specs.declared.message.Redirection.{Redirection}
use Rattle.isup.specs.declared.message.Notice.{Notice}
use Rattle.isup.specs.declared.message.Backward.{Backward}
use Rattle.isup.specs.declared.message.Message.{Message}
use Rattle.isup.specs.declared.message.Message.TheVariants.{InitialAddress, AddressComplete, CallProgress, Answer, Connect, Release}
use Rattle.isup.specs.declared.row.Row.{Row}
use Rattle.isup.specs.declared.row.Row.TheVariants as row
use Rattle.isup.specs.Ranges.{circuit_from}
use Rattle.isup.specs.Codes.{service_of, status_of, event_of}
use Rattle.decode.specs.declared.fault.MessageFault.{MessageFault}
use Rattle.decode.specs.declared.fault.MessageFault.TheVariants as fault
use Rattle.decode.specs.declared.optional.Gathered.{Gathered}
use Rattle.decode.specs.Faults.{then, or_value_fault}
use Rattle.decode.specs.Values.{cause_from}
use Rattle.decode.specs.Optional.{number_at, optional_from, nothing}

-- an octet that must be there
abbrev pub octet_in : List ℕ → ℕ → Result ℕ MessageFault
octet_in xs at = cond (nat_le (length xs) at) (Err (fault.Missing at)) (Ok (slice_index xs at))

-- an octet that can have one value only
abbrev pub exact_in : List ℕ → ℕ → ℕ → Result (Unit {0}) MessageFault
exact_in xs at n = cond (nat_le (length xs) at) (Err (fault.Missing at)) (cond (slice_index xs at == n) (Ok tt) (Err (fault.Value at None)))

-- the variable field: the pointer leads over the next one, to a length octet and the content
abbrev pub variable_in : List ℕ → ℕ → Result (List ℕ) MessageFault
variable_in xs at =
    cond (nat_le (length xs) at) (Err (fault.Missing at))
    (cond (slice_index xs at == 2)
    (cond (nat_le (length xs) (at + 2)) (Err (fault.Missing (at + 2)))
    (cond (nat_lt (length xs) (at + 3 + slice_index xs (at + 2))) (Err (fault.Missing (at + 2))) (Ok (take (slice_index xs (at + 2)) (drop (at + 3) xs)))))
    (Err (fault.Pointer at)))

-- the optional part, or none, by the pointer at a place and the end of the mandatory part, which it follows at once
abbrev pub optional_in : Row → List ℕ → ℕ → ℕ → Result Gathered MessageFault
optional_in r xs at end =
    cond (slice_index xs at == 0) (cond (nat_lt end (length xs)) (Err (fault.Pointer end)) (Ok nothing))
    (cond (slice_index xs at == end - at) (optional_from r xs end) (Err (fault.Pointer at)))

-- the same in a message without a variable field, where the pointer ends the mandatory part
abbrev pub tail_in : Row → List ℕ → ℕ → Result Gathered MessageFault
tail_in r xs at = cond (nat_le (length xs) at) (Err (fault.Missing at)) (optional_in r xs at (at + 1))

-- three parts that stand all or none; n is the length of the message
abbrev pub all_or_none : {A B C D : Type 0} → (A → B → C → D) → Option A → Option B → Option C → ℕ → Result (Option D) MessageFault
all_or_none f (Some a) (Some b) (Some c) n = Ok (Some (f a b c))
all_or_none f (Some a) (Some b) None n = Err (fault.Group n)
all_or_none f (Some a) None c n = Err (fault.Group n)
all_or_none f None (Some b) c n = Err (fault.Group n)
all_or_none f None None (Some c) n = Err (fault.Group n)
all_or_none f None None None n = Ok None

abbrev pub redirection_in : Gathered → ℕ → Result (Option (Redirection Number)) MessageFault
redirection_in g n = all_or_none (λ a b i. record { redirecting = a; original = b; information = i }) g.redirecting g.original g.information n

abbrev pub if_announced : Bool → Option (Unit {0})
if_announced b = cond b (Some tt) None

abbrev pub notice_in : Gathered → ℕ → Result (Option (Notice Number)) MessageFault
notice_in g n = all_or_none (λ _ d m. record { information = d; number = m }) (if_announced g.announced) g.diversion g.redirection n

abbrev pub service_in : List ℕ → Result Service MessageFault
service_in xs =
    then (exact_in xs 3 0x00) (λ _. then (exact_in xs 4 0x20) (λ _. then (exact_in xs 5 0x01) (λ _. then (exact_in xs 6 0x0A) (λ _.
    then (octet_in xs 7) (λ code. or_value_fault (service_of code) 7)))))

abbrev pub initial_address_in : List ℕ → Result (Message Number) MessageFault
initial_address_in xs =
    then (service_in xs) (λ service. then (variable_in xs 8) (λ content. then (number_at 10 (read_number false content)) (λ called.
    then (optional_in row.Initial xs 9 (11 + length content)) (λ g. then (redirection_in g (length xs)) (λ r. Ok (InitialAddress service called.number r))))))

-- what an address complete and a call progress have behind their pointer; n is the length of the message
abbrev pub backward_of : Gathered → ℕ → Result (Backward Number) MessageFault
backward_of g n = then (notice_in g n) (λ m. Ok (record { may_divert = g.may_divert; notice = m; restriction = g.restriction }))

abbrev pub backward_in : List ℕ → ℕ → Result (Backward Number) MessageFault
backward_in xs at = then (tail_in row.Backward xs at) (λ g. backward_of g (length xs))

abbrev pub address_complete_in : List ℕ → Result (Message Number) MessageFault
address_complete_in xs =
    then (octet_in xs 3) (λ code. then (or_value_fault (status_of code) 3) (λ status. then (exact_in xs 4 0x14) (λ _. then (backward_in xs 5) (λ b. Ok (AddressComplete status b)))))

abbrev pub call_progress_in : List ℕ → Result (Message Number) MessageFault
call_progress_in xs =
    then (octet_in xs 3) (λ code. then (or_value_fault (event_of code) 3) (λ event. then (backward_in xs 4) (λ b. Ok (CallProgress event b))))

abbrev pub answer_in : List ℕ → Result (Message Number) MessageFault
answer_in xs = then (tail_in row.Connected xs 3) (λ g. Ok (Answer g.restriction))

abbrev pub connect_in : List ℕ → Result (Message Number) MessageFault
connect_in xs = then (exact_in xs 3 0x04) (λ _. then (exact_in xs 4 0x14) (λ _. then (tail_in row.Connected xs 5) (λ g. Ok (Connect g.restriction))))

abbrev pub release_in : List ℕ → Result (Message Number) MessageFault
release_in xs =
    then (variable_in xs 3) (λ content. then (or_value_fault (cause_from content) 5) (λ cause.
    then (optional_in row.Bare xs 4 (6 + length content)) (λ _. Ok (Release cause))))

abbrev pub message_in : List ℕ → Result (Message Number) MessageFault
message_in xs =
    cond (slice_index xs 2 == 0x01) (initial_address_in xs)
    (cond (slice_index xs 2 == 0x06) (address_complete_in xs)
    (cond (slice_index xs 2 == 0x2C) (call_progress_in xs)
    (cond (slice_index xs 2 == 0x09) (answer_in xs)
    (cond (slice_index xs 2 == 0x07) (connect_in xs)
    (cond (slice_index xs 2 == 0x0C) (release_in xs) (Err fault.Kind))))))

-- the length, then the circuit, then the type and what it asks for
abbrev pub read_message : List ℕ → Result (Circuit × Message Number) MessageFault
read_message xs =
    cond (nat_lt (length xs) 3) (Err fault.Length)
    (cond (nat_lt 255 (length xs)) (Err fault.Length)
    (then (or_value_fault (circuit_from (slice_index xs 0) (slice_index xs 1)) 0) (λ c. then (message_in xs) (λ m. Ok (c, m)))))
