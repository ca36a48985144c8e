-- What lines answer, and what is written of it.
use Rattle.std.specs.Prelude.{ℕ, cond, List, [], ◌++◌, Some, None, Ok, Err, codes, decimal, Option, Result}
use Rattle.std.specs.List.{flat_map}
use Rattle.numbers.specs.declared.number.Number.{Number}
use Rattle.numbers.specs.declared.number.NumberFault.{NumberFault}
use Rattle.numbers.specs.declared.number.Party.{Party}
use Rattle.numbers.specs.Digits.{digits_of}
use Rattle.numbers.specs.Reading.{number_fault_number, read_number}
use Rattle.isup.specs.declared.message.Backward.{Backward}
use Rattle.isup.specs.declared.message.Circuit.{Circuit}
use Rattle.isup.specs.declared.message.Event.{Event}
use Rattle.isup.specs.declared.message.Event.TheVariants as event
use Rattle.isup.specs.declared.message.LineStatus.{LineStatus}
use Rattle.isup.specs.declared.message.LineStatus.TheVariants as status
use Rattle.isup.specs.declared.message.Message.{Message}
use Rattle.isup.specs.declared.message.Message.TheVariants as message
use Rattle.isup.specs.declared.message.Notice.{Notice}
use Rattle.isup.specs.declared.message.Redirection.{Redirection}
use Rattle.isup.specs.declared.message.RedirectionInformation.{RedirectionInformation}
use Rattle.isup.specs.declared.message.Restriction.{Restriction}
use Rattle.isup.specs.declared.message.Restriction.TheVariants as restriction
use Rattle.isup.specs.declared.message.Service.{Service}
use Rattle.isup.specs.declared.message.Service.TheVariants as service
use Rattle.isup.specs.Codes.{indicator_code, notification_code, reason_code}
use Rattle.decode.specs.declared.fault.MessageFault.{MessageFault}
use Rattle.decode.specs.Faults.{fault_number, fault_place, fault_within}
use Rattle.decode.specs.Messages.{read_message}
use Rattle.script.specs.declared.answer.Answer.{Answer}
use Rattle.script.specs.declared.answer.Answer.TheVariants as answered
use Rattle.script.specs.Lines.{Asked, nothing, number, read}

-- digits one after another
abbrev pub digits_text : List ℕ → List ℕ
digits_text ds = flat_map decimal ds

-- the digits of a number
abbrev pub number_text : Number → List ℕ
number_text n = digits_text (digits_of n)

-- a number, and whether it is restricted
abbrev pub party_text : Party Number → List ℕ
party_text p = number_text p.number ++ cond p.restricted (codes " restricted") []

-- a service by its word
abbrev pub service_text : Service → List ℕ
service_text service.Speech = codes "speech"
service_text service.Digital64 = codes "64k"
service_text service.Audio = codes "audio"

-- the called line by its word
abbrev pub status_text : LineStatus → List ℕ
status_text status.Free = codes "free"
status_text status.NoIndication = codes "none"

-- an event by its word
abbrev pub event_text : Event → List ℕ
event_text event.Alerting = codes "alerting"
event_text event.Progress = codes "progress"

-- the codes of the redirection information, and how often the call was diverted
abbrev pub information_text : RedirectionInformation → List ℕ
information_text i =
    codes "indicator " ++ (decimal (indicator_code i.indicator) ++ (codes " count " ++ (decimal i.count.value ++ (codes " reason " ++ decimal (reason_code i.reason)))))

-- both numbers and the information, if there is a redirection
abbrev pub redirection_text : Option (Redirection Number) → List ℕ
redirection_text None = []
redirection_text (Some r) =
    codes " redirecting " ++ (party_text r.redirecting ++ (codes " original " ++ (party_text r.original ++ (codes " " ++ information_text r.information))))

-- the codes of the notice and the redirection number, if there is a notice
abbrev pub notice_text : Option (Notice Number) → List ℕ
notice_text None = []
notice_text (Some n) =
    codes " notice option " ++ (decimal (notification_code n.information.notification) ++ (codes " reason " ++ (decimal (reason_code n.information.reason)
    ++ (codes " number " ++ number_text n.number))))

-- whether the number may be shown, if that is said
abbrev pub restriction_text : Option Restriction → List ℕ
restriction_text None = []
restriction_text (Some restriction.Allowed) = codes " number-shown"
restriction_text (Some restriction.Restricted) = codes " number-restricted"

-- whether the call may be diverted, then the notice and the restriction
abbrev pub backward_text : Backward Number → List ℕ
backward_text b = cond b.may_divert (codes " may-divert") [] ++ (notice_text b.notice ++ restriction_text b.restriction)

-- the call and its leg
abbrev pub circuit_text : Circuit → List ℕ
circuit_text c = codes "call " ++ (decimal c.call ++ (codes " leg " ++ decimal c.leg))

-- a message by its short name, its circuit and its fields
abbrev pub message_text : Circuit → Message Number → List ℕ
message_text c (message.InitialAddress s n r) =
    codes "message IAM " ++ (circuit_text c ++ (codes " service " ++ (service_text s ++ (codes " called " ++ (number_text n ++ redirection_text r)))))
message_text c (message.AddressComplete s b) = codes "message ACM " ++ (circuit_text c ++ (codes " " ++ (status_text s ++ backward_text b)))
message_text c (message.CallProgress e b) = codes "message CPG " ++ (circuit_text c ++ (codes " " ++ (event_text e ++ backward_text b)))
message_text c (message.Answer r) = codes "message ANM " ++ (circuit_text c ++ restriction_text r)
message_text c (message.Connect r) = codes "message CON " ++ (circuit_text c ++ restriction_text r)
message_text c (message.Release x) = codes "message REL " ++ (circuit_text c ++ (codes " cause " ++ decimal x.value))

-- ---- what a line answers

-- the digits and the count of the octets that held them, then the mark
abbrev pub number_read_text : Result (Party Number × ℕ) NumberFault → List ℕ
number_read_text (Ok r) = codes "number " ++ (number_text r.0.number ++ (codes " used " ++ (decimal r.1 ++ cond r.0.restricted (codes " restricted") [])))
number_read_text (Err f) = codes "fault " ++ decimal (number_fault_number f)

-- a number's own fault, if there is one
abbrev pub within_text : Option NumberFault → List ℕ
within_text None = []
within_text (Some f) = codes " number " ++ decimal (number_fault_number f)

-- what a message says, or its fault with the place
abbrev pub message_read_text : Result (Circuit × Message Number) MessageFault → List ℕ
message_read_text (Ok r) = message_text r.0 r.1
message_read_text (Err f) = codes "fault " ++ (decimal (fault_number f) ++ (codes " at " ++ (decimal (fault_place f) ++ within_text (fault_within f))))

-- what was read
abbrev pub answer_text : Answer → List ℕ
answer_text (answered.Number r) = number_read_text r
answer_text (answered.Message r) = message_read_text r

-- what is answered to what a line asks for
abbrev pub answer : Asked → Option Answer
answer nothing = None
answer (number restrict octets) = Some (answered.Number (read_number restrict octets))
answer (read octets) = Some (answered.Message (read_message octets))
