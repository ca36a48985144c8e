-- Records by the numbers that they are asked for with; services and kinds compared.
use Rattle.std.specs.Prelude.{ℕ, Bool, true, false, cond, List, [], ◌∷◌, is_some, Some, None, Option, Result, ◌==◌}
use Rattle.isup.specs.declared.message.Service.{Service}
use Rattle.isup.specs.declared.message.Service.TheVariants.{Speech, Digital64, Audio}
use Rattle.isup.specs.declared.codes.UnknownCode.{UnknownCode}
use Rattle.isup.specs.Codes.{service_code, known}
use Rattle.numbers.specs.declared.number.Number.{Number}
use Rattle.options.specs.declared.record.Kind.{Kind}
use Rattle.options.specs.declared.record.Kind.TheVariants as kind
use Rattle.options.specs.declared.record.NotificationOption.{NotificationOption}
use Rattle.options.specs.declared.record.NotificationOption.TheVariants as option
use Rattle.options.specs.declared.record.RawRecord.{RawRecord}
use Rattle.options.specs.declared.record.Record.{Record}
use Rattle.options.specs.declared.record.Services.{Services}
use Rattle.options.specs.declared.record.Services.TheVariants.{One, All}

-- the place of a kind among the four
abbrev pub kind_place : Kind → ℕ
kind_place kind.Unconditional = 0
kind_place kind.Busy = 1
kind_place kind.NoReply = 2
kind_place kind.Deflection = 3

-- whether two kinds are one
abbrev pub same_kind : Kind → Kind → Bool
same_kind a b = kind_place a == kind_place b

-- whether two services are one
abbrev pub same_service : Service → Service → Bool
same_service a b = service_code a == service_code b

-- whether a service is among those meant
abbrev pub serves : Services → Service → Bool
serves (One t) s = same_service t s
serves All s = true

-- the services that are meant
abbrev pub services_in : Services → List Service
services_in (One t) = t ∷ []
services_in All = Speech ∷ Digital64 ∷ Audio ∷ []

-- how many services are meant
abbrev pub service_count : Services → ℕ
service_count (One t) = 1
service_count All = 3

-- the option with a number from 1 to 3
abbrev pub option_of : ℕ → Option NotificationOption
option_of n =
    cond (n == 1) (Some option.NotAllowed)
    (cond (n == 2) (Some option.WithNumber) (cond (n == 3) (Some option.WithoutNumber) None))

-- the release mark with a number 0 or 1
abbrev pub release_of : ℕ → Option Bool
release_of n = cond (n == 0) (Some false) (cond (n == 1) (Some true) None)

-- the record of its parts, where the option and the mark are there
abbrev pub record_with : {N : Type 0} → N → Option NotificationOption → Option Bool → Option (Record N)
record_with target None mark = None
record_with target (Some o) None = None
record_with target (Some o) (Some m) = Some (record { target = target; option = o; may_release = m })

-- the record with these numbers; none where one is out of its range
abbrev pub record_of : {N : Type 0} → N → ℕ → ℕ → Option (Record N)
record_of target o m = record_with target (option_of o) (release_of m)

-- the record of its raw parts, or the option or else the mark that is out of its range
abbrev pub record_read : RawRecord → Result (Record Number) UnknownCode
record_read raw = known (cond (is_some (option_of raw.option)) raw.mark raw.option) (record_of raw.target raw.option raw.mark)
