-- The optional part of a message as a sequence of parameters: what a reader of it answers.
use Rattle.std.specs.Prelude.{◌≡◌, ℕ, zero, suc, ◌+◌, Bool, false, cond, ◌||◌, List, [], ◌∷◌, length, take, drop, Some, None, Ok, Err, Option, Result, ◌==◌, nat_le, slice_index}
use Rattle.decode.specs.declared.fault.MessageFault.{MessageFault}
use Rattle.decode.specs.declared.fault.MessageFault.TheVariants as fault
use Rattle.decode.specs.declared.parameter.OptionalParameter.{OptionalParameter}
use Rattle.decode.specs.declared.parameter.OptionalParameter.TheVariants.{Redirecting, Original, Information, MayDivert, Announced, Diversion, Redirection, Restriction, Foreign}

-- a parameter: its name octet, its content, and the place of its name
pub record Part : Type 0 where
  pub name : ℕ
  pub content : List ℕ
  pub place : ℕ

-- the name, the content and the place of each case
abbrev pub part_of : OptionalParameter → Part
part_of (Redirecting c p) = record { name = 0x0B; content = c.now; place = p }
part_of (Original c p) = record { name = 0x28; content = c.now; place = p }
part_of (Information c p) = record { name = 0x13; content = c.now; place = p }
part_of (MayDivert c p) = record { name = 0x29; content = c.now; place = p }
part_of (Announced c p) = record { name = 0x2C; content = c.now; place = p }
part_of (Diversion c p) = record { name = 0x36; content = c.now; place = p }
part_of (Redirection c p) = record { name = 0x0C; content = c.now; place = p }
part_of (Restriction c p) = record { name = 0x40; content = c.now; place = p }
part_of (Foreign n c p) = record { name = n; content = c.now; place = p }

-- the names of all rows
abbrev pub known : ℕ → Bool
known n = n == 0x0B || (n == 0x28 || (n == 0x13 || (n == 0x29 || (n == 0x2C || (n == 0x36 || (n == 0x0C || n == 0x40))))))

-- a foreign parameter has no name of any row
abbrev pub InItsCase : OptionalParameter → Type 0
InItsCase (Redirecting c p) = Unit {0}
InItsCase (Original c p) = Unit {0}
InItsCase (Information c p) = Unit {0}
InItsCase (MayDivert c p) = Unit {0}
InItsCase (Announced c p) = Unit {0}
InItsCase (Diversion c p) = Unit {0}
InItsCase (Redirection c p) = Unit {0}
InItsCase (Restriction c p) = Unit {0}
InItsCase (Foreign n c p) = known n ≡ false

-- what stands at a place: the closing 00, a parameter, or neither
pub data Step : Type 0 where
  closed : Step
  given : Part → Step
  refused : MessageFault → Step

abbrev pub step_of : Result (Option OptionalParameter) MessageFault → Step
step_of (Ok (Some p)) = given (part_of p)
step_of (Ok None) = closed
step_of (Err f) = refused f

abbrev pub AllInTheirCase : Result (Option OptionalParameter) MessageFault → Type 0
AllInTheirCase (Ok (Some p)) = InItsCase p
AllInTheirCase (Ok None) = Unit {0}
AllInTheirCase (Err f) = Unit {0}

-- what stands at the front of what is left: 00 closes the part and must come last, and a parameter must not pass the end
abbrev pub front : ℕ → List ℕ → Step
front at left =
    cond (length left == 0) (refused (fault.Optional at))
    (cond (slice_index left 0 == 0) (cond (length left == 1) closed (refused (fault.Optional at)))
    (cond (nat_le (2 + slice_index left 1) (length left))
    (given (record { name = slice_index left 0; content = take (slice_index left 1) (drop 2 left); place = at }))
    (refused (fault.Optional at))))

abbrev pub step_at : List ℕ → ℕ → Step
step_at octets at = front at (drop at octets)

-- the place behind what stands there; a fault moves nothing
abbrev pub after : Step → ℕ → ℕ
after closed at = at + 1
after (given p) at = at + 2 + length p.content
after (refused f) at = at

-- the parameters from a place on, up to the 00 that closes the message; k bounds their number
abbrev pub parts_by : ℕ → List ℕ → ℕ → Result (List Part) MessageFault
parts_by zero octets at = Err (fault.Optional at)
parts_by (suc k) octets at =
    elim (step_at octets at) [
      | closed ↦ Ok []
      | given p ↦ elim (parts_by k octets (at + 2 + length p.content)) [ Ok ps ↦ Ok (p ∷ ps) | Err f ↦ Err f ]
      | refused f ↦ Err f
    ]

-- each parameter takes two octets at least, so no more of them stand there than octets
abbrev pub parts_at : List ℕ → ℕ → Result (List Part) MessageFault
parts_at octets at = parts_by (length octets + 1) octets at
