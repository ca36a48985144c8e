-- What a list of cells means, and how a change of it changes the meaning.
use Rattle.std.specs.Prelude.{◌≡◌, ℕ, ◌+◌, ◌-◌, ◌≤◌, Bool, false, cond, ◌&&◌, List, length, map, is_some, Some, None, Ok, Err, count_by, Option, Result, ◌==◌, nat_lt}
use Rattle.isup.specs.declared.message.Service.{Service}
use Rattle.numbers.specs.declared.number.Number.{Number}
use Rattle.numbers.specs.declared.refusal.Refusal.{Refusal}
use Rattle.numbers.specs.declared.refusal.Refusal.TheVariants.{OutOfRange, NoFreeCell, NotHeld}
use Rattle.numbers.specs.Comparing.{same_number}
use Rattle.waiting.specs.Items.{Waiting, earliest, is_full}
use Rattle.options.specs.declared.question.Diversions.{Diversions}
use Rattle.options.specs.declared.record.Kind.{Kind}
use Rattle.options.specs.declared.record.Record.{Record}
use Rattle.options.specs.declared.record.Services.TheVariants.{One}
use Rattle.options.specs.declared.cells.Cell.{Cell}
use Rattle.options.specs.declared.cells.Cell.TheVariants.{Diversion, Withheld}
use Rattle.options.specs.Records.{serves, services_in, service_count, same_kind}

-- whether a number, a service and a kind are among those meant
abbrev pub covers : Diversions → Number → Service → Kind → Bool
covers meant n s k = same_number meant.number n && (serves meant.services s && same_kind meant.kind k)

-- whether a cell holds a diversion of a number for one of the services and for the kind
abbrev pub is_diversion : Diversions → Cell → Bool
is_diversion meant (Diversion n s k r) = covers meant n s k
is_diversion meant (Withheld n) = false

-- the diversion of a number for one service and a kind
abbrev pub for_one : Number → Service → Kind → Diversions
for_one n s k = record { number = n; services = One s; kind = k }

-- whether a cell holds that a number is withheld
abbrev pub is_withheld : Number → Cell → Bool
is_withheld number (Diversion n s k r) = false
is_withheld number (Withheld n) = same_number number n

-- the record that a cell holds, where there is such a cell
abbrev pub record_in : Option Cell → Option (Record Number)
record_in None = None
record_in (Some (Diversion n s k r)) = Some r
record_in (Some (Withheld n)) = None

-- the record that the cells hold for a number, a service and a kind
abbrev pub held_in : List Cell → Number → Service → Kind → Option (Record Number)
held_in cells n s k = record_in (earliest (is_diversion (for_one n s k)) cells)

-- whether the cells hold that a number is withheld
abbrev pub withheld_in : List Cell → Number → Bool
withheld_in cells n = is_some (earliest (is_withheld n) cells)

-- at most one cell fits each question
pub record Single (cells : List Cell) : Type 0 where
  pub diversions : (n : Number) (s : Service) (k : Kind) → count_by (is_diversion (for_one n s k)) cells ≤ 1
  pub numbers : (n : Number) → count_by (is_withheld n) cells ≤ 1

-- what is held for the number, the services and the kind is new, in so many new cells, and everything else is as it was
pub record Diverted
    (before after : Waiting Cell) (meant : Diversions) (new : Option (Record Number)) (filled : ℕ)
    : Type 0 where
  pub held :
      (n : Number) (s : Service) (k : Kind) →
      held_in after.items n s k ≡ cond (covers meant n s k) new (held_in before.items n s k)
  pub withheld : (n : Number) → withheld_in after.items n ≡ withheld_in before.items n
  pub count : length after.items + count_by (is_diversion meant) before.items ≡ length before.items + filled
  pub single : Single before.items → Single after.items
  pub room : after.places ≡ before.places

-- whether the number is withheld is new, with so many cells emptied and filled, and everything else is as it was
pub record Marked (before after : Waiting Cell) (number : Number) (mark : Bool) (emptied filled : ℕ) : Type 0 where
  pub held : (n : Number) (s : Service) (k : Kind) → held_in after.items n s k ≡ held_in before.items n s k
  pub withheld : (n : Number) → withheld_in after.items n ≡ cond (same_number number n) mark (withheld_in before.items n)
  pub count : length after.items + emptied ≡ length before.items + filled
  pub single : Single before.items → Single after.items
  pub room : after.places ≡ before.places

-- deactivating is refused exactly where none of its cells is held
abbrev pub deactivate_answer : Waiting Cell → Diversions → Result (Unit {0}) Refusal
deactivate_answer cells meant = cond (count_by (is_diversion meant) cells.items == 0) (Err NotHeld) (Ok tt)

-- withholding is refused exactly where it needs a cell and none is free
abbrev pub withhold_answer : Waiting Cell → Number → Result (Unit {0}) Refusal
withhold_answer cells number =
    cond (withheld_in cells.items number) (Ok tt) (cond (is_full cells.places cells.items) (Err NoFreeCell) (Ok tt))

-- the cells of a record: one for each service
abbrev pub new_cells : Diversions → Record Number → List Cell
new_cells meant r = map (λ s. Diversion meant.number s meant.kind r) (services_in meant.services)

-- whether fewer cells are free than are needed besides those replaced
abbrev pub too_few : Waiting Cell → Diversions → Bool
too_few cells meant =
    nat_lt (cells.places - length cells.items) (service_count meant.services - count_by (is_diversion meant) cells.items)

-- activating is refused where there is no such record, and then exactly where too few cells are free
abbrev pub activate_answer : Option (Record Number) → Bool → Result (Unit {0}) Refusal
activate_answer None few = Err OutOfRange
activate_answer (Some r) few = cond few (Err NoFreeCell) (Ok tt)
