-- The names of the optional parameters that each row of messages has.
use Rattle.std.specs.Prelude.{ℕ, Bool, false, ◌||◌, ◌==◌}
use Rattle.isup.specs.declared.row.Row.{Row}
use Rattle.isup.specs.declared.row.Row.TheVariants.{Initial, Backward, Connected, Bare}

-- 0B, 28 and 13: redirecting number, original called number, redirection information; 29: diversion may occur; 2C, 36 and 0C: the notice; 40: restriction
abbrev pub has : Row → ℕ → Bool
has Initial n = n == 0x0B || (n == 0x28 || n == 0x13)
has Backward n = n == 0x29 || (n == 0x2C || (n == 0x36 || (n == 0x0C || n == 0x40)))
has Connected n = n == 0x40
has Bare n = false
