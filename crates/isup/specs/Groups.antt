-- Parts of a message that stand all or none.
use Rattle.std.specs.Prelude.{Some, None, Ok, Err, Option, Result}
use Rattle.isup.specs.declared.groups.BrokenGroup.{BrokenGroup}

-- all three, none of them, or a broken group
abbrev pub all_or_none : {A B C : Type 0} → Option A → Option B → Option C → Result (Option (A × B × C)) BrokenGroup
all_or_none (Some a) (Some b) (Some c) = Ok (Some (a, b, c))
all_or_none (Some a) (Some b) None = Err (record {})
all_or_none (Some a) None c = Err (record {})
all_or_none None (Some b) c = Err (record {})
all_or_none None None (Some c) = Err (record {})
all_or_none None None None = Ok None
