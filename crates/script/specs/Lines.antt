-- What a line of a script says.
use Rattle.std.specs.Prelude.{◌≡◌, ℕ, ◌+◌, ◌-◌, ◌*◌, Bool, true, false, cond, ◌&&◌, List, [], ◌∷◌, ◌++◌, length, Some, None, Ok, Err, vec_items, codes, Option, Result, ◌==◌, nat_le, slice_index}
use Rattle.std.specs.Str.{bytes_eq as same_text}
use Rattle.std.specs.Option.{ok_or}
use Rattle.script.specs.declared.line.Command.{Command}
use Rattle.script.specs.declared.line.Command.TheVariants.{Number, Read}
use Rattle.script.specs.declared.line.LineError.{LineError}
use Rattle.script.specs.declared.line.LineError.TheVariants.{UnknownWord, OctetsMissing, NotOctets, Memory}
use Rattle.script.specs.Words.{words}

-- ---- octets, spelt as pairs of hexadecimal digits, the high half first

-- c is from low to high
abbrev between : ℕ → ℕ → ℕ → Bool
between low high c = nat_le low c && nat_le c high

-- the value of a hexadecimal digit: 0 to 9, A to F or a to f
abbrev pub hex_value : ℕ → Option ℕ
hex_value c =
    cond (between 48 57 c) (Some (c - 48)) (cond (between 65 70 c) (Some (c - 55)) (cond (between 97 102 c) (Some (c - 87)) None))

-- the octet of two digits
abbrev pub octet : Option ℕ → Option ℕ → Option ℕ
octet None low = None
octet (Some h) None = None
octet (Some h) (Some l) = Some (16 * h + l)

-- the octet of a list of two digits
abbrev pub octet_of : List ℕ → Option ℕ
octet_of pair = cond (length pair == 2) (octet (hex_value (slice_index pair 0)) (hex_value (slice_index pair 1))) None

-- an octet goes before others, if there are both
abbrev pub before : Option ℕ → Option (List ℕ) → Option (List ℕ)
before None more = None
before (Some o) None = None
before (Some o) (Some more) = Some (o ∷ more)

-- the octets of a row of digits, if it is pairs of them alone
abbrev pub pairs : List ℕ → Option (List ℕ)
pairs [] = Some []
pairs (c ∷ []) = None
pairs (c ∷ d ∷ more) = before (octet (hex_value c) (hex_value d)) (pairs more)

-- why a line is none of the script's: its first word, no octets, a word that spells none
pub data Mistake : Type 0 where
  unknown : List ℕ → Mistake
  missing : Mistake
  wrong : List ℕ → Mistake

-- octets, or why there are none
abbrev pub Octets : Type 0
Octets = Result (List ℕ) Mistake

-- what came before goes before the octets
abbrev pub after : List ℕ → Octets → Octets
after front (Ok octets) = Ok (front ++ octets)
after front (Err e) = Err e

-- the octets of digits of a word
abbrev pub pairs_of : List ℕ → List ℕ → Octets
pairs_of word digits = ok_or (pairs digits) (wrong word)

-- the octets of a word
abbrev pub spelt : List ℕ → Octets
spelt word = pairs_of word word

-- octets and then more of them, or the first mistake
abbrev pub both : Octets → Octets → Octets
both (Ok front) more = after front more
both (Err e) more = Err e

-- the octets that words spell one after another
abbrev pub all_spelt : List (List ℕ) → Octets
all_spelt [] = Ok []
all_spelt (word ∷ more) = both (spelt word) (all_spelt more)

-- there has to be a word
abbrev pub octets : List (List ℕ) → Octets
octets [] = Err missing
octets (word ∷ more) = all_spelt (word ∷ more)

-- ---- lines

-- what a line asks for; a number is read with or without the mark of a restricted presentation
pub data Asked : Type 0 where
  nothing : Asked
  number : Bool → List ℕ → Asked
  read : List ℕ → Asked

-- a line that is asked with octets
abbrev pub asking : (List ℕ → Asked) → Octets → Result Asked Mistake
asking line (Ok octets) = Ok (line octets)
asking line (Err e) = Err e

-- the first word says what is asked for, the others spell octets
abbrev pub command : List ℕ → List (List ℕ) → Result Asked Mistake
command first more =
    cond (same_text first (codes "number")) (asking (number false) (octets more))
    (cond (same_text first (codes "number14")) (asking (number true) (octets more))
    (cond (same_text first (codes "read")) (asking read (octets more)) (Err (unknown first))))

-- a line of words, if it has any
abbrev pub line_of : List (List ℕ) → Result Asked Mistake
line_of [] = Ok nothing
line_of (first ∷ more) = command first more

-- a line that begins with '#' is a remark
abbrev pub meaning : List ℕ → Result Asked Mistake
meaning line = cond (slice_index line 0 == 35) (Ok nothing) (line_of (words line))

-- ---- what the code answers

-- what the code answers; without a command nothing is asked for
abbrev pub asked : Option Command → Asked
asked None = nothing
asked (Some (Number octets restrict)) = number restrict (vec_items octets)
asked (Some (Read octets)) = read (vec_items octets)

-- e is the mistake in what is meant, or memory was wanting
abbrev pub Fails : {Y : Type 0} → LineError → Result Y Mistake → Type 0
Fails (UnknownWord word) meant = meant ≡ Err (unknown word.now)
Fails OctetsMissing meant = meant ≡ Err missing
Fails (NotOctets word) meant = meant ≡ Err (wrong word.now)
Fails Memory meant = Unit {0}

-- r holds what is meant, by its value, or why there is none
abbrev pub Gives : {X Y : Type 0} → (X → Y) → Result X LineError → Result Y Mistake → Type 0
Gives value (Ok x) meant = meant ≡ Ok (value x)
Gives value (Err e) meant = Fails e meant
