-- What the arguments of a program ask for.
use Rattle.std.specs.Prelude.{ℕ, cond, List, [], ◌∷◌, ◌++◌, Ok, Err, codes, Result, ◌==◌, slice_index}
use Rattle.std.specs.Str.{bytes_eq as same_text}
use Rattle.script.specs.declared.arguments.ArgumentError.{ArgumentError}
use Rattle.script.specs.declared.arguments.ArgumentError.TheVariants as wrong
use Rattle.script.specs.declared.arguments.Source.{Source}
use Rattle.script.specs.declared.arguments.Source.TheVariants as from

-- help, a script from standard input or from the file of a name; or an unknown option, or arguments that are too many
pub data Request : Type 0 where
  help : Request
  input : Request
  file : List ℕ → Request
  unknown_option : List ℕ → Request
  too_many : Request

-- an argument that begins with '-' is an option
abbrev pub one_argument : List ℕ → Request
one_argument word = cond (same_text word (codes "--help")) help (cond (slice_index word 0 == 45) (unknown_option word) (file word))

-- no argument asks for standard input; one may be asked; more are too many
abbrev pub request : List (List ℕ) → Request
request [] = input
request (word ∷ []) = one_argument word
request (word ∷ other ∷ more) = too_many

-- what the code answers, by the octets of its texts
abbrev pub requested : Result Source ArgumentError → Request
requested (Ok from.Help) = help
requested (Ok from.Input) = input
requested (Ok (from.File name)) = file name.now
requested (Err (wrong.UnknownOption word)) = unknown_option word.now
requested (Err wrong.TooMany) = too_many

-- why arguments ask for nothing
abbrev pub argument_text : ArgumentError → List ℕ
argument_text (wrong.UnknownOption word) = codes "unknown option " ++ word.now
argument_text wrong.TooMany = codes "more than one argument"
