-- A text cut at a byte, and its words: its longest runs without a space.
use Rattle.std.specs.Prelude.{ℕ, List, filter, length, not, ◌==◌}
use Rattle.std.specs.List.{slice_split}

-- a line feed
abbrev pub newline : ℕ
newline = 10

-- a space
abbrev pub space : ℕ
space = 32

-- what stands before, between and after the bytes c of a text, empty pieces too
abbrev pub pieces : ℕ → List ℕ → List (List ℕ)
pieces c text = slice_split (λ b. b == c) text

-- the pieces between spaces that are not empty
abbrev pub words : List ℕ → List (List ℕ)
words text = filter (λ piece. not (length piece == 0)) (pieces space text)

-- the pieces between line feeds
abbrev pub lines : List ℕ → List (List ℕ)
lines text = pieces newline text
