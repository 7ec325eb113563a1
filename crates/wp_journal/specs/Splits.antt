-- The words of a line.
use Rattle.std.specs.Prelude.{ℕ, ◌==◌, Bool, List, map, codes}
use Rattle.std.specs.Borrow.{Bor}
use Rattle.std.specs.List.{slice_split, before_first, after_first}
use Rattle.std.specs.Str.{bytes_eq}

-- a word
abbrev pub Word : Type 0
Word = List ℕ

-- the space between words
abbrev pub is_space : ℕ → Bool
is_space b = b == 32

-- the words of a text
abbrev pub words_of : List ℕ → List Word
words_of text = slice_split is_space text

-- words by their references
abbrev pub words_now : List (Bor (List ℕ)) → List Word
words_now words = map (λ word. word.now) words

-- the arrow between a command and its reply
abbrev pub is_arrow : Word → Bool
is_arrow word = bytes_eq word (codes "->")

-- the words before the arrow, and those after it
abbrev pub before_arrow : List Word → List Word
before_arrow words = before_first is_arrow words

abbrev pub after_arrow : List Word → List Word
after_arrow words = after_first is_arrow words
