-- The free units of rows, article by article.
use Rattle.std.specs.Prelude.{◌≡◌, ℕ, ◌+◌, List, slice_index, slice_set}
use Rattle.wp_model.specs.declared.row.Row.{Row}

-- the units of a row's article with what is free in the row
abbrev pub units_with : Row → List ℕ → ℕ
units_with row units = slice_index units row.article + row.free

-- the free units of a row were added to those of its article, and all others are as before
abbrev pub HasAdded : Row → List ℕ → List ℕ → Type 0
HasAdded row old new = new ≡ slice_set old row.article (units_with row old)
