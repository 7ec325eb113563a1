-- How a book is kept.
use Rattle.std.specs.Prelude.{◌≡◌, ◌≢◌, ℕ, ◌<◌, ◌%◌, List, [], length, slice_index_or}
use Rattle.wp_model.specs.Book.{Book, IsBook, is_of}
use Rattle.wp_model.specs.declared.row.Row.{Row}
use Rattle.wp_book.specs.Chains.{chain_units, holdings_in}
use Rattle.wp_book.specs.declared.room.KeptHolds.{KeptHolds}

-- how many chains there are
abbrev pub chain_count : ℕ
chain_count = 512

-- the book that rows and chains of holds make
abbrev pub book_of : List Row → List (List KeptHolds) → Book
book_of rows chains = record { rows = rows; holdings = holdings_in chains }

-- a book is kept so: what is held for a wave stands in the chain that its number gives
pub record AreChained (rows : List Row) (chains : List (List KeptHolds)) : Type 0 where
  pub book : IsBook (book_of rows chains)
  pub count : length chains ≡ chain_count
  pub placed : (i wave : ℕ) → i < chain_count → wave % chain_count ≢ i
      → chain_units (is_of wave) (slice_index_or chains i []) ≡ 0
