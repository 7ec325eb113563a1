-- The keys under which names are hashed.
use Rattle.std.specs.Prelude.{◌≡◌, ℕ, List, Result, Ok}
use Rattle.std.specs.Hash.DefaultHasher.{finish, initial, write}
use Rattle.sha2.specs.Sha512.{sha512}
use Rattle.wp_model.specs.Name.{padded_out}
use Rattle.wp_model.specs.Opening.{Order, Stock}
use Rattle.wp_model.specs.Warehouse.{Layout}
use Rattle.wp_tables.specs.Keyed.{Keyed}
use Rattle.wp_tables.specs.OrderFile.{orders_said}
use Rattle.wp_tables.specs.StockFile.{stock_said}
use Rattle.wp_tables.specs.declared.fault.RowFault.{RowFault}

-- what was made
abbrev pub made_of : {A : Type 0} → Keyed A → A
made_of keyed = keyed.made

-- a key is the digest of all bytes of a text that says this
pub record IsKeyOf {A : Type 0} (says : List ℕ → Result A RowFault) (said : A) (key : List ℕ) : Type 0 where
  pub text : List ℕ
  pub says_it : says text ≡ Ok said
  pub digest : key ≡ sha512 text

-- the articles of a stock are hashed under this key: the digest of a file that says the stock, for a layout
abbrev pub IsStockKey : Stock → List ℕ → Type 0
IsStockKey stock key = (layout : Layout) × IsKeyOf (stock_said layout) stock key

-- the names of orders are hashed under this key: the digest of a file that says the orders, for a stock
abbrev pub IsOrdersKey : List Order → List ℕ → Type 0
IsOrdersKey orders key = (stock : Stock) × IsKeyOf (orders_said stock) orders key

-- the hash of a name under a key: the key is fed first, and then the name, padded with zeros
abbrev pub hash_under : List ℕ → List ℕ → ℕ
hash_under key name = finish (write (write initial key) (padded_out name))

-- the hash of a name under such a key
abbrev pub IsHashUnder : (List ℕ → Type 0) → List ℕ → ℕ → Type 0
IsHashUnder IsKey name hash = (key : List ℕ) × IsKey key × (hash ≡ hash_under key name)
