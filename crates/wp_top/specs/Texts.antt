-- The files that a job reads, what they say one after the other, and why one is refused.
use Rattle.std.specs.Prelude.{◌≡◌, ℕ, nat_lt, List, [], ◌∷◌, codes, Option, Some, IfSome, length, map, if◌then◌else◌}
use Rattle.std.specs.Prelude.{Result, Ok, Err}
use Rattle.std.specs.List.{All}
use Rattle.wp_floor.specs.Opening.{opening_of}
use Rattle.wp_layout.specs.Keys.{fault_text}
use Rattle.wp_layout.specs.LayoutFile.{layout_said}
use Rattle.wp_model.specs.Opening.{Opening, Order, Stock}
use Rattle.wp_model.specs.Warehouse.{Layout, even_layout}
use Rattle.wp_model.specs.History.{Script}
use Rattle.wp_model.specs.Limits.{most_file_bytes}
use Rattle.wp_tables.specs.DeskFile.{scripts_said}
use Rattle.wp_tables.specs.Faults.{row_fault_text}
use Rattle.wp_tables.specs.OrderFile.{orders_said}
use Rattle.wp_tables.specs.StockFile.{stock_said}
use Rattle.wp_top.specs.declared.input.Input.{Input}
use Rattle.wp_top.specs.declared.input.Input.TheVariants as input
use Rattle.wp_top.specs.declared.input.Refusal.{Refusal}
use Rattle.wp_top.specs.declared.input.Refusal.TheVariants as refusal
use Rattle.wp_words.specs.Words.{JobNames, audit, check, make, plan}
use Rattle.wp_model.specs.Outcomes.{and_then}

-- a file that a job reads: which it is, and its name
pub record File : Type 0 where
  pub kind : Input
  pub name : List ℕ

abbrev pub file_of : Input → List ℕ → File
file_of kind name = record { kind = kind; name = name }

-- the files that a job reads, one after the other. A make reads none
abbrev pub files_of : JobNames → List File
files_of (plan names) =
    file_of input.Layout names.layout ∷ file_of input.Stock names.stock ∷ file_of input.Orders names.orders
    ∷ file_of input.Desks names.desks ∷ []
files_of (check names) = file_of input.Layout names.layout ∷ file_of input.Certificate names.certificate ∷ []
files_of (audit names) =
    file_of input.Layout names.layout ∷ file_of input.Stock names.stock ∷ file_of input.Orders names.orders
    ∷ file_of input.Journal names.journal ∷ []
files_of (make numbers) = []

-- a file and its text
pub record ReadFile : Type 0 where
  pub file : File
  pub text : List ℕ

-- the text is what the name holds, where that is told
abbrev pub IsHeld : (List ℕ → Option (List ℕ)) → List ℕ → List ℕ → Type 0
IsHeld holds name text = IfSome (holds name) (λ told. text ≡ told)

-- it is what the name holds, and that is told
abbrev pub IsTold : (List ℕ → Option (List ℕ)) → List ℕ → List ℕ → Type 0
IsTold holds name text = holds name ≡ Some text

-- what was said so far: the layout, the stock and the orders, the scripts of the desks, and the texts of a certificate
-- and of a journal
pub record Said : Type 0 where
  pub layout : Layout
  pub opening : Opening
  pub scripts : List Script
  pub certificate : List ℕ
  pub journal : List ℕ

-- nothing yet
abbrev pub nothing_said : Said
nothing_said = record {
  layout = even_layout 0 0 0 0 0 0;
  opening = opening_of (record { rows = []; articles = [] }) [];
  scripts = [];
  certificate = [];
  journal = [];
}

-- an opening for carts that hold so many units, or for those that hold any number
abbrev pub opening_with : Opening → Option ℕ → Opening
opening_with opening units = record opening { units = units }

-- what is said, or the refusal that comes of a fault
abbrev pub refused_by : {A F E : Type 0} → (F → E) → Result A F → Result A E
refused_by refusal (Ok said) = Ok said
refused_by refusal (Err fault) = Err (refusal fault)

-- a text that isn't too long
abbrev pub text_in : List ℕ → Result (List ℕ) Refusal
text_in text = if nat_lt most_file_bytes (length text) then Err refusal.TooLong else Ok text

-- what a text says that isn't too long
abbrev pub said_in : {A F : Type 0} → (F → Refusal) → (List ℕ → Result A F) → List ℕ → Result A Refusal
said_in refusal says text = and_then (text_in text) (λ text. refused_by refusal (says text))

-- the layout that a layout file says
abbrev pub layout_in : List ℕ → Result Layout Refusal
layout_in = said_in refusal.Layout layout_said

-- the stock that a stock file says of a layout
abbrev pub stock_in : Layout → List ℕ → Result Stock Refusal
stock_in layout = said_in refusal.Row (stock_said layout)

-- the orders that an order file says of a stock
abbrev pub orders_in : Stock → List ℕ → Result (List Order) Refusal
orders_in stock = said_in refusal.Row (orders_said stock)

-- the scripts that a desk file says
abbrev pub scripts_in : List ℕ → Result (List Script) Refusal
scripts_in = said_in refusal.Row scripts_said

-- what is said with a further file, or why that file is refused: the stock lies in the layout, and the orders want its
-- articles
abbrev pub said_with : Said → Input → List ℕ → Result Said Refusal
said_with said input.Layout text = and_then (layout_in text) (λ layout. Ok (record said { layout = layout }))
said_with said input.Stock text = and_then (stock_in said.layout text)
    (λ stock. Ok (record said { opening = opening_of stock [] }))
said_with said input.Orders text = and_then (orders_in said.opening.stock text)
    (λ orders. Ok (record said { opening = opening_of said.opening.stock orders }))
said_with said input.Desks text = and_then (scripts_in text) (λ scripts. Ok (record said { scripts = scripts }))
said_with said input.Certificate text = and_then (text_in text)
    (λ certificate. Ok (record said { certificate = certificate }))
said_with said input.Journal text = and_then (text_in text) (λ journal. Ok (record said { journal = journal }))

-- what files say, one after the other, after what was said before them; or why the first is refused that is
abbrev pub said_after : Said → List ReadFile → Result Said Refusal
said_after said [] = Ok said
said_after said (read ∷ more) = and_then (said_with said read.file.kind read.text) (λ said. said_after said more)

-- the files say this
abbrev pub Say : List ReadFile → Said → Type 0
Say files said = said_after nothing_said files ≡ Ok said

-- these files have texts of which this is known, none of which is refused, and together they say this
pub record HaveSaid (IsText : List ℕ → List ℕ → Type 0) (files : List File) (said : Said) : Type 0 where
  pub read : List ReadFile
  pub are : map (λ read. read.file) read ≡ files
  pub texts : All (λ read. IsText read.file.name read.text) read
  pub say : Say read said

-- what a file is called
abbrev pub input_text : Input → List ℕ
input_text input.Layout = codes "layout"
input_text input.Stock = codes "stock"
input_text input.Orders = codes "orders"
input_text input.Desks = codes "desks"
input_text input.Certificate = codes "certificate"
input_text input.Journal = codes "journal"

-- what a refusal is called
abbrev pub refusal_text : Refusal → List ℕ
refusal_text refusal.TooLong = codes "too-long"
refusal_text (refusal.Layout fault) = fault_text fault
refusal_text (refusal.Row fault) = row_fault_text fault
