-- The limits of the program, each once. The constants of the code are tied to them.
use Rattle.std.specs.Prelude.{ℕ}

-- the most bytes that a file may have
abbrev pub most_file_bytes : ℕ
most_file_bytes = 16777216

-- the most bytes that a name may have
abbrev pub most_name_bytes : ℕ
most_name_bytes = 40

-- the most aisles that a layout may have
abbrev pub most_aisles : ℕ
most_aisles = 64

-- the most slots that an aisle may have
abbrev pub most_slots : ℕ
most_slots = 200

-- the greatest of the three lengths of a layout
abbrev pub greatest_length : ℕ
greatest_length = 10000

-- the most rows that a stock may have
abbrev pub most_rows : ℕ
most_rows = 25600

-- the most rows that an article may have
abbrev pub most_places : ℕ
most_places = 1000

-- the most units that a row may have on hand
abbrev pub most_on_hand : ℕ
most_on_hand = 1000000

-- the most orders that a file may have
abbrev pub most_file_orders : ℕ
most_file_orders = 10000

-- the most lines that an order may have
abbrev pub most_lines : ℕ
most_lines = 50

-- the most units that a line or a command may name
abbrev pub most_quantity : ℕ
most_quantity = 100000

-- the most units that a cart may hold
abbrev pub most_cart_units : ℕ
most_cart_units = 40000000

-- the most commands that the desks may have together
abbrev pub most_commands : ℕ
most_commands = 10000

-- the most of these that may submit a wave
abbrev pub most_submissions : ℕ
most_submissions = 500

-- the most orders that a submit may name
abbrev pub most_named : ℕ
most_named = 100

-- the greatest aisle or slot that a location may name
abbrev pub greatest_place : ℕ
greatest_place = 99999

-- the greatest number of a desk
abbrev pub greatest_desk : ℕ
greatest_desk = 8

-- the most orders that a wave may have
abbrev pub most_wave_orders : ℕ
most_wave_orders = 64

-- the most entries that a journal may have
abbrev pub most_entries : ℕ
most_entries = 10000
