-- What the words of a command line say.
use Rattle.std.specs.Prelude.{◌≡◌, ◌≤◌, nat_le, ℕ, ⊤, Bool, true, false, None, List, [], ◌∷◌, codes, Option, Some}
use Rattle.std.specs.Prelude.{unwrap_or, option_map, if◌then◌else◌, Result, Ok, Err}
use Rattle.std.specs.Int.{div_ceil}
use Rattle.std.specs.Str.{bytes_eq}
use Rattle.std.specs.Str.Parse.{digits_value, without_leading_plus}
use Rattle.clap.specs.Words.{App, Kinds, Row, Text, fault_of, first_of, matches_of, one_of}
use Rattle.wp_model.specs.Limits.{greatest_desk, most_aisles, most_file_orders, most_submissions, most_wave_orders}
use Rattle.wp_model.specs.Outcomes.{and_then}
use Rattle.wp_words.specs.Limits.{AreNodes, AreUnits, most_budget, most_capacity, most_pickers, most_root, most_rules}
use Rattle.wp_words.specs.Limits.{most_store, most_workers, usual_budget}
use Rattle.wp_words.specs.Options.{audit_command, check_command, make_command, plan_command}
use Rattle.wp_words.specs.declared.fault.WordsFault.{WordsFault}
use Rattle.wp_words.specs.declared.fault.WordsFault.TheVariants as fault

-- the names and the numbers that the options of `plan` give: the units are those that a cart holds, if carts have such
-- a limit, the rules are 1 where the sheets tell what usual rules would walk and otherwise 0, and the pickers are those
-- to whom the batches are dealt, 0 where they aren't
pub record PlanNames : Type 0 where
  pub layout : Text
  pub stock : Text
  pub orders : Text
  pub desks : Text
  pub capacity : ℕ
  pub units : Option ℕ
  pub budget : ℕ
  pub nodes : Option ℕ
  pub workers : ℕ
  pub rules : ℕ
  pub pickers : ℕ
  pub root : ℕ
  pub store : ℕ

-- each number of `plan` lies in its range
pub record HasRanges (names : PlanNames) : Type 0 where
  pub some_capacity : 1 ≤ names.capacity
  pub capacity : names.capacity ≤ most_capacity
  pub cart : AreUnits names.units
  pub budget : names.budget ≤ most_budget
  pub nodes : AreNodes names.nodes
  pub some_workers : 1 ≤ names.workers
  pub workers : names.workers ≤ most_workers
  pub rules : names.rules ≤ most_rules
  pub pickers : names.pickers ≤ most_pickers
  pub root : names.root ≤ most_root
  pub store : names.store ≤ most_store

-- the names that the options of `check` give
pub record CheckNames : Type 0 where
  pub layout : Text
  pub certificate : Text

-- the names that the options of `audit` give, and the units that a cart holds, if carts have such a limit
pub record AuditNames : Type 0 where
  pub layout : Text
  pub stock : Text
  pub orders : Text
  pub journal : Text
  pub units : Option ℕ

-- the number of `audit` lies in its range
pub record HasAuditRange (names : AuditNames) : Type 0 where
  pub cart : AreUnits names.units

-- the numbers that the options of `make` give
pub record MakeNumbers : Type 0 where
  pub number : ℕ
  pub aisles : ℕ
  pub orders : ℕ
  pub desks : ℕ
  pub wave : ℕ
  pub capacity : ℕ
  pub budget : ℕ
  pub nodes : Option ℕ
  pub workers : ℕ

-- how many waves the orders are cut into
abbrev pub wave_parts : MakeNumbers → ℕ
wave_parts numbers = div_ceil numbers.orders numbers.wave

-- each number of `make` lies in its range
pub record HasMakeRanges (numbers : MakeNumbers) : Type 0 where
  pub some_aisles : 1 ≤ numbers.aisles
  pub aisles : numbers.aisles ≤ most_aisles
  pub some_orders : 1 ≤ numbers.orders
  pub orders : numbers.orders ≤ most_file_orders
  pub some_desks : 1 ≤ numbers.desks
  pub desks : numbers.desks ≤ greatest_desk
  pub some_wave : 1 ≤ numbers.wave
  pub wave : numbers.wave ≤ most_wave_orders
  pub some_capacity : 1 ≤ numbers.capacity
  pub capacity : numbers.capacity ≤ most_capacity
  pub budget : numbers.budget ≤ most_budget
  pub nodes : AreNodes numbers.nodes
  pub some_workers : 1 ≤ numbers.workers
  pub workers : numbers.workers ≤ most_workers

-- and the waves aren't too many
pub record IsMakeable (numbers : MakeNumbers) : Type 0 where
  pub ranges : HasMakeRanges numbers
  pub waves : wave_parts numbers ≤ most_submissions

-- a job, by the names and the numbers that its words give
pub data JobNames : Type 0 where
  plan : PlanNames → JobNames
  check : CheckNames → JobNames
  audit : AuditNames → JobNames
  make : MakeNumbers → JobNames

-- the numbers of a job lie in their ranges, and its waves aren't too many. A check has no number
abbrev pub AreInRange : JobNames → Type 0
AreInRange (plan names) = HasRanges names
AreInRange (check names) = ⊤
AreInRange (audit names) = HasAuditRange names
AreInRange (make numbers) = IsMakeable numbers

-- what was matched, where no kind of error comes of the words
abbrev pub unless_faulty : Kinds → List Row → Result (List Row) WordsFault
unless_faulty [] rows = Ok rows
unless_faulty (kind ∷ kinds) rows = Err fault.BadWords

-- what clap matches for a command, or that the words aren't accepted for it
abbrev pub matched : App → List Text → Result (List Row) WordsFault
matched command words = unless_faulty (fault_of command words) (matches_of command words)

-- the value that an option got. Each option has to be given, so where words are accepted there is one
abbrev pub value_of : List Row → Text → Text
value_of rows name = unwrap_or (first_of name rows) []

-- the number that a text in decimal digits says, where a plus may stand before them, as Rust reads a number
abbrev pub number_said : Text → ℕ
number_said text = digits_value 10 (without_leading_plus text)

-- the number that is read of the value of an option, where it has one
abbrev pub number_read : Text → List Row → Option ℕ
number_read name rows = option_map number_said (one_of name rows)

-- the number that an option got. Such an option has to be given or has a number where it isn't, so where words are
-- accepted there is one
abbrev pub option_number : List Row → Text → ℕ
option_number rows name = unwrap_or (number_read name rows) 0

-- what a search may do is said once: by a budget, or by nodes in its place
abbrev pub are_both : Option ℕ → Option ℕ → Bool
are_both (Some budget) (Some nodes) = true
are_both None nodes = false
are_both (Some budget) None = false

-- words that say it twice aren't accepted
abbrev pub said_once : List Row → Result (List Row) WordsFault
said_once rows = if are_both (number_read (codes "budget") rows) (number_read (codes "nodes") rows)
    then Err fault.BadWords else Ok rows

-- the budget that was matched, or the usual one
abbrev pub budget_of : List Row → ℕ
budget_of rows = unwrap_or (number_read (codes "budget") rows) usual_budget

-- the budget and the nodes that were matched, of which not both were given
pub record IsEffort (rows : List Row) (spent : ℕ) (count : Option ℕ) : Type 0 where
  pub budget : budget_of rows ≡ spent
  pub nodes : number_read (codes "nodes") rows ≡ count
  pub once : said_once rows ≡ Ok rows

-- the names and the numbers that were matched for `plan`
abbrev pub plan_names_of : List Row → PlanNames
plan_names_of rows = record {
  layout = value_of rows (codes "layout");
  stock = value_of rows (codes "stock");
  orders = value_of rows (codes "orders");
  desks = value_of rows (codes "desks");
  capacity = option_number rows (codes "capacity");
  units = number_read (codes "units") rows;
  budget = budget_of rows;
  nodes = number_read (codes "nodes") rows;
  workers = option_number rows (codes "workers");
  rules = option_number rows (codes "rules");
  pickers = option_number rows (codes "pickers");
  root = option_number rows (codes "root");
  store = option_number rows (codes "store");
}

-- the names that were matched for `check`
abbrev pub check_names_of : List Row → CheckNames
check_names_of rows = record {
  layout = value_of rows (codes "layout");
  certificate = value_of rows
      (codes "certificate");
}

-- the names and the number that were matched for `audit`
abbrev pub audit_names_of : List Row → AuditNames
audit_names_of rows = record {
  layout = value_of rows (codes "layout");
  stock = value_of rows (codes "stock");
  orders = value_of rows (codes "orders");
  journal = value_of rows (codes "journal");
  units = number_read (codes "units") rows;
}

-- the numbers that were matched for `make`
abbrev pub make_numbers_of : List Row → MakeNumbers
make_numbers_of rows = record {
  number = option_number rows (codes "number");
  aisles = option_number rows (codes "aisles");
  orders = option_number rows (codes "orders");
  desks = option_number rows (codes "desks");
  wave = option_number rows (codes "wave");
  capacity = option_number rows (codes "capacity");
  budget = budget_of rows;
  nodes = number_read (codes "nodes") rows;
  workers = option_number rows (codes "workers");
}

-- a value that was found is made into something else, and a fault is the answer
abbrev pub made_into : {A B : Type 0} → (A → B) → Result A WordsFault → Result B WordsFault
made_into change (Ok value) = Ok (change value)
made_into change (Err why) = Err why

-- what words say after `plan`
abbrev pub plan_said : List Text → Result PlanNames WordsFault
plan_said words = made_into plan_names_of (and_then (matched plan_command words) said_once)

-- what words say after `check`
abbrev pub check_said : List Text → Result CheckNames WordsFault
check_said words = made_into check_names_of (matched check_command words)

-- what words say after `audit`
abbrev pub audit_said : List Text → Result AuditNames WordsFault
audit_said words = made_into audit_names_of (matched audit_command words)

-- what the options of `make` give
abbrev pub make_given : List Text → Result MakeNumbers WordsFault
make_given words = made_into make_numbers_of (and_then (matched make_command words) said_once)

-- numbers whose waves aren't too many
abbrev pub few_waves : MakeNumbers → Result MakeNumbers WordsFault
few_waves numbers = if nat_le (wave_parts numbers) most_submissions then Ok numbers
    else Err (fault.TooManyWaves (wave_parts numbers))

-- what words say after `make`
abbrev pub make_said : List Text → Result MakeNumbers WordsFault
make_said words = and_then (make_given words) few_waves

-- the job that words say: the first is the mode, and the others are the words of its command
unfoldable pub job_said : List Text → Result JobNames WordsFault
job_said [] = Err fault.NoMode
job_said (mode ∷ words) =
    if bytes_eq mode (codes "plan") then made_into plan (plan_said words)
    else if bytes_eq mode (codes "check") then made_into check (check_said words)
    else if bytes_eq mode (codes "audit") then made_into audit (audit_said words)
    else if bytes_eq mode (codes "make") then made_into make (make_said words)
    else Err fault.UnknownMode

-- clap states these values for the options of `plan`: the units are there exactly where their option was given
pub record ArePlanValues (rows : List Row) (names : PlanNames) : Type 0 where
  pub layout : first_of (codes "layout") rows ≡ Some names.layout
  pub stock : first_of (codes "stock") rows ≡ Some names.stock
  pub orders : first_of (codes "orders") rows ≡ Some names.orders
  pub desks : first_of (codes "desks") rows ≡ Some names.desks
  pub capacity : number_read (codes "capacity") rows ≡ Some names.capacity
  pub units : number_read (codes "units") rows ≡ names.units
  pub effort : IsEffort rows names.budget names.nodes
  pub workers : number_read (codes "workers") rows ≡ Some names.workers
  pub rules : number_read (codes "rules") rows ≡ Some names.rules
  pub pickers : number_read (codes "pickers") rows ≡ Some names.pickers
  pub root : number_read (codes "root") rows ≡ Some names.root
  pub store : number_read (codes "store") rows ≡ Some names.store

-- clap states these values for the options of `check`
pub record AreCheckValues (rows : List Row) (names : CheckNames) : Type 0 where
  pub layout : first_of (codes "layout") rows ≡ Some names.layout
  pub certificate : first_of (codes "certificate") rows ≡ Some names.certificate

-- clap states these values for the options of `audit`: the units are there exactly where their option was given
pub record AreAuditValues (rows : List Row) (names : AuditNames) : Type 0 where
  pub layout : first_of (codes "layout") rows ≡ Some names.layout
  pub stock : first_of (codes "stock") rows ≡ Some names.stock
  pub orders : first_of (codes "orders") rows ≡ Some names.orders
  pub journal : first_of (codes "journal") rows ≡ Some names.journal
  pub units : number_read (codes "units") rows ≡ names.units

-- clap states these values for the options of `make`
pub record AreMakeValues (rows : List Row) (numbers : MakeNumbers) : Type 0 where
  pub number : number_read (codes "number") rows ≡ Some numbers.number
  pub aisles : number_read (codes "aisles") rows ≡ Some numbers.aisles
  pub orders : number_read (codes "orders") rows ≡ Some numbers.orders
  pub desks : number_read (codes "desks") rows ≡ Some numbers.desks
  pub wave : number_read (codes "wave") rows ≡ Some numbers.wave
  pub capacity : number_read (codes "capacity") rows ≡ Some numbers.capacity
  pub effort : IsEffort rows numbers.budget numbers.nodes
  pub workers : number_read (codes "workers") rows ≡ Some numbers.workers

-- clap states the values of a job for the words after its mode
abbrev pub AreStated : List Text → JobNames → Type 0
AreStated [] names = ⊥
AreStated (mode ∷ words) (plan names) = ArePlanValues (matches_of plan_command words) names
AreStated (mode ∷ words) (check names) = AreCheckValues (matches_of check_command words) names
AreStated (mode ∷ words) (audit names) = AreAuditValues (matches_of audit_command words) names
AreStated (mode ∷ words) (make numbers) = AreMakeValues (matches_of make_command words) numbers
