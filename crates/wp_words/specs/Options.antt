-- The options of each mode, as a command of clap.
use Rattle.std.specs.Prelude.{◌≡◌, ℕ, List, [], ◌∷◌, ◌++◌, map, codes, pos, Some, true}
use Rattle.clap.specs.Simple.{App, new_rule, new_shape}
use Rattle.clap.specs.Walk.{Rule, Text}
use Rattle.clap.specs.Words.{IsParsedFrom, app_of, is_simple_and_free}
use Rattle.clap.specs.declared.builder.action.ArgAction.TheVariants.{Set}
use Rattle.clap.specs.declared.builder.command.Command.{Command}
use Rattle.clap.specs.declared.builder.value_parser.ValueParser.{ValueParser}
use Rattle.clap.specs.declared.builder.value_parser.ValueParser.TheVariants as vp
use Rattle.clap.specs.declared.parser.matches.ArgMatches.{ArgMatches}
use Rattle.wp_model.specs.Limits.{greatest_desk, most_aisles, most_cart_units, most_file_orders, most_wave_orders}
use Rattle.wp_words.specs.Limits.{most_budget, most_capacity, most_nodes, most_number, most_pickers, most_root}
use Rattle.wp_words.specs.Limits.{most_rules, most_store, most_workers, usual_switch, usual_workers}

-- an option `--name VALUE` or `--name=VALUE` that may be given, and at most once
abbrev pub named_rule : Text → Rule
named_rule name = record (new_rule name) { long = Some name; action = Some Set }

-- an option `--name VALUE` or `--name=VALUE` that has to be given, and once
abbrev pub required_rule : Text → Rule
required_rule name = record (named_rule name) { required = true }

-- a number from 1 to this one
abbrev pub count_up_to : ℕ → ValueParser
count_up_to most = vp.Signed (pos 1) (pos most)

-- `--capacity` has to be given, a number from 1 to the greatest capacity
abbrev pub capacity_rule : Rule
capacity_rule = record (required_rule (codes "capacity")) { parser = Some (count_up_to most_capacity) }

-- `--units` may be given, a number from 1 to the most units that a cart may hold
abbrev pub units_rule : Rule
units_rule = record (named_rule (codes "units")) { parser = Some (count_up_to most_cart_units) }

-- `--budget` may be given, a number from 0 to the greatest budget
abbrev pub budget_rule : Rule
budget_rule = record (named_rule (codes "budget")) { parser = Some (vp.Unsigned 0 most_budget) }

-- `--nodes` may be given, a number from 1 to the most nodes
abbrev pub nodes_rule : Rule
nodes_rule = record (named_rule (codes "nodes")) { parser = Some (vp.Unsigned 1 most_nodes) }

-- `--workers` may be given, a number from 1 to the most workers
abbrev pub workers_rule : Rule
workers_rule = record (named_rule (codes "workers")) {
  parser = Some
      (count_up_to most_workers);
  defaults = usual_workers ∷ [];
}

-- a switch may be given, a number from 0 to this one, and is 0 where it isn't
abbrev pub switch_rule : Text → ℕ → Rule
switch_rule name most = record (named_rule name) {
  parser = Some (vp.Signed (pos 0) (pos most));
  defaults = usual_switch ∷ [];
}

-- a command with these options and nothing besides: it shows no help, and its words are all that follow the mode
abbrev pub command_with : Text → List Rule → App
command_with mode options =
    record {
      top = record (new_shape mode) {
        rules = options;
        no_binary_name = true;
        disable_help_flag = true;
      };
      subs = [];
    }

-- `--number` has to be given, a number of 64 bits
abbrev pub number_rule : Rule
number_rule = record (required_rule (codes "number")) { parser = Some (vp.Unsigned 0 most_number) }

-- an option that has to be given, a number from 1 to this one
abbrev pub count_rule : Text → ℕ → Rule
count_rule name most = record (required_rule name) { parser = Some (count_up_to most) }

-- `plan` takes the names of a layout, a stock file, an order file and a desk file, and nine numbers
unfoldable pub plan_command : App
plan_command =
    let files = map required_rule (codes "layout" ∷ codes "stock" ∷ codes "orders" ∷ codes "desks" ∷ []) in
    let switches = switch_rule (codes "rules") most_rules
    ∷ switch_rule (codes "pickers") most_pickers
    ∷ switch_rule (codes "root") most_root
    ∷ switch_rule (codes "store") most_store
    ∷ [] in
    command_with (codes "plan") (files ++ capacity_rule ∷ units_rule ∷ budget_rule ∷ nodes_rule ∷ workers_rule
    ∷ switches)

-- `check` takes the names of a layout and a certificate
unfoldable pub check_command : App
check_command = command_with (codes "check") (map required_rule (codes "layout" ∷ codes "certificate" ∷ []))

-- `audit` takes the names of a layout, a stock file, an order file and a journal, and a number
unfoldable pub audit_command : App
audit_command =
    let files = map required_rule (codes "layout" ∷ codes "stock" ∷ codes "orders" ∷ codes "journal" ∷ []) in
    command_with (codes "audit") (files ++ units_rule ∷ [])

-- `make` takes a number to draw from, the numbers of aisles, orders, desks and orders of a wave, and the capacity, the
-- budget, the nodes and the workers of a plan
unfoldable pub make_command : App
make_command =
    let size = count_rule (codes "aisles") most_aisles ∷ count_rule (codes "orders") most_file_orders
    ∷ count_rule (codes "desks") greatest_desk
    ∷ count_rule (codes "wave") most_wave_orders ∷ [] in
    command_with (codes "make") (number_rule ∷ (size ++ capacity_rule ∷ budget_rule ∷ nodes_rule ∷ workers_rule ∷ []))

-- matches came of words that were read with a command of these options, a simple one
pub record IsMatchOf (app : App) (matches : ArgMatches) : Type 0 where
  pub command : Command
  pub options : app_of command ≡ app
  pub simple : is_simple_and_free app ≡ true
  pub parsed : IsParsedFrom command matches
