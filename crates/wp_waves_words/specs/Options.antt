-- The options of `waves`, as a command of clap.
use Rattle.std.specs.Prelude.{ℕ, [], ◌∷◌, ◌++◌, map, codes, pos, Some}
use Rattle.clap.specs.Simple.{App}
use Rattle.clap.specs.Walk.{Rule, Text}
use Rattle.clap.specs.declared.builder.value_parser.ValueParser.TheVariants as vp
use Rattle.wp_model.specs.Limits.{greatest_desk, most_submissions, most_wave_orders}
use Rattle.wp_waves_words.specs.Limits.{most_effort, usual_desk, usual_effort, usual_most}
use Rattle.wp_words.specs.Options.{capacity_rule, command_with, count_rule, named_rule, required_rule, units_rule}

-- an option that may be given, a number from one to another, and is this number where it isn't
abbrev pub ranged_rule : Text → ℕ → ℕ → Text → Rule
ranged_rule name least most usual = record (named_rule name) {
  parser = Some (vp.Signed (pos least) (pos most));
  defaults = usual ∷ [];
}

-- `waves` takes the names of a layout, a stock file and an order file, how many orders a wave has at most, a capacity,
-- the units of a cart, the names of an open file and of a journal, how many waves there are at most, a desk and an
-- effort
unfoldable pub waves_command : App
waves_command =
    let files = map required_rule (codes "layout" ∷ codes "stock" ∷ codes "orders" ∷ []) in
    let others = ranged_rule (codes "most") 1 most_submissions usual_most
    ∷ ranged_rule (codes "desk") 1 greatest_desk usual_desk
    ∷ ranged_rule (codes "effort") 0 most_effort usual_effort
    ∷ [] in
    command_with (codes "waves") (files ++ count_rule (codes "wave") most_wave_orders ∷ capacity_rule ∷ units_rule
    ∷ named_rule (codes "open") ∷ named_rule (codes "journal") ∷ others)
