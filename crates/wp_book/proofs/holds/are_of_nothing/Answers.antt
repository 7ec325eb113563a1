use Rattle.std.proofs.Common.{sym, ◌∙◌, ◌==◌, rules, tests}
use Rattle.std.proofs.lemmas.Iterator.{YieldsList-from_slice}
use Rattle.std.proofs.lemmas.Iterator.Search.{all_from_yields_List}
use Rattle.std.proofs.lemmas.List.Folds.{sum_by-zero}
use Rattle.wp_model.specs.declared.row.Hold.{Hold}
use Rattle.wp_book.proofs.holds.are_of_nothing.Goals as goal

pub returns : goal.returns
returns c =
    all_from_yields_List (λ (hold : Hold). hold.quantity == 0) _ _ _ c.all.ensures.ran (YieldsList-from_slice c.args.holds.now cc)
    (λ x b q k. search (rules, tests))
    ∙ sym (sum_by-zero (λ (hold : Hold). hold.quantity) c.args.holds.now)
