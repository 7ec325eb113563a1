use Rattle.std.proofs.Common.{arith, sym, ◌∙◌}
use Rattle.std.proofs.lemmas.Int.{ints}
use Rattle.wp_price.proofs.Options.{not_some}
use Rattle.wp_price.proofs.Passing.{short_marks_pass}
use Rattle.wp_price.proofs.pricing.marks_of.Goals as goal

pub returns-clause-pass : goal.returns-clause-pass
returns-clause-pass g c = short_marks_pass c.args.search.now.wave c.args.search.now.pairing c.args.search.now.duals c.in_ok-all_marks.field-0
    (c.requires (not_some c.args.through (sym c.is_some.ensures ∙ c.if-is_some.false)) (omega (arith, ints, c.if-slack-lt0.false)))
    c.in_ok-all_marks.ensures
