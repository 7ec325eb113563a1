use Rattle.std.proofs.Common.{◌∙◌, ap, sym}
use Rattle.wp_sheets.specs.Sheets.{batch_text}
use Rattle.wp_sheets.proofs.OnePicking.{one_picking}
use Rattle.wp_sheets.proofs.laws.batches_have_one_text.Goals as goal

pub returns : goal.returns
returns c = λ number wave stock batch tour_length walk text other one two.
    one.is ∙ (ap (batch_text number wave stock batch tour_length walk) (one_picking wave.holds batch one.picks two.picks one.by_row two.by_row) ∙ sym two.is)
