use Rattle.std.proofs.Common.{◌∙◌, sym, length}
use Rattle.wp_waves.specs.Turns.{units_free}
use Rattle.wp_waves.proofs.Shortages.{covered_from_none}
use Rattle.wp_waves.proofs.free_stock.FreeStock.serve.Goals as goal

pub take-requires-clause-covered : goal.take-requires-clause-covered
take-requires-clause-covered c =
    covered_from_none (length c.args.self.now.units.items) c.args.lines.now (units_free c.args.self.now) c.requires.within
    (sym c.first_shortage.ensures ∙ c.in-None.is)
