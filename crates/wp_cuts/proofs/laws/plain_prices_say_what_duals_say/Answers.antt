use Rattle.wp_cuts.proofs.PlainPrices.{plain_prices_say}
use Rattle.wp_cuts.proofs.laws.plain_prices_say_what_duals_say.Goals as goal

pub returns : goal.returns
returns c = plain_prices_say
