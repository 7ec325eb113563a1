use Rattle.wp_cert.proofs.TextShows.{shows_bound}
use Rattle.wp_cert.proofs.laws.printed_texts_tell_the_bound.Goals as goal

pub returns : goal.returns
returns c = shows_bound
