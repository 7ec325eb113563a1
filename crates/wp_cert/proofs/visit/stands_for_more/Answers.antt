use Rattle.std.proofs.Common.{subst, sym}
use Rattle.wp_lengths.specs.Lengths.{IsLengthOf}
use Rattle.wp_lengths.specs.Waves.{WavePicks}
use Rattle.wp_cert.specs.Known.{IsKnown}
use Rattle.wp_cert.specs.Levels.{AreLevels}
use Rattle.wp_cert.proofs.Entering.{more_there, reached_there}
use Rattle.wp_cert.proofs.visit.stands_for_more.Goals as goal

pub length_for-length-requires-clause-levels : goal.length_for-length-requires-clause-levels
length_for-length-requires-clause-levels c = subst (λ (w : WavePicks). AreLevels w c.args.levels.now) (sym c.wave.ensures) c.requires.levels

pub returns-clause-levels : goal.returns-clause-levels
returns-clause-levels c = subst (λ (w : WavePicks). AreLevels w c.length_for-length.new.levels) c.wave.ensures c.length_for-length.ensures.levels

pub returns-clause-yes : goal.returns-clause-yes
returns-clause-yes c = λ yes pairing own with.
    more_there c.args.terms.now pairing own c.args.place.now.batch c.args.place.now.from c.args.owed c.length_for-length.result c.requires.lengths
    c.requires.orders
    (subst (λ (w : WavePicks). IsKnown w c.args.place.now.batch c.length_for-length.result) c.wave.ensures c.length_for-length.ensures.known) with
    (c.covers.ensures.yes yes)

pub returns-clause-no : goal.returns-clause-no
returns-clause-no c = λ no_cover pairing own with.
    let short = c.covers.ensures.no no_cover in
    reached_there c.args.terms.now pairing own c.args.place.now.batch c.args.place.now.from c.args.owed c.length_for-length.result
    (subst (λ (w : WavePicks). IsLengthOf w c.args.place.now.batch c.length_for-length.result) c.wave.ensures (c.length_for-length.ensures.exact short))
    c.length_for-length.ensures.known.small with short
