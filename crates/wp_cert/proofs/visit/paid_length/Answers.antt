use Rattle.std.proofs.Common.{arith, subst, sym}
use Rattle.wp_lengths.specs.Lengths.{IsLengthOf}
use Rattle.wp_lengths.specs.Waves.{WavePicks}
use Rattle.wp_cert.specs.Known.{IsKnown}
use Rattle.wp_cert.specs.Levels.{AreLevels}
use Rattle.wp_cert.proofs.Entering.{much_there, paid_there}
use Rattle.wp_cert.proofs.visit.paid_length.Goals as goal

pub length_for-length-requires-clause-levels : goal.length_for-length-requires-clause-levels
length_for-length-requires-clause-levels c = subst (λ (w : WavePicks). AreLevels w c.args.levels.now) (sym c.wave.ensures) c.requires.levels

pub returns-then-covers-clause-levels : goal.returns-then-covers-clause-levels
returns-then-covers-clause-levels c = subst (λ (w : WavePicks). AreLevels w c.length_for-length.new.levels) c.wave.ensures c.length_for-length.ensures.levels

pub returns-then-covers-clause-paid : goal.returns-then-covers-clause-paid
returns-then-covers-clause-paid c = λ own is.
    paid_there c.args.terms.now own c.args.place.now.batch c.args.owed c.length_for-length.result c.requires.lengths c.requires.orders
    (subst (λ (w : WavePicks). IsKnown w c.args.place.now.batch c.length_for-length.result) c.wave.ensures c.length_for-length.ensures.known) is
    (c.covers.ensures.yes c.if-covers.true)

pub returns-else-covers-clause-levels : goal.returns-else-covers-clause-levels
returns-else-covers-clause-levels c = subst (λ (w : WavePicks). AreLevels w c.length_for-length.new.levels) c.wave.ensures c.length_for-length.ensures.levels

pub returns-else-covers-clause-too_much : goal.returns-else-covers-clause-too_much
returns-else-covers-clause-too_much c = λ own is.
    let short = c.covers.ensures.no c.if-covers.false in
    much_there c.args.terms.now own c.args.place.now.batch c.args.owed c.length_for-length.result (omega (arith, c.requires.size))
    (subst (λ (w : WavePicks). IsLengthOf w c.args.place.now.batch c.length_for-length.result) c.wave.ensures (c.length_for-length.ensures.exact short))
    c.length_for-length.ensures.known.small is short
