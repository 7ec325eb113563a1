use Rattle.std.proofs.Common.{arith, refl, subst}
use Rattle.std.proofs.lemmas.Bool.{false≢true}
use Rattle.wp_lengths.specs.Lengths.{IsLengthOf}
use Rattle.wp_lengths.specs.Waves.{WavePicks}
use Rattle.wp_cert.proofs.OwnTests.{pays_exactly, pays_only}
use Rattle.wp_cert.proofs.own.pays_its_length.Goals as goal

pub returns-then-charged-paid : goal.returns-then-charged-paid
returns-then-charged-paid c = (
  λ _. pays_exactly c.args.tested.now.terms.now c.args.tested.now.own.now c.args.batch c.batch_length-length.result
      (subst (λ (w : WavePicks). IsLengthOf w c.args.batch c.batch_length-length.result) c.wave.ensures c.batch_length-length.ensures.is)
      (omega (
        arith,
        (rw c.as_slice.ensures at c.sum_of-sum.ensures),
        (rw (c.as_slice-2.ensures, c.table.ensures) at c.taken_off-off.ensures.is),
        c.taken_off-off.ensures.small,
        c.saturating_add-charged.ensures,
        c.from.ensures,
        c.from-2.ensures,
        c.batch_length-length.ensures.small,
        c.if-charged-paid.true,
      )),
  λ _. refl,
)

pub returns : goal.returns
returns c = (
  λ yes. absurd (false≢true yes),
  λ pays. absurd (c.if-charged-paid.false (omega (
    arith,
    (rw c.as_slice.ensures at c.sum_of-sum.ensures),
    (rw (c.as_slice-2.ensures, c.table.ensures) at c.taken_off-off.ensures.is),
    c.taken_off-off.ensures.small,
    c.saturating_add-charged.ensures,
    c.from.ensures,
    c.from-2.ensures,
    c.batch_length-length.ensures.small,
    pays_only c.args.tested.now.terms.now c.args.tested.now.own.now c.args.batch c.batch_length-length.result
        (subst (λ (w : WavePicks). IsLengthOf w c.args.batch c.batch_length-length.result) c.wave.ensures c.batch_length-length.ensures.is) pays,
  ))),
)
