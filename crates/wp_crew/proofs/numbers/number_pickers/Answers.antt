use Rattle.std.proofs.Common.{◌∙◌, length, ap, subst, arith}
use Rattle.std.proofs.lemmas.List.FromFn.{length-range_with_len}
use Rattle.wp_crew.specs.Numbers.{IsRenumbered}
use Rattle.wp_crew.proofs.NewNumbers.{own_numbers_of}
use Rattle.wp_crew.proofs.numbers.number_pickers.Goals as goal

pub number_from-requires-clause-most : goal.number_from-requires-clause-most
number_from-requires-clause-most c =
    omega (
      arith,
      c.requires.most,
      ap length (c.deref_mut.ensures.value ∙ c.in_ok-number_of.ensures),
      length-range_with_len 0 c.args.pickers,
    )

pub number_from-requires-clause-own : goal.number_from-requires-clause-own
number_from-requires-clause-own c =
    own_numbers_of c.args.pickers c.deref_mut.result.now c.deref_mut-2.result.now (c.deref_mut.ensures.value ∙ c.in_ok-number_of.ensures)
    (c.deref_mut-2.ensures.value ∙ c.in_ok-picker_with.ensures)

pub number_from-requires-clause-below : goal.number_from-requires-clause-below
number_from-requires-clause-below c = λ k d low.
    omega (
      arith,
      c.requires.below k d low,
      ap length (c.deref_mut.ensures.value ∙ c.in_ok-number_of.ensures),
      length-range_with_len 0 c.args.pickers,
    )

pub returns-clause-renumbered : goal.returns-clause-renumbered
returns-clause-renumbered c =
    subst (λ n. IsRenumbered n c.args.picker_of.now c.number_from.new.picker_of)
    (ap length (c.deref_mut.ensures.value ∙ c.in_ok-number_of.ensures) ∙ length-range_with_len 0 c.args.pickers)
    c.number_from.ensures.renumbered
