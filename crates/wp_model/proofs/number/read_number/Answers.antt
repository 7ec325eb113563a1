use Rattle.std.proofs.Common.{◌≤◌, get_or, arith}
use Rattle.std.proofs.lemmas.Grind.{common_steps}
use Rattle.wp_model.proofs.Digits.{digits_fit, digits_below, most_fits}
use Rattle.wp_model.proofs.number.read_number.Goals as goal

pub overflow_mul-number : goal.overflow_mul-number
overflow_mul-number c =
    let fit = digits_fit c.loop-byte.number c.loop-byte.byte-index c.args.most c.loop-byte.invariant.2 (omega arith) c.requires in
    omega (arith, fit, most_fits c.args.most c.requires)

pub overflow_add-number : goal.overflow_add-number
overflow_add-number c =
    let fit = digits_fit c.loop-byte.number c.loop-byte.byte-index c.args.most c.loop-byte.invariant.2 (omega arith) c.requires in
    let digit : get_or c.args.text.now c.loop-byte.byte-index 0 ≤ 57 = grind (arith, common_steps, c.is_ascii_digit.ensures.bound) in
    omega (arith, fit, most_fits c.args.most c.requires)

pub returns-clause-bound : goal.returns-clause-bound
returns-clause-bound c =
    digits_below c.loop-byte.number c.loop-byte.byte-index c.args.most c.loop-byte.invariant.2 (omega arith)
