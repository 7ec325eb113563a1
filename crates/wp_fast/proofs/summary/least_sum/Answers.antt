use Rattle.std.proofs.Common.{◌∙◌}
use Rattle.wp_fast.proofs.StandingFor.{stands_for-lesser, stands_for_told}
use Rattle.wp_fast.proofs.summary.least_sum.Goals as goal

pub returns : goal.returns
returns c =
    c.then_some.ensures ∙ stands_for_told _ c.min-least.result
    (rw (c.min-least.ensures, c.min-5.ensures, c.min-4.ensures, c.min-3.ensures, c.min-2.ensures, c.min.ensures)
    (stands_for-lesser c.number_by-uu1.ensures (stands_for-lesser c.number_by-e01.ensures (stands_for-lesser c.number_by-ze1.ensures
    (stands_for-lesser c.number_by-ee1.ensures (stands_for-lesser c.number_by-ee2.ensures
    (stands_for-lesser c.number_by-z00.ensures c.number_by-z01.ensures)))))))
