-- The ends of a tour: class 000 before the first aisle, and a class of a whole tour after the last.
use Rattle.std.proofs.Common.{◌≡◌, ℕ, ◌≤◌, true, false, IsTrue, arith, refl, inl}
use Rattle.wp_graph.specs.Sites.{depot_of}
use Rattle.wp_classes.specs.declared.class.Class.{Class}
use Rattle.wp_classes.specs.declared.class.Class.TheVariants.{UU1, E01, ZE1, EE1, EE2, Z00, Z01}
use Rattle.wp_classes.specs.Tables.{is_whole}
use Rattle.wp_classes.proofs.FitCrossing.{beside_agrees, everywhere_left, front_alone, never_both}
use Rattle.wp_classes.proofs.FitClasses.{Crossed, Fits, Toured, beside, everywhere}

-- before the first aisle nothing has been passed
pub starts_with_none : (t : Toured) → Crossed t 0 Z00
starts_with_none t = (
  omega (arith, t.are.even.first_front),
  everywhere true,
  record { left = everywhere_left t 0 true; back = λ some. refl; front = λ some. absurd (omega (arith, some, t.are.even.first_front)) },
  λ p on low. omega (arith, (t.within p on).aisle.0, low),
)

-- where there is no crossing any more, the class is that of a whole tour
pub done_whole : (t : Toured) (j : ℕ) (class : Class) → t.copies.behind j ≡ 0 → t.copies.front j ≡ 0 → t.site.depot ≤ j → Fits t j class
    → IsTrue (is_whole class)
done_whole t j UU1 b f near fits = absurd (omega (arith, f, fits))
done_whole t j E01 b f near fits = refl
done_whole t j ZE1 b f near fits = refl
done_whole t j EE1 b f near fits = refl
done_whole t j EE2 b f near (even, c, sides, two) = absurd (never_both t j c (beside j c (λ s. false)) two.one two.other (front_alone t j c b sides)
    (beside_agrees t j c false))
done_whole t j Z00 b f near (even, c, sides, none) = absurd (none (depot_of t.site) (inl refl) near)
done_whole t j Z01 b f near fits = refl
