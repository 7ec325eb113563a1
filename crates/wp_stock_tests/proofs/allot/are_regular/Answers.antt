use Rattle.std.proofs.Common.{◌≡◌, ◌∙◌, ◌<◌, ◌≤◌, sym, ℕ, inl, inr, All, List, length, Some, slice_get, arith, rules}
use Rattle.std.proofs.lemmas.Bool.{cases_order, leb-true}
use Rattle.std.proofs.lemmas.List.Sums.{sum_by-le}
use Rattle.wp_allot.specs.Wants.{AreRegular}
use Rattle.wp_allot.specs.declared.want.Want.{Want}
use Rattle.wp_stock_tests.proofs.allot.are_regular.Goals as goal
use Rattle.wp_stock_tests.proofs.allot.are_regular.Goals.{then-wants-le1000, else-wants-le1000}

abbrev AllFollow : List Want → Type 0
AllFollow wants = (j k : ℕ) (v w : Want) → k < j → slice_get wants k ≡ Some v → slice_get wants j ≡ Some w → (v.order ≤ w.order)
    × (v.order ≡ w.order → v.article ≡ w.article → ⊥)

regular_from : (wants : List Want) → length wants ≤ 1000 → AllFollow wants → All (λ (want : Want). (0 < want.quantity) × (want.quantity ≤ 1000000)) wants
    → AreRegular wants
regular_from wants few follow moderate = record {
  ordered = λ i j v w before at there. (follow j i v w before at there).0;
  once = λ i j v w at there o a. elim (cases_order i j) [
    | inl same ↦ same
    | inr other ↦ elim other [
      | inl before ↦ absurd ((follow j i v w before at there).1 o a)
      | inr after ↦ absurd
          ((follow i j w v after there at).1 (sym o) (sym a))
    ]
  ];
  some = λ k d within. (moderate k d within).0;
  small = omega (arith, sum_by-le (λ (want : Want). want.quantity) 1000000 wants (λ k d within. (moderate k d within).1));
}

pub returns-then-all_follow-clause-regular : goal.returns-then-all_follow-clause-regular
returns-then-all_follow-clause-regular c = λ yes.
    elim c.if-wants-le1000.branch [
      | then-wants-le1000 w ↦ regular_from c.args.wants.now (omega arith) (w.all_follow.ensures (search rules)) (c.are_moderate.ensures yes)
      | else-wants-le1000 w ↦ absurd (omega (arith, leb-true (length c.args.wants.now) 1000 (sym w.value-is ∙ c.if-all_follow.true)))
    ]
