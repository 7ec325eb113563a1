use Rattle.std.proofs.Common.{◌<◌, ◌+◌, ◌∙◌, ℕ, List, length, get_or, refl, sym, subst, arith}
use Rattle.std.specs.List.{swap}
use Rattle.std.proofs.lemmas.List.Elements.{All-get_or}
use Rattle.wp_crew.proofs.NewNumbers.{AreGiven, number_given, number_kept, numbered_by_first}
use Rattle.wp_crew.proofs.numbers.number_by_first.Goals as goal
use Rattle.wp_crew.proofs.numbers.number_by_first.Goals.{then-given-number, else-given-number}

pub overflow_add-given : goal.overflow_add-given
overflow_add-given c =
    let picker = get_or c.args.picker_of.now c.loop-picker.picker-index 0 in
    let low = All-get_or (λ (k : ℕ). k < length c.args.number_of.now) c.args.picker_of.now c.loop-picker.picker-index 0 c.loop-picker-test.true
    c.requires.below in
    omega (arith, c.requires.most, c.loop-picker.invariant.numbers.number_below picker low, c.loop-picker.invariant.most, c.if-given-number.true)

pub loop-picker-preserved : goal.loop-picker-preserved
loop-picker-preserved c =
    let picker = get_or c.args.picker_of.now c.loop-picker.picker-index 0 in
    let low = All-get_or (λ (k : ℕ). k < length c.args.number_of.now) c.args.picker_of.now c.loop-picker.picker-index 0 c.loop-picker-test.true
    c.requires.below in
    let pickers = length c.args.number_of.now in
    let owners = c.args.picker_of.now in
    let at = c.loop-picker.picker-index in
    let given = c.loop-picker.given in
    let numbers = c.loop-picker.number_of in
    let with = c.loop-picker.picker_with in
    elim c.if-given-number.branch [
      | then-given-number w ↦
          subst (λ (n : ℕ). AreGiven pickers owners c.if-given-number.number_of c.if-given-number.picker_with (at + 1) n) (sym w.given-is)
          (subst (λ (ys : List ℕ). AreGiven pickers owners c.if-given-number.number_of ys (at + 1) (given + 1))
          (sym (w.picker_with-is ∙ w.swap-then-given-number.ensures.after))
          (subst (λ (xs : List ℕ). AreGiven pickers owners xs (swap with given (get_or numbers picker 0)) (at + 1) (given + 1))
          (sym (w.number_of-is ∙ w.swap.ensures.after))
          (number_given pickers owners numbers with at given picker (get_or numbers picker 0) (get_or with given 0) c.loop-picker.invariant refl low refl
          w.if-given-number.true refl)))
      | else-given-number w ↦
          subst (λ (n : ℕ). AreGiven pickers owners c.if-given-number.number_of c.if-given-number.picker_with (at + 1) n) (sym w.given-is)
          (subst (λ (ys : List ℕ). AreGiven pickers owners c.if-given-number.number_of ys (at + 1) given) (sym w.picker_with-is)
          (subst (λ (xs : List ℕ). AreGiven pickers owners xs with (at + 1) given) (sym w.number_of-is)
          (number_kept pickers owners numbers with at given picker c.loop-picker.invariant refl w.if-given-number.false)))
    ]

pub returns-clause-numbered : goal.returns-clause-numbered
returns-clause-numbered c =
    numbered_by_first (length c.args.number_of.now) c.args.picker_of.now c.loop-picker.number_of c.loop-picker.picker_with c.loop-picker.picker-index
    c.loop-picker.given c.loop-picker.invariant (omega arith)
