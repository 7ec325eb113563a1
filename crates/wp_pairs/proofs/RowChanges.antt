-- Rows of orders, one changed at a time.
use Rattle.std.proofs.Common.{◌≡◌, ◌≢◌, ℕ, ◌+◌, ◌<◌, ◌≤◌, ◌↔◌, List, [], length, set, arith, ap, sym, ◌∙◌, subst, inl, inr, ◌⊎◌, ⊎_elim, Contains}
use Rattle.std.proofs.lemmas.Bool.{cases_eq}
use Rattle.std.proofs.lemmas.List.{get_or-set_same, get_or-set_other, length-set}
use Rattle.wp_pairs.specs.Kept.{IsListedForEither, JoinsClasses, PartsClasses, listed_for}
use Rattle.wp_pairs.proofs.Members.{contains_none}

-- each row below this place has its own order alone
pub record AreSingleBelow (rows : List (List ℕ)) (place : ℕ) : Type 0 where
  pub whole : length rows ≡ 64
  pub each : (order other : ℕ) → order < place → (Contains (listed_for rows order) other ↔ (other ≡ order))

-- with one more such row, that is so of one more place
pub one_more_single : (rows : List (List ℕ)) (row none : List ℕ) (place : ℕ) → AreSingleBelow rows place → place < 64 → none ≡ []
    → ((p : ℕ) → Contains row p ↔ (Contains none p ⊎ (p ≡ place))) → AreSingleBelow (set rows place row) (place + 1)
one_more_single rows row none place before within empty is = record {
  whole = length-set rows place row ∙ before.whole;
  each = λ order other low. ⊎_elim
      (λ (e : order ≡ place).
      let here : listed_for (set rows place row) order ≡ row = ap (listed_for (set rows place row)) e
      ∙ get_or-set_same rows place row [] (omega (arith, before.whole)) in (
        λ h. ⊎_elim (λ old. absurd (contains_none other (subst (λ (xs : List ℕ). Contains xs other) empty old))) (λ same. same ∙ sym e)
            ((is other).0 (subst (λ (xs : List ℕ). Contains xs other) here h)),
        λ same. subst (λ (xs : List ℕ). Contains xs other) (sym here) ((is other).1 (inr (same ∙ e))),
      ))
      (λ (ne : order ≢ place).
      let there : listed_for (set rows place row) order ≡ listed_for rows order = get_or-set_other rows place order row [] ne in
      let old = before.each order other (omega (arith, ne)) in
      (λ h. old.0 (subst (λ (xs : List ℕ). Contains xs other) there h), λ same. subst (λ (xs : List ℕ). Contains xs other) (sym there) (old.1 same)))
      (cases_eq order place);
}

-- the rows below this place that are of the batch have further orders, and all others stayed
pub record AreWidenedBelow (before rows : List (List ℕ)) (batch orders : List ℕ) (place : ℕ) : Type 0 where
  pub whole : length rows ≡ 64
  pub there : (order other : ℕ) → order < place → Contains batch order
      → (Contains (listed_for rows order) other ↔ (Contains (listed_for before order) other ⊎ Contains orders other))
  pub elsewhere : (order : ℕ) → order < place → (Contains batch order → ⊥) → listed_for rows order ≡ listed_for before order
  pub above : (order : ℕ) → place ≤ order → listed_for rows order ≡ listed_for before order

-- one more row of the batch
pub one_more_widened : (before rows : List (List ℕ)) (batch orders old row : List ℕ) (place : ℕ) → AreWidenedBelow before rows batch orders place
    → place < 64 → Contains batch place → old ≡ listed_for rows place → ((p : ℕ) → Contains row p ↔ (Contains old p ⊎ Contains orders p))
    → AreWidenedBelow before (set rows place row) batch orders (place + 1)
one_more_widened before rows batch orders old row place so_far within of is_old is =
    let other_row = λ (order : ℕ) (ne : order ≢ place). get_or-set_other rows place order row [] ne in
    let old_is : old ≡ listed_for before place = is_old ∙ so_far.above place (omega arith) in
    record {
      whole = length-set rows place row ∙ so_far.whole;
      there = λ order other low has. ⊎_elim
          (λ (e : order ≡ place).
          let here : listed_for (set rows place row) order ≡ row = ap (listed_for (set rows place row)) e
          ∙ get_or-set_same rows place row [] (omega (arith, so_far.whole)) in
          let was : old ≡ listed_for before order = old_is ∙ sym (ap (listed_for before) e) in (
            λ h. ⊎_elim (λ o. inl (subst (λ (xs : List ℕ). Contains xs other) was o)) (λ more. inr more)
                ((is other).0 (subst (λ (xs : List ℕ). Contains xs other) here h)),
            λ h. subst (λ (xs : List ℕ). Contains xs other) (sym here)
                ((is other).1 (⊎_elim (λ o. inl (subst (λ (xs : List ℕ). Contains xs other) (sym was) o)) (λ more. inr more) h)),
          ))
          (λ (ne : order ≢ place).
          let kept = so_far.there order other (omega (arith, ne)) has in (
            λ h. kept.0 (subst (λ (xs : List ℕ). Contains xs other) (other_row order ne) h),
            λ h. subst (λ (xs : List ℕ). Contains xs other) (sym (other_row order ne)) (kept.1 h),
          ))
          (cases_eq order place);
      elsewhere = λ order low none. let ne : order ≢ place = λ (e : order ≡ place). none (subst (Contains batch) (sym e) of) in
          other_row order ne ∙ so_far.elsewhere order (omega (arith, ne)) none;
      above = λ order high. let ne : order ≢ place = omega arith in other_row order ne ∙ so_far.above order (omega arith);
    }

-- one more row that is not of the batch
pub one_more_kept : (before rows : List (List ℕ)) (batch orders : List ℕ) (place : ℕ) → AreWidenedBelow before rows batch orders place
    → (Contains batch place → ⊥) → AreWidenedBelow before rows batch orders (place + 1)
one_more_kept before rows batch orders place so_far not_of = record {
  whole = so_far.whole;
  there = λ order other low has. ⊎_elim (λ (e : order ≡ place). absurd (not_of (subst (Contains batch) e has)))
      (λ (ne : order ≢ place). so_far.there order other (omega (arith, ne)) has) (cases_eq order place);
  elsewhere = λ order low none. ⊎_elim (λ (e : order ≡ place). so_far.above order (omega arith))
      (λ (ne : order ≢ place). so_far.elsewhere order (omega (arith, ne)) none) (cases_eq order place);
  above = λ order high. so_far.above order (omega arith);
}

-- what a change of rows does: those of a batch are set to some orders, the others stay
pub record SetsRows (before after : List (List ℕ)) (batch orders : List ℕ) : Type 0 where
  pub there : (order : ℕ) → order < 64 → Contains batch order → listed_for after order ≡ orders
  pub elsewhere : (order : ℕ) → order < 64 → (Contains batch order → ⊥) → listed_for after order ≡ listed_for before order

-- those of a batch have further orders, the others stay
pub record WidensRows (before after : List (List ℕ)) (batch orders : List ℕ) : Type 0 where
  pub there : (order other : ℕ) → order < 64 → Contains batch order
      → (Contains (listed_for after order) other ↔ (Contains (listed_for before order) other ⊎ Contains orders other))
  pub elsewhere : (order : ℕ) → order < 64 → (Contains batch order → ⊥) → listed_for after order ≡ listed_for before order

-- a batch of all that is listed for either of two orders
pub IsUnionOf : List (List ℕ) → ℕ → ℕ → List ℕ → Type 0
IsUnionOf rows first second orders = (p : ℕ) → Contains orders p ↔ IsListedForEither rows first second p

-- a union of two rows, as they were read, is one of what is listed for either
pub union_of : (rows : List (List ℕ)) (first second : ℕ) (left right orders : List ℕ) → left ≡ listed_for rows first → right ≡ listed_for rows second
    → ((p : ℕ) → Contains orders p ↔ (Contains left p ⊎ Contains right p)) → IsUnionOf rows first second orders
unfolding IsUnionOf
union_of rows first second left right orders l r is p = (
  λ h. ⊎_elim (λ a. inl (subst (λ (xs : List ℕ). Contains xs p) l a)) (λ b. inr (subst (λ (xs : List ℕ). Contains xs p) r b)) ((is p).0 h),
  λ h. (is p).1 (⊎_elim (λ a. inl (subst (λ (xs : List ℕ). Contains xs p) (sym l) a)) (λ b. inr (subst (λ (xs : List ℕ). Contains xs p) (sym r) b)) h),
)

-- rows that are set and then widened join two classes
pub joins_classes : (joined joined_after parted between parted_after : List (List ℕ)) (first second : ℕ) (class away : List ℕ)
    → IsUnionOf joined first second class → IsUnionOf parted first second away → SetsRows joined joined_after class class
    → SetsRows parted between class away → WidensRows between parted_after away class → JoinsClasses joined joined_after parted parted_after first second
unfolding IsUnionOf
joins_classes joined joined_after parted between parted_after first second class away class_is away_is sets parts widens = record {
  class = λ order other within near. let here = sets.there order within ((class_is order).1 near) in (
    λ h. (class_is other).0 (subst (λ (xs : List ℕ). Contains xs other) here h),
    λ h. subst (λ (xs : List ℕ). Contains xs other) (sym here) ((class_is other).1 h),
  );
  others = λ order within none. sets.elsewhere order within (λ h. none ((class_is order).0 h));
  parted_class = λ order other within near not_away.
      let kept = widens.elsewhere order within (λ h. not_away ((away_is order).0 h)) ∙ parts.there order within ((class_is order).1 near) in (
        λ h. (away_is other).0 (subst (λ (xs : List ℕ). Contains xs other) kept h),
        λ h. subst (λ (xs : List ℕ). Contains xs other) (sym kept) ((away_is other).1 h),
      );
  away = λ order other within none is_away.
      let wide = widens.there order other within ((away_is order).1 is_away) in
      let was = parts.elsewhere order within (λ h. none ((class_is order).0 h)) in (
        λ h. ⊎_elim (λ o. inl (subst (λ (xs : List ℕ). Contains xs other) was o)) (λ c. inr ((class_is other).0 c)) (wide.0 h),
        λ h. wide.1 (⊎_elim (λ o. inl (subst (λ (xs : List ℕ). Contains xs other) (sym was) o)) (λ c. inr ((class_is other).1 c)) h),
      );
  rest = λ order within none not_away. widens.elsewhere order within (λ h. not_away ((away_is order).0 h))
      ∙ parts.elsewhere order within (λ h. none ((class_is order).0 h));
}

-- rows that are widened by each other part two classes
pub parts_classes : (joined parted between parted_after : List (List ℕ)) (first second : ℕ) (left right : List ℕ)
    → left ≡ listed_for joined first → right ≡ listed_for joined second → WidensRows parted between left right
    → WidensRows between parted_after right left → PartsClasses joined parted parted_after first second
parts_classes joined parted between parted_after first second left right l r widens back = record {
  of_first = λ order other within here not_there.
      let wide = widens.there order other within (subst (λ (xs : List ℕ). Contains xs order) (sym l) here) in
      let kept = back.elsewhere order within (λ h. not_there (subst (λ (xs : List ℕ). Contains xs order) r h)) in (
        λ h. ⊎_elim (λ o. inl o) (λ c. inr (subst (λ (xs : List ℕ). Contains xs other) r c)) (wide.0 (subst (λ (xs : List ℕ). Contains xs other) kept h)),
        λ h. subst (λ (xs : List ℕ). Contains xs other) (sym kept)
            (wide.1 (⊎_elim (λ o. inl o) (λ c. inr (subst (λ (xs : List ℕ). Contains xs other) (sym r) c)) h)),
      );
  of_second = λ order other within not_here there.
      let wide = back.there order other within (subst (λ (xs : List ℕ). Contains xs order) (sym r) there) in
      let was = widens.elsewhere order within (λ h. not_here (subst (λ (xs : List ℕ). Contains xs order) l h)) in (
        λ h. ⊎_elim (λ o. inl (subst (λ (xs : List ℕ). Contains xs other) was o)) (λ c. inr (subst (λ (xs : List ℕ). Contains xs other) l c)) (wide.0 h),
        λ h. wide.1 (⊎_elim (λ o. inl (subst (λ (xs : List ℕ). Contains xs other) (sym was) o))
            (λ c. inr (subst (λ (xs : List ℕ). Contains xs other) (sym l) c)) h),
      );
  rest = λ order within not_here not_there. back.elsewhere order within (λ h. not_there (subst (λ (xs : List ℕ). Contains xs order) r h))
      ∙ widens.elsewhere order within (λ h. not_here (subst (λ (xs : List ℕ). Contains xs order) l h));
}
