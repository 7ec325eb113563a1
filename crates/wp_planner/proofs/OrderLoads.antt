-- The loads of orders grow hold by hold.
use Rattle.std.proofs.Common.{◌≡◌, ◌∙◌, ℕ, zero, suc, ◌+◌, ◌<◌, ◌≤◌, ◌==◌, List, [], ◌∷◌, ◌++◌, Some, All, length, take}
use Rattle.std.proofs.Common.{refl, sym, ap, subst, arith, inl, inr, ne_eqb, eq-eqb, get_or, get_or-set_other, get_or-set_same, replicate, add-one}
use Rattle.std.proofs.lemmas.Bool.{cases_eq, cond-false, cond-true}
use Rattle.std.proofs.lemmas.List.{get_or-replicate}
use Rattle.std.proofs.lemmas.List.Elements.{All-head, All-tail}
use Rattle.std.proofs.lemmas.List.Sums.{sum_by-append, sum_by-cons}
use Rattle.std.proofs.Math.Seq.{take-suc}
use Rattle.std.specs.Prelude.{slice_index, slice_set}
use Rattle.wp_model.specs.declared.row.Hold.{Hold}
use Rattle.wp_planner.specs.Loads.{AreLight, load_for, units_for}

-- no hold loads anything for an order past all that are held for
pub nobody_past : (most : ℕ) (holds : List Hold) → All (λ hold. hold.order < most) holds → (order : ℕ) → most ≤ order → load_for holds order ≡ 0
nobody_past most [] all order past = refl
nobody_past most (h ∷ hs) all order past =
    let first : h.order < most = All-head (λ (x : Hold). x.order < most) h hs all in
    let rest = nobody_past most hs (All-tail (λ (x : Hold). x.order < most) h hs all) order past in
    let none = cond-false (h.order == order) h.quantity 0 (ne_eqb h.order order (λ e. absurd (omega (arith, first, past, e)))) in
    omega (arith, sum_by-cons (units_for order) h hs, none, rest)

-- what the holds up to a place and the one that stands there load for an order
pub load_more : (holds : List Hold) (i : ℕ) (d : Hold) (order : ℕ) → i < length holds
    → load_for (take (i + 1) holds) order ≡ load_for (take i holds) order + units_for order (get_or holds i d)
load_more holds i d order low =
    let grown : take (i + 1) holds ≡ take i holds ++ get_or holds i d ∷ [] = ap (λ (n : ℕ). take n holds) (add-one i) ∙ take-suc holds i d low in
    let split = sum_by-append (units_for order) (take i holds) (get_or holds i d ∷ []) in
    omega (arith, ap (λ (hs : List Hold). load_for hs order) grown, split, sum_by-cons (units_for order) (get_or holds i d) [])

-- the first holds load no more than all
pub load_of_first : (holds : List Hold) (n order : ℕ) → load_for (take n holds) order ≤ load_for holds order
load_of_first [] zero order = omega arith
load_of_first [] (suc n) order = omega arith
load_of_first (h ∷ hs) zero order = omega arith
load_of_first (h ∷ hs) (suc n) order =
    omega (arith, sum_by-cons (units_for order) h (take n hs), sum_by-cons (units_for order) h hs, load_of_first hs n order)

-- loads are those of holds, and none is above the units
pub record AreKept (units : ℕ) (holds : List Hold) (loads : List ℕ) : Type 0 where
  pub are : (order : ℕ) → order < 64 → slice_index loads order ≡ load_for holds order
  pub light : (order : ℕ) → load_for holds order ≤ units

-- without holds nobody loads anything
pub none_kept : (units : ℕ) (loads : List ℕ) → loads ≡ replicate 64 0 → AreKept units [] loads
none_kept units loads none = record {
  are = λ order low. ap (λ (ls : List ℕ). slice_index ls order) none ∙ get_or-replicate 64 order 0 0 low;
  light = λ order. omega arith;
}

-- one more hold, with which its order loads no more than the units
pub one_more_kept : (units : ℕ) (holds : List Hold) (i : ℕ) (d : Hold) (loads new : List ℕ) → i < length holds → length loads ≡ 64
    → (get_or holds i d).order < 64
    → slice_index loads (get_or holds i d).order + (get_or holds i d).quantity ≤ units
    → new ≡ slice_set loads (get_or holds i d).order (slice_index loads (get_or holds i d).order + (get_or holds i d).quantity)
    → AreKept units (take i holds) loads → AreKept units (take (i + 1) holds) new
one_more_kept units holds i d loads new low count known fits is before =
    let hold = get_or holds i d in
    let sum = slice_index loads hold.order + hold.quantity in
    let own : units_for hold.order hold ≡ hold.quantity = cond-true (hold.order == hold.order) hold.quantity 0 (eq-eqb hold.order hold.order refl) in
    record {
      are = λ order below. elim (cases_eq hold.order order) [
        | inl same ↦
            let put : slice_index (slice_set loads hold.order sum) hold.order ≡ sum = get_or-set_same loads hold.order sum 0 (omega (arith, known, count)) in
            let here : slice_index new hold.order ≡ sum = ap (λ (ls : List ℕ). slice_index ls hold.order) is ∙ put in
            let more = load_more holds i d hold.order low in
            subst (λ (o : ℕ). slice_index new o ≡ load_for (take (i + 1) holds) o) same (omega (arith, here, more, own, before.are hold.order known))
        | inr other ↦
            let kept : slice_index (slice_set loads hold.order sum) order ≡ slice_index loads order =
            get_or-set_other loads hold.order order sum 0 (λ e. other (sym e)) in
            let none = cond-false (hold.order == order) hold.quantity 0 (ne_eqb hold.order order other) in
            let more = load_more holds i d order low in
            omega (arith, ap (λ (ls : List ℕ). slice_index ls order) is, kept, none, more, before.are order below)
      ];
      light = λ order. elim (cases_eq hold.order order) [
        | inl same ↦
            let more = load_more holds i d hold.order low in
            subst (λ (o : ℕ). load_for (take (i + 1) holds) o ≤ units) same (omega (arith, more, own, fits, before.are hold.order known))
        | inr other ↦
            let none = cond-false (hold.order == order) hold.quantity 0 (ne_eqb hold.order order other) in
            omega (arith, load_more holds i d order low, none, before.light order)
      ];
    }

-- where no order loads more than the units, one more hold doesn't bring its order above them
pub fits_light : (units : ℕ) (holds : List Hold) (i : ℕ) (d : Hold) (loads : List ℕ) → i < length holds → (get_or holds i d).order < 64
    → AreKept units (take i holds) loads → AreLight (Some units) holds
    → slice_index loads (get_or holds i d).order + (get_or holds i d).quantity ≤ units
fits_light units holds i d loads low known before light =
    let hold = get_or holds i d in
    let own : units_for hold.order hold ≡ hold.quantity = cond-true (hold.order == hold.order) hold.quantity 0 (eq-eqb hold.order hold.order refl) in
    omega (arith, light hold.order, load_of_first holds (i + 1) hold.order, load_more holds i d hold.order low, own, before.are hold.order known)
