-- Holds in the order of their orders and rows.
use Rattle.std.proofs.Common.{◌≡◌, ◌∙◌, sym, ap, ℕ, ◌+◌, ◌-◌, ◌<◌, ◌≤◌, ◌==◌, ◌&&◌, true, false, inl, inr, List, ◌++◌, length}
use Rattle.std.proofs.Common.{map, take, drop, get_or, slice_get, Some, Option, arith}
use Rattle.std.proofs.lemmas.Bool.{cases_lt, cond-false}
use Rattle.std.proofs.lemmas.Bool.Decides.{nat_tests}
use Rattle.std.proofs.lemmas.List.{get_or-drop, get_or-take, length-take, length-drop, length-map, take-append-drop, drop-drop, map-append}
use Rattle.std.proofs.lemmas.List.Sorted.{All-permutation, sum_by-IsPermutation}
use Rattle.std.proofs.lemmas.List.Sums.{sum_by-append}
use Rattle.std.proofs.lemmas.Option.{slice_get-get_or, slice_get-map, slice_get_within}
use Rattle.std.specs.List.{between, sum_by}
use Rattle.std.specs.List.Sorted.{IsPartitionedBy, IsPermutation}
use Rattle.std.specs.Option.{option_map, option_map_or}
use Rattle.wp_model.proofs.Elements.{if_some_then, within_some}
use Rattle.wp_model.specs.Book.{Book, held_for, hold_at, hold_for, units_at, units_for}
use Rattle.wp_model.specs.declared.row.Hold.{Hold}
use Rattle.wp_model.specs.declared.row.Row.{Row}
use Rattle.wp_book.specs.Calls.{CanHold, HasHeld}
use Rattle.wp_book.specs.Room.{AreInOrder, ComesFirst, Parts, StandBetween, is_before, place_of}
use Rattle.wp_book.proofs.HoldSums.{held_same, sum_by-zeros}

-- a hold that comes no later than one that comes before an order at a row does so too
before_first : (order row : ℕ) (g h : Hold) → ComesFirst g h → is_before order row h ≡ true → is_before order row g ≡ true
before_first order row g h first before = grind (arith, nat_tests, first.order, first.row)

-- so holds in order are parted by an order and a row
pub parted : (order row : ℕ) (holds : List Hold) → AreInOrder holds → IsPartitionedBy (is_before order row) holds
parted order row holds ordered i j d upto within before =
    before_first order row (get_or holds i d) (get_or holds j d)
    (ordered i j (get_or holds i d) (get_or holds j d) upto (slice_get-get_or holds i d (omega arith)) (slice_get-get_or holds j d within)) before

-- a hold that comes before an order at a row is not for it
before-none : (order row : ℕ) (hold : Hold) → is_before order row hold ≡ true → hold_for order row hold ≡ 0
before-none order row hold before = cond-false ((hold.order == order) && (hold.row == row)) hold.quantity 0 (grind (arith, nat_tests))

-- nor is one that doesn't come before the next row
after-none : (order row : ℕ) (hold : Hold) → is_before order (row + 1) hold ≡ false → hold_for order row hold ≡ 0
after-none order row hold after = cond-false ((hold.order == order) && (hold.row == row)) hold.quantity 0 (grind (arith, nat_tests))

not_both : (order row : ℕ) (hold : Hold) → is_before order row hold ≡ true → is_before order (row + 1) hold ≡ false → ⊥
not_both order row hold before after = grind (arith, nat_tests)

none : Hold
none = record { order = 0; row = 0; quantity = 0 }

-- a list of which the part between two places was written over
abbrev written : {X : Type 0} → ℕ → ℕ → List X → List X → List X
written i j xs ys = take i xs ++ (ys ++ drop (j - i) (drop i xs))

-- a list is its front, what lies between, and the rest
as_parts : {X : Type 0} (xs : List X) (i j : ℕ) → written i j xs (between i j xs) ≡ xs
as_parts {X = X} xs i j = ap (λ (ys : List X). take i xs ++ ys) (take-append-drop (j - i) (drop i xs)) ∙ take-append-drop i xs

-- the sum of a list of which a part was written over
sum_by-parts : {X : Type 0} (f : X → ℕ) (xs ys : List X) (i j : ℕ) → i ≤ j
    → sum_by f (written i j xs ys) ≡ sum_by f (take i xs) + (sum_by f ys + sum_by f (drop j xs))
sum_by-parts {X = X} f xs ys i j upto =
    let rest : drop (j - i) (drop i xs) ≡ drop j xs = drop-drop (j - i) i xs ∙ ap (λ n. drop n xs) (omega arith) in
    sum_by-append f (take i xs) (ys ++ drop (j - i) (drop i xs))
    ∙ ap (λ n. sum_by f (take i xs) + n)
    (sum_by-append f ys (drop (j - i) (drop i xs)) ∙ ap (λ (zs : List X). sum_by f ys + sum_by f zs) rest)

-- a part that was written over changes the sum as its own
pub sum_by-written : {X : Type 0} (f : X → ℕ) (xs ys : List X) (i j : ℕ) → i ≤ j
    → sum_by f (written i j xs ys) + sum_by f (between i j xs) ≡ sum_by f xs + sum_by f ys
sum_by-written f xs ys i j upto = omega (
  arith,
  sum_by-parts f xs ys i j upto,
  sum_by-parts f xs (between i j xs) i j upto,
  ap (sum_by f) (as_parts xs i j),
)

-- a part that was written over by what a function gives the same of leaves all that it gives
pub map-written : {X : Type 0} (f : X → X) (xs ys : List X) (i j : ℕ) → map f ys ≡ map f (between i j xs) → map f (written i j xs ys) ≡ map f xs
map-written {X = X} f xs ys i j same =
    let rest = drop (j - i) (drop i xs) in
    let parts : (zs : List X) → map f (written i j xs zs) ≡ map f (take i xs) ++ (map f zs ++ map f rest) =
    λ zs. map-append f (take i xs) (zs ++ rest) ∙ ap (λ (more : List X). map f (take i xs) ++ more) (map-append f zs rest) in
    parts ys ∙ (ap (λ (mid : List X). map f (take i xs) ++ (mid ++ map f rest)) same ∙ (sym (parts (between i j xs)) ∙ ap (map f) (as_parts xs i j)))

-- the holds for an order at a row stand between the places that the row and the next one part
pub found_between : (order row start end : ℕ) (holds : List Hold) → Parts order row holds start → Parts order (row + 1) holds end
    → StandBetween order row holds start end
found_between order row start end holds first last = record {
  upto = upto;
  within = last.within;
  before = before;
  after = after;
}
  where
    upto : start ≤ end
    upto = elim (cases_lt end start) [
      | inl past ↦ absurd (not_both order row (get_or holds end none) (first.before end none past)
          (last.after end none (omega arith) (omega (arith, first.within))))
      | inr fits ↦ fits
    ]

    before : units_for (take start holds) order row ≡ 0
    before = sum_by-zeros (hold_for order row) (take start holds) none (λ k below.
        let early : k < start = omega (arith, length-take start holds) in
        ap (hold_for order row) (get_or-take start holds k none early) ∙ before-none order row (get_or holds k none) (first.before k none early))

    after : units_for (drop end holds) order row ≡ 0
    after = sum_by-zeros (hold_for order row) (drop end holds) none (λ k below.
        ap (hold_for order row) (get_or-drop end holds k none)
        ∙ after-none order row (get_or holds (end + k) none) (last.after (end + k) none (omega arith) (omega (arith, length-drop end holds))))

-- between the places all of their units are
pub all_between : (order row start end : ℕ) (holds : List Hold) → StandBetween order row holds start end
    → units_for (between start end holds) order row ≡ units_for holds order row
all_between order row start end holds stand =
    let f = hold_for order row in
    omega (
      arith,
      stand.before,
      stand.after,
      sum_by-parts f holds (between start end holds) start end stand.upto,
      ap (sum_by f) (as_parts holds start end),
    )

-- holds at the same places, in order where those were
pub still_in_order : (old new : List Hold) → map place_of new ≡ map place_of old → AreInOrder old → AreInOrder new
still_in_order old new same ordered i j g h upto at there =
    let long : length new ≡ length old = sym (length-map new place_of) ∙ (ap length same ∙ length-map old place_of) in
    let first = within_some old i (omega (arith, long, slice_get_within new i g at)) in
    let second = within_some old j (omega (arith, long, slice_get_within new j h there)) in
    let comes = ordered i j first.0 second.0 upto first.1 second.1 in
    let one = placed i g first.0 at first.1 in
    let two = placed j h second.0 there second.1 in
    record {
      order = omega (arith, comes.order, ap (λ (h : Hold). h.order) one, ap (λ (h : Hold). h.order) two);
      row = λ e. omega (
        arith,
        comes.row (omega (arith, e, ap (λ (h : Hold). h.order) one, ap (λ (h : Hold). h.order) two)),
        ap (λ (h : Hold). h.row) one,
        ap (λ (h : Hold). h.row) two,
      );
    }
  where
    placed : (k : ℕ) (g h : Hold) → slice_get new k ≡ Some g → slice_get old k ≡ Some h → place_of g ≡ place_of h
    placed k g h at was =
        let now : slice_get (map place_of new) k ≡ Some (place_of g) = slice_get-map place_of new k ∙ ap (option_map place_of) at in
        let then' : slice_get (map place_of old) k ≡ Some (place_of h) = slice_get-map place_of old k ∙ ap (option_map place_of) was in
        ap (λ (found : Option Hold). option_map_or (λ (h : Hold). h) found none) (sym now ∙ (ap (λ (hs : List Hold). slice_get hs k) same ∙ then'))

-- what may be held of holds may be held of them in another order
pub can_hold-sorted : (book : Book) (holds sorted : List Hold) → IsPermutation holds sorted → CanHold book holds → CanHold book sorted
can_hold-sorted book holds sorted same can = record {
  rows = All-permutation (λ (hold : Hold). hold.row < length book.rows) holds sorted same can.rows;
  free = λ row. if_some_then (slice_get book.rows row) (λ (r : Row). units_at holds row ≤ r.free) (λ (r : Row). units_at sorted row ≤ r.free)
      (λ r free. omega (arith, free, sum_by-IsPermutation (hold_at row) holds sorted same)) (can.free row);
}

-- and what has been held of them so has been held of the holds
pub has_held-sorted : (wave : ℕ) (holds sorted : List Hold) (old new : Book) → IsPermutation holds sorted → HasHeld wave sorted old new
    → HasHeld wave holds old new
has_held-sorted wave holds sorted old new same has = record {
  rows = has.rows ∙ held_same (units_at sorted) (units_at holds) old.rows (λ row. sum_by-IsPermutation (hold_at row) holds sorted same);
  held = λ order row. has.held order row
      ∙ ap (λ n. held_for old wave order row + n) (sum_by-IsPermutation (hold_for order row) holds sorted same);
  others = has.others;
}
