-- What is added so far and what is left to add are the whole.
use Rattle.std.proofs.Common.{◌≡◌, ℕ, suc, ◌+◌, ◌-◌, ◌<◌, ◌≤◌, ◌==◌, Bool, true, false, List, [], ◌∷◌, ◌++◌, length, reverse, filter, get_or, take, drop, arith}
use Rattle.std.proofs.Common.{refl, sym, ap, ◌∙◌, inl, inr}
use Rattle.std.specs.List.{flat_map, range_with_len}
use Rattle.std.proofs.lemmas.Bool.{cases_Bool, cond-true, cond-false, eqb-true, false≢true, or_cases}
use Rattle.std.proofs.lemmas.List.{append-nil, append_assoc, at_drop_all, at_drop_more, length-append, reverse-append, take_all}
use Rattle.std.proofs.lemmas.List.Elements.{filter-append}
use Rattle.std.proofs.lemmas.List.FromFn.{length-range_with_len}
use Rattle.wp_model.specs.declared.point.Point.{Point}
use Rattle.wp_model.specs.Warehouse.{Layout, back_end}
use Rattle.wp_graph.specs.Members.{Among}
use Rattle.wp_graph.specs.PickSets.{HaveSlotIn}
use Rattle.wp_graph.proofs.Members.{Contains-from_among}
use Rattle.wp_graph.proofs.Places.{range_parts}
use Rattle.wp_classes.specs.Paths.{ahead, at, behind}
use Rattle.wp_rules.specs.Rules.{around, around_gaps, far, far_part, from_far, from_home, has_pick, home, home_part, in_turn, last_of, return_stops, stop}
use Rattle.wp_rules.specs.Rules.{through}
use Rattle.wp_rules.specs.Straight.{leftward, past, past_length, rightward, straight, straight_length}

-- some of what is left is added
pub more_added : {X : Type 0} (added more rest left whole : List X) → left ≡ more ++ rest → added ++ left ≡ whole → (added ++ more) ++ rest ≡ whole
more_added {X} added more rest left whole is so_far =
    append_assoc added more rest ∙ ap (λ (xs : List X). added ++ xs) (sym is) ∙ so_far

-- nothing is left
pub all_added : {X : Type 0} (added left whole : List X) → left ≡ [] → added ++ left ≡ whole → added ≡ whole
all_added {X} added left whole is so_far = sym (append-nil added) ∙ ap (λ (xs : List X). added ++ xs) (sym is) ∙ so_far

-- what is left of a walk by numbers
ahead_step : (aisle a b : ℕ) → a < b → ahead aisle a (b - a) ≡ at aisle (a + 1) ∷ ahead aisle (a + 1) (b - (a + 1))
ahead_step aisle a b before =
    let n : b - a ≡ suc (b - (a + 1)) = omega arith in
    let next : suc a ≡ a + 1 = omega arith in
    ap (λ k. ahead aisle a k) n ∙ ap (λ k. at aisle k ∷ ahead aisle k (b - (a + 1))) next

behind_step : (aisle a b low : ℕ) → a < b → behind aisle low (b - a) ≡ at aisle (low + (b - 1 - a)) ∷ behind aisle low (b - (a + 1))
behind_step aisle a b low before =
    let n : b - a ≡ suc (b - (a + 1)) = omega arith in
    let m : b - (a + 1) ≡ b - 1 - a = omega arith in
    ap (λ k. behind aisle low k) n ∙ ap (λ k. at aisle (low + k) ∷ behind aisle low (b - (a + 1))) m

rightward_step : (place a b : ℕ) → a < b → rightward a place (b - a) ≡ at (a + 1) place ∷ rightward (a + 1) place (b - (a + 1))
rightward_step place a b before =
    let n : b - a ≡ suc (b - (a + 1)) = omega arith in
    let next : suc a ≡ a + 1 = omega arith in
    ap (λ k. rightward a place k) n ∙ ap (λ k. at k place ∷ rightward k place (b - (a + 1))) next

leftward_step : (place a b low : ℕ) → a < b → leftward low place (b - a) ≡ at (low + (b - 1 - a)) place ∷ leftward low place (b - (a + 1))
leftward_step place a b low before =
    let n : b - a ≡ suc (b - (a + 1)) = omega arith in
    let m : b - (a + 1) ≡ b - 1 - a = omega arith in
    ap (λ k. leftward low place k) n ∙ ap (λ k. at (low + k) place ∷ leftward low place (b - (a + 1))) m

pub one_ahead : (aisle a b : ℕ) (added whole : List Point) → a < b → added ++ ahead aisle a (b - a) ≡ whole
    → (added ++ at aisle (a + 1) ∷ []) ++ ahead aisle (a + 1) (b - (a + 1)) ≡ whole
one_ahead aisle a b added whole before so_far =
    more_added added (at aisle (a + 1) ∷ []) (ahead aisle (a + 1) (b - (a + 1))) (ahead aisle a (b - a)) whole (ahead_step aisle a b before) so_far

pub one_behind : (aisle a b low : ℕ) (added whole : List Point) → a < b → added ++ behind aisle low (b - a) ≡ whole
    → (added ++ at aisle (low + (b - 1 - a)) ∷ []) ++ behind aisle low (b - (a + 1)) ≡ whole
one_behind aisle a b low added whole before so_far =
    more_added added (at aisle (low + (b - 1 - a)) ∷ []) (behind aisle low (b - (a + 1))) (behind aisle low (b - a)) whole
    (behind_step aisle a b low before) so_far

pub one_right : (place a b : ℕ) (added whole : List Point) → a < b → added ++ rightward a place (b - a) ≡ whole
    → (added ++ at (a + 1) place ∷ []) ++ rightward (a + 1) place (b - (a + 1)) ≡ whole
one_right place a b added whole before so_far =
    more_added added (at (a + 1) place ∷ []) (rightward (a + 1) place (b - (a + 1))) (rightward a place (b - a)) whole (rightward_step place a b before) so_far

pub one_left : (place a b low : ℕ) (added whole : List Point) → a < b → added ++ leftward low place (b - a) ≡ whole
    → (added ++ at (low + (b - 1 - a)) place ∷ []) ++ leftward low place (b - (a + 1)) ≡ whole
one_left place a b low added whole before so_far =
    more_added added (at (low + (b - 1 - a)) place ∷ []) (leftward low place (b - (a + 1))) (leftward low place (b - a)) whole
    (leftward_step place a b low before) so_far

-- nothing is left where the numbers meet
pub none_ahead : (aisle a b : ℕ) (added whole : List Point) → b ≤ a → added ++ ahead aisle a (b - a) ≡ whole → added ≡ whole
none_ahead aisle a b added whole after so_far =
    let n : b - a ≡ 0 = omega arith in all_added added (ahead aisle a (b - a)) whole (ap (λ k. ahead aisle a k) n) so_far

pub none_behind : (aisle a b low : ℕ) (added whole : List Point) → b ≤ a → added ++ behind aisle low (b - a) ≡ whole → added ≡ whole
none_behind aisle a b low added whole after so_far =
    let n : b - a ≡ 0 = omega arith in all_added added (behind aisle low (b - a)) whole (ap (λ k. behind aisle low k) n) so_far

pub none_right : (place a b : ℕ) (added whole : List Point) → b ≤ a → added ++ rightward a place (b - a) ≡ whole → added ≡ whole
none_right place a b added whole after so_far =
    let n : b - a ≡ 0 = omega arith in all_added added (rightward a place (b - a)) whole (ap (λ k. rightward a place k) n) so_far

pub none_left : (place a b low : ℕ) (added whole : List Point) → b ≤ a → added ++ leftward low place (b - a) ≡ whole → added ≡ whole
none_left place a b low added whole after so_far =
    let n : b - a ≡ 0 = omega arith in all_added added (leftward low place (b - a)) whole (ap (λ k. leftward low place k) n) so_far

-- the aisles of a list, one after the other
pub one_served : (f : ℕ → List Point) (aisles : List ℕ) (i d : ℕ) (added whole : List Point) → i < length aisles
    → added ++ flat_map f (drop i aisles) ≡ whole → (added ++ f (get_or aisles i d)) ++ flat_map f (drop (i + 1) aisles) ≡ whole
one_served f aisles i d added whole within so_far =
    more_added added (f (get_or aisles i d)) (flat_map f (drop (i + 1) aisles)) (flat_map f (drop i aisles)) whole
    (at_drop_more (flat_map f) aisles i d within) so_far

pub all_served : (f : ℕ → List Point) (aisles : List ℕ) (i : ℕ) (added whole : List Point) → length aisles ≤ i
    → added ++ flat_map f (drop i aisles) ≡ whole → added ≡ whole
all_served f aisles i added whole after so_far =
    all_added added (flat_map f (drop i aisles)) whole (at_drop_all (flat_map f) aisles i after) so_far

-- the aisles from one to before another, from left to right
pub one_from_left : (f : ℕ → List Point) (a b : ℕ) (added whole : List Point) → a < b → added ++ flat_map f (range_with_len a (b - a)) ≡ whole
    → (added ++ f a) ++ flat_map f (range_with_len (a + 1) (b - (a + 1))) ≡ whole
one_from_left f a b added whole before so_far =
    let n : b - a ≡ suc (b - (a + 1)) = omega arith in
    more_added added (f a) (flat_map f (range_with_len (a + 1) (b - (a + 1)))) (flat_map f (range_with_len a (b - a))) whole
    (ap (λ k. flat_map f (range_with_len a k)) n) so_far

pub none_from_left : (f : ℕ → List Point) (a b : ℕ) (added whole : List Point) → b ≤ a → added ++ flat_map f (range_with_len a (b - a)) ≡ whole → added ≡ whole
none_from_left f a b added whole after so_far =
    let n : b - a ≡ 0 = omega arith in
    all_added added (flat_map f (range_with_len a (b - a))) whole (ap (λ k. flat_map f (range_with_len a k)) n) so_far

-- and from right to left
range_last : (a n : ℕ) → reverse (range_with_len a (n + 1)) ≡ (a + n) ∷ reverse (range_with_len a n)
range_last a n =
    ap (λ (xs : List ℕ). reverse xs) (range_parts a n 1) ∙ reverse-append (range_with_len a n) (range_with_len (a + n) 1)

pub one_from_right : (f : ℕ → List Point) (first last back : ℕ) (added whole : List Point) → first < back → back < last
    → added ++ flat_map f (reverse (range_with_len (first + 1) (last - back))) ≡ whole
    → (added ++ f (first + last - back)) ++ flat_map f (reverse (range_with_len (first + 1) (last - (back + 1)))) ≡ whole
one_from_right f first last back added whole low before so_far =
    let n : last - back ≡ last - (back + 1) + 1 = omega arith in
    let aisle : first + 1 + (last - (back + 1)) ≡ first + last - back = omega arith in
    more_added added (f (first + last - back)) (flat_map f (reverse (range_with_len (first + 1) (last - (back + 1)))))
    (flat_map f (reverse (range_with_len (first + 1) (last - back)))) whole
    (ap (λ k. flat_map f (reverse (range_with_len (first + 1) k))) n
    ∙ ap (λ (xs : List ℕ). flat_map f xs) (range_last (first + 1) (last - (back + 1)))
    ∙ ap (λ k. f k ++ flat_map f (reverse (range_with_len (first + 1) (last - (back + 1))))) aisle) so_far

pub none_from_right : (f : ℕ → List Point) (first last back : ℕ) (added whole : List Point) → last ≤ back
    → added ++ flat_map f (reverse (range_with_len (first + 1) (last - back))) ≡ whole → added ≡ whole
none_from_right f first last back added whole after so_far =
    let n : last - back ≡ 0 = omega arith in
    all_added added (flat_map f (reverse (range_with_len (first + 1) (last - back)))) whole
    (ap (λ k. flat_map f (reverse (range_with_len (first + 1) k))) n) so_far

-- the aisles with picks so far
pub one_more_picked : (test : ℕ → Bool) (n : ℕ) → filter test (range_with_len 1 (n + 1)) ≡ filter test (range_with_len 1 n) ++ filter test ((n + 1) ∷ [])
one_more_picked test n =
    let next : 1 + n ≡ n + 1 = omega arith in
    ap (λ (xs : List ℕ). filter test xs) (range_parts 1 n 1) ∙ filter-append test (range_with_len 1 n) (range_with_len (1 + n) 1)
    ∙ ap (λ k. filter test (range_with_len 1 n) ++ filter test (k ∷ [])) next

-- where a point lies in an aisle
some_pick : (points : List Point) (aisle : ℕ) → has_pick points aisle ≡ true → (p : Point) × Among points p × (p.aisle ≡ aisle)
some_pick [] aisle h = absurd (false≢true h)
some_pick (q ∷ points) aisle h = elim (or_cases (q.aisle == aisle) (has_pick points aisle) h) [
  | inl here ↦ (q, inl refl, eqb-true q.aisle aisle here)
  | inr there ↦ let rest = some_pick points aisle there in (rest.0, inr rest.1, rest.2)
]

pub no_pick : (points : List Point) (aisle : ℕ) → (HaveSlotIn points aisle → ⊥) → has_pick points aisle ≡ false
no_pick points aisle none = elim (cases_Bool (has_pick points aisle)) [
  | inl passed ↦ let some = some_pick points aisle passed in absurd (none (some.0, Contains-from_among points some.0 some.1, some.2))
  | inr failed ↦ failed
]

pub none_picked : (points : List Point) (aisle : ℕ) (picked : List ℕ) → (HaveSlotIn points aisle → ⊥)
    → picked ≡ picked ++ filter (has_pick points) (aisle ∷ [])
none_picked points aisle picked none =
    sym (ap (λ (xs : List ℕ). picked ++ xs) (cond-false (has_pick points aisle) (aisle ∷ []) [] (no_pick points aisle none)) ∙ append-nil picked)

filter-le : (test : ℕ → Bool) (xs : List ℕ) → length (filter test xs) ≤ length xs
filter-le test [] = omega arith
filter-le test (x ∷ xs) = elim (cases_Bool (test x)) [
  | inl passed ↦ omega (arith, ap length (cond-true (test x) (x ∷ filter test xs) (filter test xs) passed), filter-le test xs)
  | inr failed ↦ omega (arith, ap length (cond-false (test x) (x ∷ filter test xs) (filter test xs) failed), filter-le test xs)
]

pub few_picked : (test : ℕ → Bool) (n : ℕ) → length (filter test (range_with_len 1 n)) ≤ n
few_picked test n = omega (arith, filter-le test (range_with_len 1 n), length-range_with_len 1 n)

-- a part of an aisle has at most three stops
home_few : (layout : Layout) (aisle depth : ℕ) → length (from_home layout aisle depth) ≤ 3
home_few layout aisle depth = elim (cases_Bool (depth == 0)) [
  | inl passed ↦ omega (arith, ap length (cond-true (depth == 0) [] (home layout aisle ∷ stop layout aisle depth ∷ home layout aisle ∷ []) passed))
  | inr failed ↦ omega (arith, ap length (cond-false (depth == 0) [] (home layout aisle ∷ stop layout aisle depth ∷ home layout aisle ∷ []) failed))
]

pub longer_by_home : (stops : List Point) (layout : Layout) (aisle depth : ℕ) → length (stops ++ from_home layout aisle depth) ≤ length stops + 3
longer_by_home stops layout aisle depth = omega (arith, length-append stops (from_home layout aisle depth), home_few layout aisle depth)

far_few : (layout : Layout) (aisle depth : ℕ) → length (from_far layout aisle depth) ≤ 3
far_few layout aisle depth = elim (cases_Bool (depth == back_end layout)) [
  | inl passed ↦ omega (
    arith,
    ap length (cond-true (depth == back_end layout) [] (far layout aisle ∷ stop layout aisle depth ∷ far layout aisle ∷ []) passed),
  )
  | inr failed ↦ omega (
    arith,
    ap length (cond-false (depth == back_end layout) [] (far layout aisle ∷ stop layout aisle depth ∷ far layout aisle ∷ []) failed),
  )
]

pub longer_by_far : (stops : List Point) (layout : Layout) (aisle depth : ℕ) → length (stops ++ from_far layout aisle depth) ≤ length stops + 3
longer_by_far stops layout aisle depth = omega (arith, length-append stops (from_far layout aisle depth), far_few layout aisle depth)

-- the definitions, step by step
pub in_turn_is : (layout : Layout) (picks : List Point) (aisles : List ℕ) → in_turn layout picks aisles ≡ flat_map (return_stops layout picks) aisles
unfolding in_turn
in_turn_is layout picks aisles = refl

pub around_is : (layout : Layout) (picks : List Point) (first last : ℕ) (stops : List Point) →
    (((stops ++ home layout first ∷ far layout first ∷ []) ++ flat_map (far_part layout picks) (range_with_len (first + 1) (last - first - 1)))
    ++ far layout last ∷ home layout last ∷ []) ++ flat_map (home_part layout picks) (reverse (range_with_len (first + 1) (last - first - 1)))
    ≡ stops ++ around layout picks first last
unfolding around
around_is layout picks first last stops =
    let far_parts = flat_map (far_part layout picks) (range_with_len (first + 1) (last - first - 1)) in
    let home_parts = flat_map (home_part layout picks) (reverse (range_with_len (first + 1) (last - first - 1))) in
    let up : List Point = home layout first ∷ far layout first ∷ [] in
    let down : List Point = far layout last ∷ home layout last ∷ [] in
    append_assoc ((stops ++ up) ++ far_parts) down home_parts
    ∙ ap (λ (xs : List Point). xs ++ (down ++ home_parts)) (append_assoc stops up far_parts)
    ∙ append_assoc stops (up ++ far_parts) (down ++ home_parts)

-- the straight ways past stops
pub past_step : (from next : Point) (stops : List Point) → past from (next ∷ stops) ≡ straight from next ++ past next stops
unfolding past
past_step from next stops = refl

pub past_none : (from : Point) → past from [] ≡ []
unfolding past
past_none from = refl

pub length_step : (layout : Layout) (from next : Point) (stops : List Point)
    → past_length layout from (next ∷ stops) ≡ straight_length layout from next + past_length layout next stops
unfolding past_length
length_step layout from next stops = refl

pub length_none : (layout : Layout) (from : Point) → past_length layout from [] ≡ 0
unfolding past_length
length_none layout from = refl

pub through_none : (layout : Layout) (picks stops : List Point) → stops ≡ stops ++ through layout picks false []
unfolding through
through_none layout picks stops = sym (append-nil stops)

pub through_one : (layout : Layout) (picks : List Point) (aisle : ℕ) → through layout picks false (aisle ∷ []) ≡ return_stops layout picks aisle
unfolding through
through_one layout picks aisle = refl

pub through_two : (layout : Layout) (picks stops : List Point) (aisle next : ℕ) (aisles : List ℕ) →
    ((stops ++ home layout aisle ∷ far layout aisle ∷ []) ++ far layout next ∷ home layout next ∷ []) ++ through layout picks false aisles
    ≡ stops ++ through layout picks false (aisle ∷ next ∷ aisles)
unfolding through
through_two layout picks stops aisle next aisles =
    let up : List Point = home layout aisle ∷ far layout aisle ∷ [] in
    let down : List Point = far layout next ∷ home layout next ∷ [] in
    append_assoc (stops ++ up) down (through layout picks false aisles) ∙ append_assoc stops up (down ++ through layout picks false aisles)

pub around_none : (layout : Layout) (picks stops : List Point) → stops ≡ stops ++ around_gaps layout picks []
unfolding around_gaps
around_none layout picks stops = sym (append-nil stops)

pub around_one : (layout : Layout) (picks : List Point) (aisle : ℕ) → around_gaps layout picks (aisle ∷ []) ≡ return_stops layout picks aisle
unfolding around_gaps
around_one layout picks aisle = refl

pub around_more : (layout : Layout) (picks : List Point) (first next : ℕ) (aisles : List ℕ)
    → around_gaps layout picks (first ∷ next ∷ aisles) ≡ around layout picks first (last_of next aisles)
unfolding around_gaps
around_more layout picks first next aisles = refl

-- lists of no, of one and of more elements
pub list_none : (xs : List ℕ) → length xs < 1 → xs ≡ []
list_none [] few = refl
list_none (x ∷ xs) few = absurd (omega (arith, few))

pub list_one : (xs : List ℕ) → 1 ≤ length xs → length xs < 2 → xs ≡ get_or xs 0 0 ∷ []
list_one [] some few = absurd (omega (arith, some))
list_one (x ∷ []) some few = refl
list_one (x ∷ y ∷ xs) some few = absurd (omega (arith, few))

-- what a pattern of two elements and the rest takes for the rest
abbrev pub after_two : List ℕ → List ℕ
after_two xs = take (length xs - 2) (drop 2 xs)

pub list_two : (xs : List ℕ) → 2 ≤ length xs → xs ≡ get_or xs 0 0 ∷ get_or xs 1 0 ∷ after_two xs
list_two [] some = absurd (omega (arith, some))
list_two (x ∷ []) some = absurd (omega (arith, some))
list_two (x ∷ y ∷ xs) some = ap (λ (ys : List ℕ). x ∷ y ∷ ys) (sym (take_all (length (x ∷ y ∷ xs) - 2) xs (omega arith)))
