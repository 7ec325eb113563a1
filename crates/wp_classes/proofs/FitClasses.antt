-- When a class fits what a tour walks left of and with an aisle, seen by colourings that no walked piece changes.
use Rattle.std.proofs.Common.{◌≡◌, ◌≢◌, ℕ, suc, ◌%◌, ◌<◌, ◌≤◌, nat_le, nat_lt, Bool, true, false, List, if◌then◌else◌, arith, refl, sym, ap, ◌∙◌, subst, ◌⊎◌}
use Rattle.std.proofs.Common.{⊎_elim}
use Rattle.std.proofs.lemmas.Bool.{le-leb}
use Rattle.std.proofs.lemmas.Bool.Decides.{nat_tests}
use Rattle.wp_model.specs.declared.point.Point.{Point}
use Rattle.wp_model.specs.Warehouse.{end_place}
use Rattle.wp_graph.specs.Copies.{Copies}
use Rattle.wp_graph.specs.Sites.{IsOnSite, Site, last_place}
use Rattle.wp_graph.specs.TourCopies.{AreFew, AreTour, IsUnwalked, IsOnTour}
use Rattle.wp_classes.specs.declared.class.Class.{Class}
use Rattle.wp_classes.specs.declared.class.Class.TheVariants.{UU1, E01, ZE1, EE1, EE2, Z00, Z01}

-- a tour of some picks, as the copies of its pieces, none of which is walked three times
pub record Toured : Type 1 where
  pub site : Site
  pub picks : List Point
  pub copies : Copies
  pub are : AreTour site picks copies
  pub few : AreFew copies
  pub within : (p : Point) → IsOnTour site picks p → IsOnSite site p

-- the colour of the depot, which lies at one of the two ends of its aisle
abbrev pub home : Toured → (ℕ → ℕ → Bool) → Bool
home t colour = colour t.site.depot (end_place (last_place t.site) t.site.end)

-- a colouring that is this one left of an aisle and in it
abbrev pub Agrees : ℕ → (ℕ → ℕ → Bool) → (ℕ → ℕ → Bool) → Type 0
Agrees j colour other = (a s : ℕ) → a ≤ j → other a s ≡ colour a s

-- what is left of an aisle and in it tells the colour of the depot
abbrev pub Tells : Toured → ℕ → (ℕ → ℕ → Bool) → Bool → Type 0
Tells t j colour x = (other : ℕ → ℕ → Bool) → IsUnwalked t.site t.copies other → Agrees j colour other → home t other ≡ x

-- a colouring that no walked piece changes left of an aisle and in it
pub record IsLeft (t : Toured) (j : ℕ) (colour : ℕ → ℕ → Bool) : Type 0 where
  pub deep : (a s : ℕ) → a ≤ j → 0 < t.copies.deep a s → colour a s ≡ colour a (suc s)
  pub behind : (a : ℕ) → a < j → 0 < t.copies.behind a → colour a (last_place t.site) ≡ colour (suc a) (last_place t.site)
  pub front : (a : ℕ) → a < j → 0 < t.copies.front a → colour a 0 ≡ colour (suc a) 0

-- the ends of the aisle are on different sides
pub record Sides (t : Toured) (j : ℕ) (colour : ℕ → ℕ → Bool) : Type 0 where
  pub left : IsLeft t j colour
  pub back : colour j (last_place t.site) ≡ true
  pub front : colour j 0 ≡ false

-- the ends from which one crosses to the next aisle are on different sides
pub record Linked (t : Toured) (j : ℕ) (colour : ℕ → ℕ → Bool) : Type 0 where
  pub left : IsLeft t j colour
  pub back : 0 < t.copies.behind j → colour j (last_place t.site) ≡ true
  pub front : 0 < t.copies.front j → colour j 0 ≡ false

-- all that a tour passes up to an aisle is on one side, and something is
pub record OneSided (t : Toured) (j : ℕ) (colour : ℕ → ℕ → Bool) (x : Bool) : Type 0 where
  pub all : (p : Point) → IsOnTour t.site t.picks p → p.aisle ≤ j → colour p.aisle p.slot ≡ x
  pub tells : Tells t j colour x

-- something is on both sides
pub record TwoSided (t : Toured) (j : ℕ) (colour : ℕ → ℕ → Bool) : Type 0 where
  pub one : Tells t j colour true
  pub other : Tells t j colour false

-- all that a tour passes lies up to an aisle
abbrev pub AllLeft : Toured → ℕ → Type 0
AllLeft t j = (p : Point) → IsOnTour t.site t.picks p → p.aisle ≤ j

-- nothing that a tour passes lies up to an aisle
abbrev pub NoneLeft : Toured → ℕ → Type 0
NoneLeft t j = (p : Point) → IsOnTour t.site t.picks p → p.aisle ≤ j → ⊥

-- the front cross aisle is walked an even number of times from an aisle to the next
abbrev pub IsEvenAt : Toured → ℕ → Type 0
IsEvenAt t j = t.copies.front j % 2 ≡ 0

-- one colour everywhere
abbrev pub everywhere : Bool → ℕ → ℕ → Bool
everywhere x a s = x

-- a class fits the tour after the way through an aisle
abbrev pub Fits : Toured → ℕ → Class → Type 0
Fits t j UU1 = t.copies.front j % 2 ≡ 1
Fits t j E01 = IsEvenAt t j × (c : ℕ → ℕ → Bool) × Sides t j c × OneSided t j c true
Fits t j ZE1 = IsEvenAt t j × (c : ℕ → ℕ → Bool) × Sides t j c × OneSided t j c false
Fits t j EE1 = IsEvenAt t j × Tells t j (everywhere true) true
Fits t j EE2 = IsEvenAt t j × (c : ℕ → ℕ → Bool) × Sides t j c × TwoSided t j c
Fits t j Z00 = IsEvenAt t j × (c : ℕ → ℕ → Bool) × Sides t j c × NoneLeft t j
Fits t j Z01 = AllLeft t j

-- a class fits the tour after the crossing from an aisle to the next
abbrev pub Crossed : Toured → ℕ → Class → Type 0
Crossed t j UU1 = t.copies.front j % 2 ≡ 1
Crossed t j E01 = IsEvenAt t j × (c : ℕ → ℕ → Bool) × Linked t j c × OneSided t j c true
Crossed t j ZE1 = IsEvenAt t j × (c : ℕ → ℕ → Bool) × Linked t j c × OneSided t j c false
Crossed t j EE1 = IsEvenAt t j × Tells t j (everywhere true) true
Crossed t j EE2 = IsEvenAt t j × (c : ℕ → ℕ → Bool) × Linked t j c × TwoSided t j c
Crossed t j Z00 = IsEvenAt t j × (c : ℕ → ℕ → Bool) × Linked t j c × NoneLeft t j
Crossed t j Z01 = AllLeft t j

-- a colouring up to an aisle, and beyond it one by the place
abbrev pub beside : ℕ → (ℕ → ℕ → Bool) → (ℕ → Bool) → ℕ → ℕ → Bool
beside j colour right a s = if nat_le a j then colour a s else right s

-- up to the aisle it is that colouring
pub beside_left : (j : ℕ) (colour : ℕ → ℕ → Bool) (right : ℕ → Bool) (a s : ℕ) → a ≤ j → beside j colour right a s ≡ colour a s
beside_left j colour right a s within = let yes = le-leb a j within in rw yes refl

-- beyond the aisle it is the colour by the place
pub beside_right : (j : ℕ) (colour : ℕ → ℕ → Bool) (right : ℕ → Bool) (a s : ℕ) → j < a → beside j colour right a s ≡ right s
beside_right j colour right a s beyond = let no' : nat_le a j ≡ false = grind (arith, nat_tests) in rw no' refl

-- an aisle lies up to another or beyond it
pub split_cases : (a j : ℕ) → (a ≤ j) ⊎ (j < a)
split_cases a j = grind arith

-- an aisle lies before another, is it, or lies beyond it
pub split_three : (a j : ℕ) → (a < j) ⊎ (a ≡ j) ⊎ (j < a)
split_three a j = grind arith

-- one colour beyond an aisle, where nothing crosses from the other side
pub kept_beside : (t : Toured) (j : ℕ) (c : ℕ → ℕ → Bool) (x : Bool) → IsLeft t j c → (0 < t.copies.behind j → c j (last_place t.site) ≡ x)
    → (0 < t.copies.front j → c j 0 ≡ x) → IsUnwalked t.site t.copies (beside j c (λ s. x))
kept_beside t j c x left back front = record {
  deep = λ a s some. ⊎_elim
      (λ low. beside_left j c (λ s. x) a s low ∙ left.deep a s low some ∙ sym (beside_left j c (λ s. x) a (suc s) low))
      (λ high. beside_right j c (λ s. x) a s high ∙ sym (beside_right j c (λ s. x) a (suc s) high))
      (split_cases a j);
  behind = λ a some. ⊎_elim
      (λ low. beside_left j c (λ s. x) a (last_place t.site) (omega (arith, low)) ∙ left.behind a low some
      ∙ sym (beside_left j c (λ s. x) (suc a) (last_place t.site) (omega (arith, low))))
      (λ rest. ⊎_elim
      (λ e. beside_left j c (λ s. x) a (last_place t.site) (omega (arith, e)) ∙ ap (λ b. c b (last_place t.site)) e
      ∙ back (subst (λ b. 0 < t.copies.behind b) e some) ∙ sym (beside_right j c (λ s. x) (suc a) (last_place t.site) (omega (arith, e))))
      (λ high. beside_right j c (λ s. x) a (last_place t.site) high ∙ sym (beside_right j c (λ s. x) (suc a) (last_place t.site) (omega (arith, high))))
      rest)
      (split_three a j);
  front = λ a some. ⊎_elim
      (λ low. beside_left j c (λ s. x) a 0 (omega (arith, low)) ∙ left.front a low some ∙ sym (beside_left j c (λ s. x) (suc a) 0 (omega (arith, low))))
      (λ rest. ⊎_elim
      (λ e. beside_left j c (λ s. x) a 0 (omega (arith, e)) ∙ ap (λ b. c b 0) e ∙ front (subst (λ b. 0 < t.copies.front b) e some)
      ∙ sym (beside_right j c (λ s. x) (suc a) 0 (omega (arith, e))))
      (λ high. beside_right j c (λ s. x) a 0 high ∙ sym (beside_right j c (λ s. x) (suc a) 0 (omega (arith, high))))
      rest)
      (split_three a j);
}

-- in the next aisle the colour changes at a piece that isn't walked
abbrev pub split_at : ℕ → ℕ → Bool
split_at z s = nat_lt z s

split_same : (z s : ℕ) → s ≢ z → split_at z s ≡ split_at z (suc s)
split_same z s other = grind (arith, nat_tests)

-- behind that piece the colour is true
pub split_high : (z s : ℕ) → z < s → split_at z s ≡ true
split_high z s high = grind (arith, nat_tests)

-- before that piece the colour is false
pub split_low : (z s : ℕ) → s ≤ z → split_at z s ≡ false
split_low z s low = grind (arith, nat_tests)

-- no walked piece up to the next aisle changes such a colouring
pub next_left : (t : Toured) (j z : ℕ) (c : ℕ → ℕ → Bool) → Linked t j c → z < last_place t.site → t.copies.deep (suc j) z ≡ 0
    → IsLeft t (suc j) (beside j c (split_at z))
next_left t j z c linked within none = record {
  deep = λ a s upto some. ⊎_elim
      (λ low. beside_left j c (split_at z) a s low ∙ linked.left.deep a s low some ∙ sym (beside_left j c (split_at z) a (suc s) low))
      (λ high.
      let here : a ≡ suc j = omega (arith, high, upto) in
      let other : s ≢ z = λ e. let at = ap (λ b. t.copies.deep b s) here ∙ ap (t.copies.deep (suc j)) e in omega (arith, at, some, none) in
      beside_right j c (split_at z) a s high ∙ split_same z s other ∙ sym (beside_right j c (split_at z) a (suc s) high))
      (split_cases a j);
  behind = λ a upto some. ⊎_elim
      (λ low. beside_left j c (split_at z) a (last_place t.site) (omega (arith, low)) ∙ linked.left.behind a low some
      ∙ sym (beside_left j c (split_at z) (suc a) (last_place t.site) (omega (arith, low))))
      (λ rest. ⊎_elim
      (λ e. beside_left j c (split_at z) a (last_place t.site) (omega (arith, e)) ∙ ap (λ b. c b (last_place t.site)) e
      ∙ linked.back (subst (λ b. 0 < t.copies.behind b) e some)
      ∙ sym (beside_right j c (split_at z) (suc a) (last_place t.site) (omega (arith, e)) ∙ split_high z (last_place t.site) within))
      (λ high. absurd (omega (arith, high, upto)))
      rest)
      (split_three a j);
  front = λ a upto some. ⊎_elim
      (λ low. beside_left j c (split_at z) a 0 (omega (arith, low)) ∙ linked.left.front a low some
      ∙ sym (beside_left j c (split_at z) (suc a) 0 (omega (arith, low))))
      (λ rest. ⊎_elim
      (λ e. beside_left j c (split_at z) a 0 (omega (arith, e)) ∙ ap (λ b. c b 0) e ∙ linked.front (subst (λ b. 0 < t.copies.front b) e some)
      ∙ sym (beside_right j c (split_at z) (suc a) 0 (omega (arith, e)) ∙ split_low z 0 (omega arith)))
      (λ high. absurd (omega (arith, high, upto)))
      rest)
      (split_three a j);
}

-- it has the ends of the next aisle on different sides
pub next_sides : (t : Toured) (j z : ℕ) (c : ℕ → ℕ → Bool) → Linked t j c → z < last_place t.site → t.copies.deep (suc j) z ≡ 0
    → Sides t (suc j) (beside j c (split_at z))
next_sides t j z c linked within none = record {
  left = next_left t j z c linked within none;
  back = beside_right j c (split_at z) (suc j) (last_place t.site) (omega arith) ∙ split_high z (last_place t.site) within;
  front = beside_right j c (split_at z) (suc j) 0 (omega arith) ∙ split_low z 0 (omega arith);
}

-- what told before tells still
pub next_tells : (t : Toured) (j : ℕ) (c : ℕ → ℕ → Bool) (right : ℕ → Bool) (x : Bool) → Tells t j c x → Tells t (suc j) (beside j c right) x
next_tells t j c right x tells = λ other kept agrees. tells other kept (λ a s low. agrees a s (omega (arith, low)) ∙ beside_left j c right a s low)

-- one colour everywhere that told before tells still, one aisle further
pub everywhere_tells : (t : Toured) (j : ℕ) (x : Bool) → Tells t j (everywhere x) x → Tells t (suc j) (everywhere x) x
everywhere_tells t j x tells = λ other kept agrees. tells other kept (λ a s low. agrees a s (omega (arith, low)))

-- true is not false
pub true_false : true ≡ false → ⊥
true_false e = cc
