-- The numbers of the orders of a wave.
use Rattle.std.proofs.Common.{◌≡◌, ◌≢◌, ◌∙◌, refl, sym, ap, ℕ, ◌<◌, Bool, true, false, IsTrue, List, length, map, Option, Some, None, IfSome, slice_get}
use Rattle.std.proofs.Common.{arith, bytes_eq, eqb-true, nat_eq}
use Rattle.std.proofs.lemmas.Option.{slice_get-map}
use Rattle.std.proofs.lemmas.Slice.Eq.{bytes_eq-Decides}
use Rattle.std.specs.Option.{option_eq}
use Rattle.wp_model.proofs.Elements.{All-at, at_some, option_map_some}
use Rattle.wp_model.specs.Opening.{Opening, is_known_order}
use Rattle.wp_model.specs.Sound.{IsSoundWave}
use Rattle.wp_model.specs.State.{Wave}
use Rattle.wp_tables.specs.Orders.{name_of}
use Rattle.wp_floor.specs.Floor.{AreNumbersOf, IsAt, order_number, state_at, wave_of}
use Rattle.wp_floor.specs.HeldUnits.{KnowsOrder}
use Rattle.wp_floor.specs.declared.held.Claim.{Claim}
use Rattle.wp_floor.specs.declared.waves.KeptWave.{KeptWave}
use Rattle.wp_model.specs.Book.{Book}
use Rattle.wp_floor.proofs.OrderFaults.{found_within, unknown}
use Rattle.wp_floor.proofs.OrderNames.{name_at, no_order}

-- the order at a place, which has this number
pub record IsNamedAt (opening : Opening) (orders : List (List ℕ)) (place : ℕ) (number : Option ℕ) : Type 0 where
  pub name : List ℕ
  pub there : slice_get orders place ≡ Some name
  pub is : order_number opening name ≡ number

-- the order that has the number at a place
pub named_at : (opening : Opening) (orders : List (List ℕ)) (numbers : List (Option ℕ)) (place : ℕ) (number : Option ℕ)
    → AreNumbersOf opening orders numbers → slice_get numbers place ≡ Some number → IsNamedAt opening orders place number
named_at opening orders numbers place number numbered there =
    option_map_some (slice_get orders place) (order_number opening) number
    (sym (slice_get-map (order_number opening) orders place) ∙ (ap (λ (numbers : List (Option ℕ)). slice_get numbers place) (sym numbered) ∙ there))
    (λ name at is. record { name = name; there = at; is = is })

-- a number is below the count of the orders
pub number_within : (opening : Opening) (name : List ℕ) (number : Option ℕ) (n : ℕ) → order_number opening name ≡ number → n ≡ length opening.orders
    → IfSome number (λ k. k < n)
number_within opening name None n is long = tt
number_within opening name (Some k) n is long = found_within opening name k n is long

-- an order of the opening is found
known_number : (opening : Opening) (name : List ℕ) → IsTrue (is_known_order opening.orders name) → order_number opening name ≢ None
known_number opening name known none =
    let not : is_known_order opening.orders name ≡ false = unknown opening.orders name (no_order opening.orders name none) in
    let both : false ≡ true = sym not ∙ known in
    absurd (cc)

same_name : (names : List (List ℕ)) (a b : List ℕ) (n : ℕ) → slice_get names n ≡ Some a → slice_get names n ≡ Some b → a ≡ b
same_name names a b n at_a at_b = let both : Some a ≡ Some b = sym at_a ∙ at_b in cc both

-- orders of the opening that have the same number are one
one_order : (opening : Opening) (a b : List ℕ) (number : Option ℕ) → IsTrue (is_known_order opening.orders a) → order_number opening a ≡ number
    → order_number opening b ≡ number → a ≡ b
one_order opening a b None known is_a is_b = absurd (known_number opening a known is_a)
one_order opening a b (Some n) known is_a is_b =
    let names = map name_of opening.orders in
    same_name names a b n (name_at names a n is_a) (name_at names b n is_b)

same_number : (a b : Option ℕ) → option_eq nat_eq a b ≡ true → a ≡ b
same_number None None e = refl
same_number None (Some n) e = absurd (cc e)
same_number (Some m) None e = absurd (cc e)
same_number (Some m) (Some n) e = ap Some (eqb-true m n e)

self_number : (a : Option ℕ) → option_eq nat_eq a a ≡ true
self_number None = refl
self_number (Some n) = grind (arith)

-- at a place where the number is that of a claim's order, the wave has this order
pub claims_at : (opening : Opening) (kept : KeptWave) (claim : Claim) (place : ℕ) (number : Option ℕ) (at : IsNamedAt opening kept.orders place number)
    → KnowsOrder opening kept claim → option_eq nat_eq number claim.number ≡ true → bytes_eq at.name claim.order ≡ true
claims_at opening kept claim place number at knows same =
    (bytes_eq-Decides at.name claim.order).1 (one_order opening at.name claim.order claim.number
    (All-at (λ (order : List ℕ). IsTrue (is_known_order opening.orders order)) kept.orders place at.name knows.known at.there)
    (at.is ∙ same_number number claim.number same) (sym knows.number))

is_false : (b : Bool) → (b ≡ true → ⊥) → b ≡ false
is_false true to = absurd (to refl)
is_false false to = refl

-- and another order where it is another number
pub claims_other : (opening : Opening) (kept : KeptWave) (claim : Claim) (place : ℕ) (number : Option ℕ) (at : IsNamedAt opening kept.orders place number)
    → KnowsOrder opening kept claim → option_eq nat_eq number claim.number ≡ false → bytes_eq at.name claim.order ≡ false
claims_other opening kept claim place number at knows other =
    is_false (bytes_eq at.name claim.order) (λ same.
    let one : at.name ≡ claim.order = (bytes_eq-Decides at.name claim.order).0 same in
    let both : number ≡ claim.number = sym at.is ∙ (ap (order_number opening) one ∙ sym knows.number) in
    let e : true ≡ false = sym (self_number number) ∙ (ap (option_eq nat_eq number) both ∙ other) in
    cc e)

-- a wave of a sound state knows the orders that claims name by their numbers
pub knows_order : (opening : Opening) (book : Book) (waves : List Wave) (number : ℕ) (kept : KeptWave) (claim : Claim)
    → IsAt opening book waves number kept → claim.number ≡ order_number opening claim.order → KnowsOrder opening kept claim
knows_order opening book waves number kept claim at is =
    let sound = at_some (slice_get waves number) (IsSoundWave opening (state_at book waves) number) (wave_of kept) at.there (at.sound.waves number) in
    record { numbered = at.keeps.numbered; known = sound.known; most = sound.most; number = is }
