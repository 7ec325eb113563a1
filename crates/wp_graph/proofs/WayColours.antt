-- Colours that the pieces of an aisle keep tell those that the pieces of a way in their place keep.
use Rattle.std.proofs.Common.{◌≡◌, ◌≢◌, ℕ, zero, suc, ◌+◌, ◌-◌, ◌<◌, ◌≤◌, nat_le, Bool, false, List, if◌then◌else◌, arith, refl, sym, ap, ◌∙◌, ⊎_elim}
use Rattle.std.proofs.lemmas.Bool.{cases_eq, cases_lt, le-leb}
use Rattle.std.proofs.lemmas.Bool.Decides.{nat_tests}
use Rattle.wp_model.specs.declared.point.Point.{Point}
use Rattle.wp_graph.specs.Copies.{Copies}
use Rattle.wp_graph.specs.Required.{site_places}
use Rattle.wp_graph.specs.Sites.{Site, last_place, site_distance}
use Rattle.wp_graph.specs.Members.{Among}
use Rattle.wp_graph.specs.TourCopies.{IsUnwalked}
use Rattle.wp_graph.specs.Cuts.{Turning}
use Rattle.wp_graph.proofs.EachAisle.{places_within}
use Rattle.wp_graph.proofs.AislePieces.{IsTold, deep_here, in_aisle}
use Rattle.wp_graph.proofs.WayPieces.{passing, passing_in, passing_upto, turning, turning_high, turning_low, turning_some}

-- a colour that each step keeps
steady : (f : ℕ → Bool) (m k : ℕ) → ((s : ℕ) → m ≤ s → s < m + k → f s ≡ f (suc s)) → f m ≡ f (m + k)
steady f m zero keeps = ap f (omega arith)
steady f m (suc k) keeps =
    let next : suc (m + k) ≡ m + suc k = omega arith in
    steady f m k (λ s low high. keeps s low (omega arith)) ∙ keeps (m + k) (omega arith) (omega arith) ∙ ap f next

steady_to : (f : ℕ → Bool) (m n : ℕ) → m ≤ n → ((s : ℕ) → m ≤ s → s < n → f s ≡ f (suc s)) → f m ≡ f n
steady_to f m n low keeps =
    let all : m + (n - m) ≡ n = omega arith in
    steady f m (n - m) (λ s from upto. keeps s from (omega (arith, upto, all))) ∙ ap f all

-- the same colours, and beyond the back end its colour
abbrev whole_column : ℕ → (ℕ → Bool) → ℕ → Bool
whole_column last f s = if nat_le s last then f s else f last

whole_upto : (last : ℕ) (f : ℕ → Bool) (s : ℕ) → s ≤ last → whole_column last f s ≡ f s
whole_upto last f s low = let yes = le-leb s last low in rw yes refl

whole_beyond : (last : ℕ) (f : ℕ → Bool) (s : ℕ) → last ≤ s → whole_column last f s ≡ f last
whole_beyond last f s high = ⊎_elim
    (λ e. whole_upto last f s (omega (arith, e)) ∙ ap f e)
    (λ other. let past : nat_le s last ≡ false = le_false s last (omega (arith, other, high)) in rw past refl)
    (cases_eq s last)
  where
    le_false : (m n : ℕ) → n < m → nat_le m n ≡ false
    le_false m n above = grind (arith, nat_tests)

-- where each piece is walked, each can be walked once, or each twice
pub passing_told : (site : Site) (picks : List Point) (copies : Copies) (aisle times : ℕ) → 0 < times
    → ((s : ℕ) → s < last_place site → 0 < copies.deep aisle s) →
    (colour : ℕ → ℕ → Bool) → IsUnwalked site (in_aisle copies aisle (passing (last_place site) times)) colour
    → IsTold site picks copies aisle (passing (last_place site) times) colour
passing_told site picks copies aisle times some all colour kept = record {
  column = whole_column (last_place site) (colour aisle);
  is = record {
    front = whole_upto (last_place site) (colour aisle) 0 (omega arith);
    back = whole_upto (last_place site) (colour aisle) (last_place site) (omega arith);
    kept = λ s walked. ⊎_elim
        (λ low. whole_upto (last_place site) (colour aisle) s (omega (arith, low)) ∙ step s low
        ∙ sym (whole_upto (last_place site) (colour aisle) (suc s) (omega (arith, low))))
        (λ high. whole_beyond (last_place site) (colour aisle) s high ∙ sym (whole_beyond (last_place site) (colour aisle) (suc s) (omega (arith, high))))
        (cases_lt s (last_place site));
  };
  reached = λ x tells r h. sym (whole_upto (last_place site) (colour aisle) r (places_within site picks aisle r h)) ∙ tells r h;
  used = λ x tells walked s some'. let low = passing_upto (last_place site) times s some' in
      sym (whole_upto (last_place site) (colour aisle) s (omega (arith, low))) ∙ walked s (all s low);
}
  where
    step : (s : ℕ) → s < last_place site → colour aisle s ≡ colour aisle (suc s)
    step s low = kept.deep aisle s (let at = deep_here copies aisle (passing (last_place site) times) s ∙ passing_in (last_place site) times s low in
        omega (arith, at, some))

-- one colour up to a gap, one behind another
abbrev cut_column : ℕ → ℕ → Bool → Bool → ℕ → Bool
cut_column z y front back s = if nat_le s z then front else if nat_le s y then false else back

cut_low : (z y : ℕ) (front back : Bool) (s : ℕ) → s ≤ z → cut_column z y front back s ≡ front
cut_low z y front back s low = let yes = le-leb s z low in rw yes refl

cut_high : (z y : ℕ) (front back : Bool) (s : ℕ) → z ≤ y → y < s → cut_column z y front back s ≡ back
cut_high z y front back s order high = let past : nat_le s z ≡ false = le_false s z (omega arith) in let far : nat_le s y ≡ false = le_false s y high in
    rw (past, far) refl
  where
    le_false : (m n : ℕ) → n < m → nat_le m n ≡ false
    le_false m n above = grind (arith, nat_tests)

cut_same : (z y : ℕ) (front back : Bool) (s : ℕ) → s ≢ z → s ≢ y → cut_column z y front back s ≡ cut_column z y front back (suc s)
cut_same z y front back s low high = let first : nat_le s z ≡ nat_le (suc s) z = le_same s z low in let next : nat_le s y ≡ nat_le (suc s) y =
    le_same s y high in rw (first, next) refl
  where
    le_same : (m n : ℕ) → m ≢ n → nat_le m n ≡ nat_le (suc m) n
    le_same m n other = grind (arith, nat_tests)

-- an aisle with two gaps can be walked by a way that turns before them and behind them
pub turning_told : (site : Site) (picks : List Point) (copies : Copies) (aisle z y t : ℕ)
    (turn : Turning (site_distance site) (last_place site) (site_places site picks aisle) z y t) → z ≤ y → y < last_place site → copies.deep aisle z ≡ 0
    → copies.deep aisle y ≡ 0 →
    (colour : ℕ → ℕ → Bool) → IsUnwalked site (in_aisle copies aisle (turning (last_place site) turn.near turn.far)) colour
    → IsTold site picks copies aisle (turning (last_place site) turn.near turn.far) colour
turning_told site picks copies aisle z y t turn order within low high colour kept = record {
  column = column;
  is = record {
    front = cut_low z y (colour aisle 0) (colour aisle last) 0 (omega arith);
    back = cut_high z y (colour aisle 0) (colour aisle last) last order within;
    kept = λ s walked. cut_same z y (colour aisle 0) (colour aisle last) s
        (λ e. let at = ap (copies.deep aisle) e in omega (arith, at, walked, low))
        (λ e. let at = ap (copies.deep aisle) e in omega (arith, at, walked, high));
  };
  reached = λ x tells r h. ⊎_elim
      (λ near. sym (near_steady r near.0) ∙ front_told x tells near.1)
      (λ far. far_steady r far.0 (places_within site picks aisle r h) ∙ back_told x tells far.1)
      (turn.passed r h);
  used = λ x tells walked s some. ⊎_elim
      (λ near. sym (near_steady s (omega (arith, near))) ∙ front_told x tells (turn.near_used (omega (arith, near))))
      (λ far. far_steady s far.0 (omega (arith, far.1)) ∙ back_told x tells (turn.far_used (omega (arith, far.0, far.1))))
      (turning_some last turn.near turn.far s some);
}
  where
    last : ℕ
    last = last_place site

    column : ℕ → Bool
    column = cut_column z y (colour aisle 0) (colour aisle (last_place site))

    here : (s : ℕ) → (in_aisle copies aisle (turning (last_place site) turn.near turn.far)).deep aisle s ≡ turning (last_place site) turn.near turn.far s
    here s = deep_here copies aisle (turning (last_place site) turn.near turn.far) s

    near_steady : (r : ℕ) → r ≤ turn.near → colour aisle 0 ≡ colour aisle r
    near_steady r upto = steady_to (colour aisle) 0 r (omega arith)
        (λ s from below. kept.deep aisle s (omega (arith, here s, turning_low (last_place site) turn.near turn.far s (omega (arith, below, upto)))))

    far_steady : (r : ℕ) → turn.far ≤ r → r ≤ last_place site → colour aisle r ≡ colour aisle (last_place site)
    far_steady r from upto = steady_to (colour aisle) r (last_place site) upto
        (λ s above below. kept.deep aisle s (omega (arith, here s, turning_high (last_place site) turn.near turn.far s (omega (arith, above, from)) below)))

    front_told : (x : Bool) → ((r : ℕ) → Among (site_places site picks aisle) r → cut_column z y (colour aisle 0) (colour aisle (last_place site)) r ≡ x)
        → (r : ℕ) × Among (site_places site picks aisle) r × (r ≤ z) → colour aisle 0 ≡ x
    front_told x tells (r, h, upto) = sym (cut_low z y (colour aisle 0) (colour aisle (last_place site)) r upto) ∙ tells r h

    back_told : (x : Bool) → ((r : ℕ) → Among (site_places site picks aisle) r → cut_column z y (colour aisle 0) (colour aisle (last_place site)) r ≡ x)
        → (r : ℕ) × Among (site_places site picks aisle) r × (y < r) → colour aisle (last_place site) ≡ x
    back_told x tells (r, h, beyond) = sym (cut_high z y (colour aisle 0) (colour aisle (last_place site)) r order beyond) ∙ tells r h
