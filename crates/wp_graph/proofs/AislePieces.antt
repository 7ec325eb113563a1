-- Other pieces in one aisle of a tour: where colours that the old pieces keep tell those that the new ones keep, and
-- odd and even numbers stand for odd and even ones, what is walked stays a tour.
use Rattle.std.proofs.Common.{◌≡◌, ◌≢◌, ℕ, suc, ◌*◌, ◌%◌, ◌<◌, ◌==◌, Bool, List, if◌then◌else◌, arith, sym, ap, ◌∙◌, subst, ⊎_elim}
use Rattle.std.proofs.lemmas.Bool.{cases_eq}
use Rattle.std.proofs.lemmas.Bool.Decides.{nat_tests}
use Rattle.wp_model.proofs.Sums.{sum-agree}
use Rattle.wp_model.specs.Sums.{sum_below}
use Rattle.wp_model.specs.declared.point.Point.{Point}
use Rattle.wp_model.specs.Warehouse.{End, end_place}
use Rattle.wp_graph.specs.Copies.{Copies, aisle_walked}
use Rattle.wp_graph.specs.Required.{site_places}
use Rattle.wp_graph.specs.Sites.{IsOnSite, Site, depot_of, last_place}
use Rattle.wp_model.specs.Warehouse.End.{at_front, at_back}
use Rattle.wp_graph.specs.Members.{Among}
use Rattle.wp_graph.specs.TourCopies.{AreEven, AreJoined, IsUnwalked, IsOnTour}
use Rattle.wp_graph.proofs.EachAisle.{place_on_tour, tour_place}

-- other copies of the pieces of one aisle
abbrev pub in_aisle : Copies → ℕ → (ℕ → ℕ) → Copies
in_aisle copies aisle pieces = record copies { deep = λ a s. if a == aisle then pieces s else copies.deep a s }

-- the pieces of that aisle are the other ones
pub deep_here : (copies : Copies) (aisle : ℕ) (pieces : ℕ → ℕ) (s : ℕ) → (in_aisle copies aisle pieces).deep aisle s ≡ pieces s
deep_here copies aisle pieces s = grind (arith, nat_tests)

-- the pieces of each other aisle stay as they were
pub deep_else : (copies : Copies) (aisle : ℕ) (pieces : ℕ → ℕ) (a s : ℕ) → a ≢ aisle → (in_aisle copies aisle pieces).deep a s ≡ copies.deep a s
deep_else copies aisle pieces a s other = grind (arith, nat_tests)

-- another colour for each place of one aisle
abbrev recoloured : ℕ → (ℕ → Bool) → (ℕ → ℕ → Bool) → ℕ → ℕ → Bool
recoloured aisle column colour a s = if a == aisle then column s else colour a s

recoloured_here : (aisle : ℕ) (column : ℕ → Bool) (colour : ℕ → ℕ → Bool) (s : ℕ) → recoloured aisle column colour aisle s ≡ column s
recoloured_here aisle column colour s = grind (arith, nat_tests)

recoloured_else : (aisle : ℕ) (column : ℕ → Bool) (colour : ℕ → ℕ → Bool) (a s : ℕ) → a ≢ aisle → recoloured aisle column colour a s ≡ colour a s
recoloured_else aisle column colour a s other = grind (arith, nat_tests)

-- colours for one aisle that no walked piece changes, and that are those of its ends there
pub record IsColumn (site : Site) (copies : Copies) (aisle : ℕ) (colour : ℕ → ℕ → Bool) (column : ℕ → Bool) : Type 0 where
  pub front : column 0 ≡ colour aisle 0
  pub back : column (last_place site) ≡ colour aisle (last_place site)
  pub kept : (s : ℕ) → 0 < copies.deep aisle s → column s ≡ column (suc s)

recoloured_end : (site : Site) (copies : Copies) (aisle : ℕ) (colour : ℕ → ℕ → Bool) (column : ℕ → Bool) (a : ℕ) (end : End)
    → IsColumn site copies aisle colour column → recoloured aisle column colour a (end_place (last_place site) end) ≡ colour a (end_place (last_place site) end)
recoloured_end site copies aisle colour column a end is = ⊎_elim
    (λ e. subst (λ b. recoloured aisle column colour b (end_place (last_place site) end) ≡ colour b (end_place (last_place site) end)) (sym e)
    (recoloured_here aisle column colour (end_place (last_place site) end) ∙ at end))
    (λ other. recoloured_else aisle column colour a (end_place (last_place site) end) other)
    (cases_eq a aisle)
  where
    at : (e : End) → column (end_place (last_place site) e) ≡ colour aisle (end_place (last_place site) e)
    at at_front = is.front
    at at_back = is.back

recoloured_kept : (site : Site) (copies : Copies) (aisle : ℕ) (pieces : ℕ → ℕ) (colour : ℕ → ℕ → Bool) (column : ℕ → Bool)
    → IsUnwalked site (in_aisle copies aisle pieces) colour → IsColumn site copies aisle colour column → IsUnwalked site copies (recoloured aisle column colour)
recoloured_kept site copies aisle pieces colour column kept is = record {
  deep = λ a s some. ⊎_elim
      (λ e. subst (λ b. recoloured aisle column colour b s ≡ recoloured aisle column colour b (suc s)) (sym e)
      (recoloured_here aisle column colour s ∙ is.kept s (subst (λ b. 0 < copies.deep b s) e some) ∙ sym (recoloured_here aisle column colour (suc s))))
      (λ other. recoloured_else aisle column colour a s other ∙ kept.deep a s (omega (arith, some, deep_else copies aisle pieces a s other))
      ∙ sym (recoloured_else aisle column colour a (suc s) other))
      (cases_eq a aisle);
  behind = λ a some. recoloured_end site copies aisle colour column a at_back is ∙ kept.behind a some
      ∙ sym (recoloured_end site copies aisle colour column (suc a) at_back is);
  front = λ a some. recoloured_end site copies aisle colour column a at_front is ∙ kept.front a some
      ∙ sym (recoloured_end site copies aisle colour column (suc a) at_front is);
}

-- such colours, and what they tell of the colours that the new pieces keep
pub record IsTold (site : Site) (picks : List Point) (copies : Copies) (aisle : ℕ) (pieces : ℕ → ℕ) (colour : ℕ → ℕ → Bool) : Type 0 where
  pub column : ℕ → Bool
  pub is : IsColumn site copies aisle colour column
  pub reached : (x : Bool) → ((r : ℕ) → Among (site_places site picks aisle) r → column r ≡ x) → (r : ℕ) → Among (site_places site picks aisle) r
      → colour aisle r ≡ x
  pub used : (x : Bool) → ((r : ℕ) → Among (site_places site picks aisle) r → column r ≡ x) → ((s : ℕ) → 0 < copies.deep aisle s → column s ≡ x) → (s : ℕ)
      → 0 < pieces s → colour aisle s ≡ x

-- where colours that the old pieces keep tell those that the new ones keep, all that was joined is joined still
pub replaced_joined : (site : Site) (picks : List Point) (copies : Copies) (aisle : ℕ) (pieces : ℕ → ℕ)
    → ((p : Point) → IsOnTour site picks p → IsOnSite site p) →
    ((colour : ℕ → ℕ → Bool) → IsUnwalked site (in_aisle copies aisle pieces) colour → IsTold site picks copies aisle pieces colour)
    → AreJoined site copies (IsOnTour site picks) (depot_of site) →
    AreJoined site (in_aisle copies aisle pieces) (IsOnTour site picks) (depot_of site)
replaced_joined site picks copies aisle pieces within tells joined = record {
  needed = λ colour kept p on. ⊎_elim
      (λ e.
      let told = tells colour kept in
      let there = subst (λ a. Among (site_places site picks a) p.slot) e (tour_place site picks p on (within p on).slot) in
      ap (λ a. colour a p.slot) e ∙ told.reached _ (at_places colour kept) p.slot there)
      (λ other. sym (recoloured_else aisle (tells colour kept).column colour p.aisle p.slot other) ∙ joined.needed _ (old colour kept) p on ∙ home colour kept)
      (cases_eq p.aisle aisle);
  deep = λ colour kept a s some. ⊎_elim
      (λ e. ap (λ b. colour b s) e ∙ (tells colour kept).used _ (at_places colour kept)
      (λ s' some'. sym (recoloured_here aisle (tells colour kept).column colour s') ∙ joined.deep _ (old colour kept) aisle s' some' ∙ home colour kept) s
      (let at = ap (λ b. (in_aisle copies aisle pieces).deep b s) e ∙ deep_here copies aisle pieces s in omega (arith, at, some)))
      (λ other. sym (recoloured_else aisle (tells colour kept).column colour a s other)
      ∙ joined.deep _ (old colour kept) a s (omega (arith, some, deep_else copies aisle pieces a s other)) ∙ home colour kept)
      (cases_eq a aisle);
  behind = λ colour kept a some. sym (recoloured_end site copies aisle colour (tells colour kept).column a at_back (tells colour kept).is)
      ∙ joined.behind _ (old colour kept) a some ∙ home colour kept;
  front = λ colour kept a some. sym (recoloured_end site copies aisle colour (tells colour kept).column a at_front (tells colour kept).is)
      ∙ joined.front _ (old colour kept) a some ∙ home colour kept;
}
  where
    old : (colour : ℕ → ℕ → Bool) (kept : IsUnwalked site (in_aisle copies aisle pieces) colour)
        → IsUnwalked site copies (recoloured aisle (tells colour kept).column colour)
    old colour kept = recoloured_kept site copies aisle pieces colour (tells colour kept).column kept (tells colour kept).is

    home : (colour : ℕ → ℕ → Bool) (kept : IsUnwalked site (in_aisle copies aisle pieces) colour)
        → recoloured aisle (tells colour kept).column colour site.depot (end_place (last_place site) site.end)
        ≡ colour site.depot (end_place (last_place site) site.end)
    home colour kept = recoloured_end site copies aisle colour (tells colour kept).column site.depot site.end (tells colour kept).is

    at_places : (colour : ℕ → ℕ → Bool) (kept : IsUnwalked site (in_aisle copies aisle pieces) colour) (r : ℕ) → Among (site_places site picks aisle) r
        → (tells colour kept).column r ≡ colour site.depot (end_place (last_place site) site.end)
    at_places colour kept r h = sym (recoloured_here aisle (tells colour kept).column colour r)
        ∙ joined.needed _ (old colour kept) (record { aisle = aisle; slot = r }) (place_on_tour site picks aisle r h) ∙ home colour kept

-- an even number in place of an even one, an odd in place of an odd one
pub replaced_even : (site : Site) (copies : Copies) (aisle : ℕ) (pieces : ℕ → ℕ) → ((s : ℕ) → s < last_place site → pieces s % 2 ≡ copies.deep aisle s % 2)
    → AreEven site copies → AreEven site (in_aisle copies aisle pieces)
replaced_even site copies aisle pieces same even = record {
  across = even.across;
  through = λ a s low. omega (arith, parity (suc a) s low, even.through a s low);
  first_behind = even.first_behind;
  first_front = even.first_front;
  last_behind = even.last_behind;
  last_front = even.last_front;
}
  where
    parity : (a s : ℕ) → s < last_place site → (in_aisle copies aisle pieces).deep a s % 2 ≡ copies.deep a s % 2
    parity a s low = ⊎_elim
        (λ e. subst (λ b. (in_aisle copies aisle pieces).deep b s % 2 ≡ copies.deep b s % 2) (sym e)
        (ap (λ n. n % 2) (deep_here copies aisle pieces s) ∙ same s low))
        (λ other. ap (λ n. n % 2) (deep_else copies aisle pieces a s other))
        (cases_eq a aisle)

-- the walked length of the aisle is that of the new pieces
pub pieces_walked : (site : Site) (copies : Copies) (aisle : ℕ) (pieces : ℕ → ℕ)
    → aisle_walked site (in_aisle copies aisle pieces) aisle ≡ sum_below (last_place site) (λ s. pieces s * site.step s)
pieces_walked site copies aisle pieces = sum-agree (last_place site) _ _ (λ s low. ap (λ n. n * site.step s) (deep_here copies aisle pieces s))
