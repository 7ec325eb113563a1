-- When the copies of pieces are those of a tour: they are even, and join all that a tour passes to the depot.
use Rattle.std.specs.Prelude.{◌≡◌, ℕ, suc, ◌+◌, ◌%◌, ◌<◌, ◌≤◌, Bool, List, ◌∷◌}
use Rattle.wp_model.specs.declared.point.Point.{Point}
use Rattle.wp_graph.specs.Copies.{Copies}
use Rattle.wp_graph.specs.Members.{Among}
use Rattle.wp_graph.specs.Sites.{Site, depot_of, last_place}

-- the copies of a closed walk: each piece of an aisle is walked as often as its cross aisles ask, up to an even
-- number
pub record AreEven (site : Site) (copies : Copies) : Type 0 where
  pub across : (a : ℕ) → (copies.behind a + copies.front a) % 2 ≡ 0
  pub through : (a s : ℕ) → s < last_place site
      → (copies.deep (suc a) s + copies.front a + copies.front (suc a)) % 2 ≡ 0
  pub first_behind : copies.behind 0 ≡ 0
  pub first_front : copies.front 0 ≡ 0
  pub last_behind : copies.behind site.aisles ≡ 0
  pub last_front : copies.front site.aisles ≡ 0

-- no piece is walked three times
pub record AreFew (copies : Copies) : Type 0 where
  pub deep : (a s : ℕ) → copies.deep a s ≤ 2
  pub behind : (a : ℕ) → copies.behind a ≤ 2
  pub front : (a : ℕ) → copies.front a ≤ 2

-- a colouring of the places of the aisles that no walked piece changes
pub record IsUnwalked (site : Site) (copies : Copies) (colour : ℕ → ℕ → Bool) : Type 0 where
  pub deep : (a s : ℕ) → 0 < copies.deep a s → colour a s ≡ colour a (suc s)
  pub behind : (a : ℕ) → 0 < copies.behind a → colour a (last_place site) ≡ colour (suc a) (last_place site)
  pub front : (a : ℕ) → 0 < copies.front a → colour a 0 ≡ colour (suc a) 0

-- a colouring that no walked piece changes is one colour, that of this point, on all points that are needed and at
-- all walked pieces
pub record AreJoined (site : Site) (copies : Copies) (Needed : Point → Type 0) (home : Point) : Type 1 where
  pub needed : (colour : ℕ → ℕ → Bool) → IsUnwalked site copies colour → (x : Point) → Needed x
      → colour x.aisle x.slot ≡ colour home.aisle home.slot
  pub deep : (colour : ℕ → ℕ → Bool) → IsUnwalked site copies colour → (a s : ℕ) → 0 < copies.deep a s
      → colour a s ≡ colour home.aisle home.slot
  pub behind : (colour : ℕ → ℕ → Bool) → IsUnwalked site copies colour → (a : ℕ) → 0 < copies.behind a
      → colour a (last_place site) ≡ colour home.aisle home.slot
  pub front : (colour : ℕ → ℕ → Bool) → IsUnwalked site copies colour → (a : ℕ) → 0 < copies.front a
      → colour a 0 ≡ colour home.aisle home.slot

-- what every tour passes: the depot and the picks
abbrev pub IsOnTour : Site → List Point → Point → Type 0
IsOnTour site picks p = Among (depot_of site ∷ picks) p

-- the copies of some tour of the picks
pub record AreTour (site : Site) (picks : List Point) (copies : Copies) : Type 1 where
  pub even : AreEven site copies
  pub joined : AreJoined site copies (IsOnTour site picks) (depot_of site)
