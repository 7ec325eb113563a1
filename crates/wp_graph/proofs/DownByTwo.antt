-- Three or more copies of a piece can go down by two: what is walked stays a tour, and gets no longer.
use Rattle.std.proofs.Common.{◌≡◌, ◌≢◌, ℕ, zero, suc, ◌+◌, ◌-◌, ◌*◌, ◌%◌, ◌<◌, ◌≤◌, ◌==◌, ◌&&◌, Bool, true, false, List, if◌then◌else◌, arith, refl, sym, ap}
use Rattle.std.proofs.Common.{◌∙◌}
use Rattle.std.proofs.lemmas.Bool.{and_parts, eqb-true}
use Rattle.std.proofs.lemmas.Bool.Decides.{nat_tests}
use Rattle.std.proofs.lemmas.Nat.{mul-le}
use Rattle.wp_model.proofs.Sums.{sum-agree, sum-le, sum-one_changed}
use Rattle.wp_model.specs.Sums.{sum_below}
use Rattle.wp_model.specs.declared.point.Point.{Point}
use Rattle.wp_model.specs.Warehouse.{IsUpTo}
use Rattle.wp_graph.specs.Copies.{Copies, aisle_walked, all_walked, cross_walked}
use Rattle.wp_graph.specs.Sites.{Site, last_place}
use Rattle.wp_graph.specs.TourCopies.{AreEven, AreFew, AreTour, IsUnwalked}

-- a number of copies made smaller by twos: as odd or even as before, and not 0 if it was not
pub record IsLowered (lower number : ℕ) : Type 0 where
  pub least : lower ≤ number
  pub same : lower % 2 ≡ number % 2
  pub used : 0 < number → 0 < lower

-- an odd number of 3 or more and an even number of 4 or more can lose two
pub down_by_two : (number : ℕ) → 3 ≤ number → IsLowered (number - 2) number
down_by_two number most = record { least = omega arith; same = omega arith; used = λ some. omega arith }

same_number : (number : ℕ) → IsLowered number number
same_number number = record { least = omega arith; same = refl; used = λ some. some }

then_lowered : (low middle number : ℕ) → IsLowered low middle → IsLowered middle number → IsLowered low number
then_lowered low middle number first next = record {
  least = omega (arith, first.least, next.least);
  same = first.same ∙ next.same;
  used = λ some. first.used (next.used some);
}

-- each number of copies made smaller by twos
pub record AreLowered (lower copies : Copies) : Type 0 where
  pub deep : (a s : ℕ) → IsLowered (lower.deep a s) (copies.deep a s)
  pub behind : (a : ℕ) → IsLowered (lower.behind a) (copies.behind a)
  pub front : (a : ℕ) → IsLowered (lower.front a) (copies.front a)

lowered_even : (site : Site) (lower copies : Copies) → AreLowered lower copies → AreEven site copies → AreEven site lower
lowered_even site lower copies less even = record {
  across = λ a. let behind = less.behind a in let front = less.front a in omega (arith, behind.same, front.same, even.across a);
  through = λ a s low. omega (arith, (less.deep (suc a) s).same, (less.front a).same, (less.front (suc a)).same, even.through a s low);
  first_behind = omega (arith, (less.behind 0).least, even.first_behind);
  first_front = omega (arith, (less.front 0).least, even.first_front);
  last_behind = omega (arith, (less.behind site.aisles).least, even.last_behind);
  last_front = omega (arith, (less.front site.aisles).least, even.last_front);
}

lowered_kept : (site : Site) (lower copies : Copies) (colour : ℕ → ℕ → Bool) → AreLowered lower copies → IsUnwalked site lower colour
    → IsUnwalked site copies colour
lowered_kept site lower copies colour less kept = record {
  deep = λ a s some. kept.deep a s ((less.deep a s).used some);
  behind = λ a some. kept.behind a ((less.behind a).used some);
  front = λ a some. kept.front a ((less.front a).used some);
}

-- what is walked stays a tour: all degrees are even still, and it hangs together with the depot and the picks
pub lowered_tour : (site : Site) (picks : List Point) (lower copies : Copies) → AreLowered lower copies → AreTour site picks copies → AreTour site picks lower
lowered_tour site picks lower copies less are = record {
  even = lowered_even site lower copies less are.even;
  joined = record {
    needed = λ colour kept x h. are.joined.needed colour (lowered_kept site lower copies colour less kept) x h;
    deep = λ colour kept a s some. are.joined.deep colour (lowered_kept site lower copies colour less kept) a s (omega (arith, some, (less.deep a s).least));
    behind = λ colour kept a some. are.joined.behind colour (lowered_kept site lower copies colour less kept) a (omega (arith, some, (less.behind a).least));
    front = λ colour kept a some. are.joined.front colour (lowered_kept site lower copies colour less kept) a (omega (arith, some, (less.front a).least));
  };
}

-- and gets no longer
pub lowered_walked : (site : Site) (lower copies : Copies) → AreLowered lower copies → all_walked site lower ≤ all_walked site copies
lowered_walked site lower copies less = sum-le site.aisles _ _ (λ a within.
    let inner = sum-le (last_place site) (λ s. lower.deep (suc a) s * site.step s) (λ s. copies.deep (suc a) s * site.step s)
    (λ s low. mul-le (lower.deep (suc a) s) (site.step s) (copies.deep (suc a) s) (site.step s) (less.deep (suc a) s).least (omega arith)) in
    let sum : lower.behind (suc a) + lower.front (suc a) ≤ copies.behind (suc a) + copies.front (suc a) =
    omega (arith, (less.behind (suc a)).least, (less.front (suc a)).least) in
    let crossing = mul-le (lower.behind (suc a) + lower.front (suc a)) (site.spacing (suc a)) (copies.behind (suc a) + copies.front (suc a))
    (site.spacing (suc a)) sum (omega arith) in
    omega (arith, inner, crossing))

-- one piece: of an aisle from a place to the next, or from an aisle to the next at the back or at the front
pub data Piece : Type 0 where
  deep_piece : ℕ → ℕ → Piece
  behind_piece : ℕ → Piece
  front_piece : ℕ → Piece

-- how often it is walked
abbrev pub copies_at : Copies → Piece → ℕ
copies_at copies (deep_piece a s) = copies.deep a s
copies_at copies (behind_piece a) = copies.behind a
copies_at copies (front_piece a) = copies.front a

-- one piece walked two times less
abbrev pub less_two : Copies → Piece → Copies
less_two copies (deep_piece a s) = record copies { deep = λ a' s'. if (a' == a) && (s' == s) then copies.deep a' s' - 2 else copies.deep a' s' }
less_two copies (behind_piece a) = record copies { behind = λ a'. if a' == a then copies.behind a' - 2 else copies.behind a' }
less_two copies (front_piece a) = record copies { front = λ a'. if a' == a then copies.front a' - 2 else copies.front a' }

lowered_where : (here : Bool) (number : ℕ) → (here ≡ true → 3 ≤ number) → IsLowered (if here then number - 2 else number) number
lowered_where true number most = down_by_two number (most refl)
lowered_where false number most = same_number number

-- that makes the copies smaller by twos
less_lowered : (copies : Copies) (piece : Piece) → 3 ≤ copies_at copies piece → AreLowered (less_two copies piece) copies
less_lowered copies (deep_piece a s) most = record {
  deep = λ a' s'. lowered_where ((a' == a) && (s' == s)) (copies.deep a' s')
      (λ e. let parts = and_parts (a' == a) (s' == s) e in let at = ap (λ x. copies.deep x s') (eqb-true _ _ parts.0)
      ∙ ap (copies.deep a) (eqb-true _ _ parts.1) in omega (arith, at, most));
  behind = λ a'. same_number (copies.behind a');
  front = λ a'. same_number (copies.front a');
}
less_lowered copies (behind_piece a) most = record {
  deep = λ a' s'. same_number (copies.deep a' s');
  behind = λ a'. lowered_where (a' == a) (copies.behind a') (λ e. omega (arith, ap copies.behind (eqb-true _ _ e), most));
  front = λ a'. same_number (copies.front a');
}
less_lowered copies (front_piece a) most = record {
  deep = λ a' s'. same_number (copies.deep a' s');
  behind = λ a'. same_number (copies.behind a');
  front = λ a'. lowered_where (a' == a) (copies.front a') (λ e. omega (arith, ap copies.front (eqb-true _ _ e), most));
}

-- a piece of the site
abbrev pub IsPiece : Site → Piece → Type 0
IsPiece site (deep_piece a s) = IsUpTo site.aisles a × (s < last_place site)
IsPiece site (behind_piece a) = IsUpTo site.aisles a
IsPiece site (front_piece a) = IsUpTo site.aisles a

-- the length of a piece
abbrev pub piece_length : Site → Piece → ℕ
piece_length site (deep_piece a s) = site.step s
piece_length site (behind_piece a) = site.spacing a
piece_length site (front_piece a) = site.spacing a

two_less : (n c : ℕ) → 2 ≤ n → (n - 2) * c + 2 * c ≡ n * c
two_less n c most =
    let e : n ≡ (n - 2) + 2 = omega arith in
    let apart : ((n - 2) + 2) * c ≡ (n - 2) * c + 2 * c = grind arith in
    sym (ap (λ m. m * c) e ∙ apart)

deep_else : (copies : Copies) (a s a' s' : ℕ) → a' ≢ a → (less_two copies (deep_piece a s)).deep a' s' ≡ copies.deep a' s'
deep_else copies a s a' s' other = grind (arith, nat_tests)

place_else : (copies : Copies) (a s a' s' : ℕ) → s' ≢ s → (less_two copies (deep_piece a s)).deep a' s' ≡ copies.deep a' s'
place_else copies a s a' s' other = grind (arith, nat_tests)

deep_there : (copies : Copies) (a s : ℕ) → (less_two copies (deep_piece a s)).deep a s ≡ copies.deep a s - 2
deep_there copies a s = grind (arith, nat_tests)

behind_else : (copies : Copies) (a a' : ℕ) → a' ≢ a → (less_two copies (behind_piece a)).behind a' ≡ copies.behind a'
behind_else copies a a' other = grind (arith, nat_tests)

behind_there : (copies : Copies) (a : ℕ) → (less_two copies (behind_piece a)).behind a ≡ copies.behind a - 2
behind_there copies a = grind (arith, nat_tests)

front_else : (copies : Copies) (a a' : ℕ) → a' ≢ a → (less_two copies (front_piece a)).front a' ≡ copies.front a'
front_else copies a a' other = grind (arith, nat_tests)

front_there : (copies : Copies) (a : ℕ) → (less_two copies (front_piece a)).front a ≡ copies.front a - 2
front_there copies a = grind (arith, nat_tests)

-- a sum in which one term is less by so much
less_sum : (n : ℕ) (f g : ℕ → ℕ) (at less : ℕ) → at < n → ((k : ℕ) → k ≢ at → f k ≡ g k) → f at + less ≡ g at → sum_below n f + less ≡ sum_below n g
less_sum n f g at less within same there = omega (arith, sum-one_changed n f g at within same, there)

-- the walked length of an aisle and of the crossing behind it, at one aisle less by so much
less_walked : (site : Site) (lower copies : Copies) (a less : ℕ) → IsUpTo site.aisles a
    → ((a' : ℕ) → a' ≢ a → aisle_walked site lower a' + cross_walked site lower a' ≡ aisle_walked site copies a' + cross_walked site copies a') →
    aisle_walked site lower a + cross_walked site lower a + less ≡ aisle_walked site copies a + cross_walked site copies a
    → all_walked site lower + less ≡ all_walked site copies
less_walked site lower copies zero less within same there = absurd (omega arith)
less_walked site lower copies (suc a) less within same there =
    less_sum site.aisles (λ k. aisle_walked site lower (suc k) + cross_walked site lower (suc k))
    (λ k. aisle_walked site copies (suc k) + cross_walked site copies (suc k)) a less (omega arith)
    (λ k other. same (suc k) (λ e. other (omega (arith, e)))) there

-- what is walked gets shorter by the piece, two times
less_falls : (site : Site) (copies : Copies) (piece : Piece) → IsPiece site piece → 3 ≤ copies_at copies piece
    → all_walked site (less_two copies piece) + 2 * piece_length site piece ≡ all_walked site copies
less_falls site copies (deep_piece a s) is most =
    let lower = less_two copies (deep_piece a s) in
    let there : lower.deep a s * site.step s + 2 * site.step s ≡ copies.deep a s * site.step s =
    ap (λ x. x * site.step s + 2 * site.step s) (deep_there copies a s) ∙ two_less (copies.deep a s) (site.step s) (omega arith) in
    let inner = less_sum (last_place site) (λ k. lower.deep a k * site.step k) (λ k. copies.deep a k * site.step k) s (2 * site.step s) is.1
    (λ k other. ap (λ x. x * site.step k) (place_else copies a s a k other)) there in
    less_walked site lower copies a (2 * site.step s) is.0
    (λ a' other. let same = sum-agree (last_place site) (λ k. lower.deep a' k * site.step k) (λ k. copies.deep a' k * site.step k)
    (λ k low. ap (λ x. x * site.step k) (deep_else copies a s a' k other)) in omega (arith, same))
    (omega (arith, inner))
less_falls site copies (behind_piece a) is most =
    let lower = less_two copies (behind_piece a) in
    let sum : lower.behind a + lower.front a ≡ (copies.behind a + copies.front a) - 2 = omega (arith, behind_there copies a, most) in
    let there : cross_walked site lower a + 2 * site.spacing a ≡ cross_walked site copies a =
    ap (λ x. x * site.spacing a + 2 * site.spacing a) sum ∙ two_less (copies.behind a + copies.front a) (site.spacing a) (omega arith) in
    less_walked site lower copies a (2 * site.spacing a) is (λ a' other. ap (λ x. aisle_walked site copies a' + (x + copies.front a') * site.spacing a')
    (behind_else copies a a' other)) (omega (arith, there))
less_falls site copies (front_piece a) is most =
    let lower = less_two copies (front_piece a) in
    let sum : lower.behind a + lower.front a ≡ (copies.behind a + copies.front a) - 2 = omega (arith, front_there copies a, most) in
    let there : cross_walked site lower a + 2 * site.spacing a ≡ cross_walked site copies a =
    ap (λ x. x * site.spacing a + 2 * site.spacing a) sum ∙ two_less (copies.behind a + copies.front a) (site.spacing a) (omega arith) in
    less_walked site lower copies a (2 * site.spacing a) is (λ a' other. ap (λ x. aisle_walked site copies a' + (copies.behind a' + x) * site.spacing a')
    (front_else copies a a' other)) (omega (arith, there))

-- Three or more copies of a piece go down by two: all degrees are even still, and all that is walked hangs together
-- with the depot and passes the picks. It is shorter by twice the piece.
pub three_or_more_go_down_by_two : (site : Site) (picks : List Point) (copies : Copies) (piece : Piece) → AreTour site picks copies → IsPiece site piece
    → 3 ≤ copies_at copies piece →
    AreTour site picks (less_two copies piece) × (all_walked site (less_two copies piece) + 2 * piece_length site piece ≡ all_walked site copies)
three_or_more_go_down_by_two site picks copies piece are is most =
    (lowered_tour site picks (less_two copies piece) copies (less_lowered copies piece most) are, less_falls site copies piece is most)

-- a number of copies made smaller by twos as far as that goes
lowered_to_two : (number : ℕ) → (lower : ℕ) × IsLowered lower number × (lower ≤ 2)
lowered_to_two zero = (0, same_number 0, omega arith)
lowered_to_two (suc zero) = (1, same_number 1, omega arith)
lowered_to_two (suc (suc zero)) = (2, same_number 2, omega arith)
lowered_to_two (suc (suc (suc number))) =
    let rest = lowered_to_two (suc number) in
    let less : suc (suc (suc number)) - 2 ≡ suc number = omega arith in
    let step = down_by_two (suc (suc (suc number))) (omega arith) in
    (rest.0, then_lowered rest.0 (suc number) (suc (suc (suc number))) rest.1 (rw less at step), rest.2)

-- the copies of a tour that walks no piece three times, and is no longer
pub record FewerCopies (site : Site) (picks : List Point) (most : ℕ) : Type 1 where
  pub copies : Copies
  pub are : AreTour site picks copies
  pub few : AreFew copies
  pub least : all_walked site copies ≤ most

-- all pieces together: each number goes down by two, again and again, to 0, 1 or 2
pub all_go_down_to_two : (site : Site) (picks : List Point) (copies : Copies) → AreTour site picks copies → FewerCopies site picks (all_walked site copies)
all_go_down_to_two site picks copies are =
    let lower : Copies = record {
      deep = λ a s. (lowered_to_two (copies.deep a s)).0;
      behind = λ a. (lowered_to_two (copies.behind a)).0;
      front = λ a. (lowered_to_two (copies.front a)).0;
    } in
    let less : AreLowered lower copies = record {
      deep = λ a s. (lowered_to_two (copies.deep a s)).1;
      behind = λ a. (lowered_to_two (copies.behind a)).1;
      front = λ a. (lowered_to_two (copies.front a)).1;
    } in
    record {
      copies = lower;
      are = lowered_tour site picks lower copies less are;
      few = record {
        deep = λ a s. (lowered_to_two (copies.deep a s)).2;
        behind = λ a. (lowered_to_two (copies.behind a)).2;
        front = λ a. (lowered_to_two (copies.front a)).2;
      };
      least = lowered_walked site lower copies less;
    }
