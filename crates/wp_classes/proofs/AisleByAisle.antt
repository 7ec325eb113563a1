-- From aisle to aisle: with a way for each aisle and a crossing to the next, which the tables allow, a class fits
-- what a tour walks, and the sum so far is no longer than what it walks.
use Rattle.std.proofs.Common.{◌≡◌, ℕ, zero, suc, ◌+◌, ◌-◌, ◌*◌, ◌≤◌, IsTrue, List, arith, refl, inl, subst}
use Rattle.std.proofs.lemmas.Nat.{mul-le}
use Rattle.wp_model.specs.Sums.{sum_below}
use Rattle.wp_model.specs.declared.point.Point.{Point}
use Rattle.wp_graph.specs.Copies.{aisle_walked, all_walked, cross_walked}
use Rattle.wp_graph.specs.AisleLengths.{site_ways}
use Rattle.wp_graph.specs.Sites.{Site, depot_of}
use Rattle.wp_classes.specs.declared.class.Class.{Class}
use Rattle.wp_classes.specs.declared.class.Class.TheVariants.{Z00}
use Rattle.wp_classes.specs.declared.class.Cross.TheVariants.{C00}
use Rattle.wp_classes.specs.Choices.{Block, ComesTo, Route}
use Rattle.wp_classes.specs.Onward.{Onward}
use Rattle.wp_classes.specs.Tables.{copies, is_whole}
use Rattle.wp_classes.proofs.Ends.{done_whole, starts_with_none}
use Rattle.wp_classes.proofs.FitCrossing.{crosses_on}
use Rattle.wp_classes.proofs.FitThrough.{goes_on}
use Rattle.wp_classes.proofs.FitClasses.{Fits, Toured}
use Rattle.wp_classes.proofs.Routes.{whole_from_onward}

-- the ways through the aisles of a site with some picks, and the lengths of its crossings
abbrev pub site_block : Site → List Point → Block
site_block site picks = record { ways = site_ways site picks; spacing = site.spacing }

-- what the tour walks behind an aisle, with so many more aisles
abbrev pub rest_walked : Toured → ℕ → ℕ → ℕ
rest_walked t zero j = 0
rest_walked t (suc left) j = cross_walked t.site t.copies j + (aisle_walked t.site t.copies (suc j) + rest_walked t left (suc j))

-- a way on to the end that is no longer than what the tour walks there
pub record OnTo (t : Toured) (left j : ℕ) (class : Class) : Type 0 where
  pub rest : ℕ
  pub on : Onward (site_block t.site t.picks) left j class rest
  pub least : rest ≤ rest_walked t left j

-- where a class fits, there is a way on to the end that is no longer than what the tour walks there
pub on_to : (t : Toured) (left j : ℕ) (class : Class) → j + left ≡ t.site.aisles → Fits t j class → OnTo t left j class
on_to t zero j class all fits =
    let last : t.site.aisles ≡ j = omega (arith, all) in
    let behind = subst (λ a. t.copies.behind a ≡ 0) last t.are.even.last_behind in
    let front = subst (λ a. t.copies.front a ≡ 0) last t.are.even.last_front in
    record {
      rest = 0;
      on = (done_whole t j class behind front (omega (arith, last, (t.within (depot_of t.site) (inl refl)).aisle.1)) fits, refl);
      least = omega arith;
    }
on_to t (suc left) j class all fits =
    let crossed = crosses_on t j class fits in
    let gone = goes_on t j crossed.next crossed.fits in
    let far = on_to t left (suc j) gone.next (omega (arith, all)) gone.fits in
    let spacing = t.site.spacing j in
    let across = mul-le (copies crossed.cross) spacing (t.copies.behind j + t.copies.front j) spacing crossed.least (omega arith) in
    record {
      rest = copies crossed.cross * spacing + (gone.through + far.rest);
      on = (
        crossed.cross,
        (
          crossed.next,
          copies crossed.cross * spacing,
          gone.through + far.rest,
          record { allowed = crossed.takes; length_is = refl },
          (gone.way, (gone.next, gone.through, far.rest, gone.takes, far.on, refl)),
          refl,
        ),
      );
      least = omega (arith, across, gone.least, far.least);
    }

walked_sum : (t : Toured) (left i : ℕ) →
    sum_below i (λ a. aisle_walked t.site t.copies (suc a) + cross_walked t.site t.copies (suc a)) +
    (aisle_walked t.site t.copies (suc i) + rest_walked t left (suc i))
    ≤ sum_below (suc i + left) (λ a. aisle_walked t.site t.copies (suc a) + cross_walked t.site t.copies (suc a))
walked_sum t zero i = let e : suc i + 0 ≡ suc i = omega arith in rw e (omega arith)
walked_sum t (suc left) i = let e : suc i + suc left ≡ suc (suc i) + left = omega arith in let rest = walked_sum t left (suc i) in rw e (omega (arith, rest))

-- a route for all aisles that the tables allow, that makes a whole tour and that is no longer than what a tour walks
pub record WithinWalked (t : Toured) : Type 0 where
  pub route : Route
  pub class : Class
  pub total : ℕ
  pub comes : ComesTo (site_block t.site t.picks) route (t.site.aisles - 1) class total
  pub whole : IsTrue (is_whole class)
  pub least : total ≤ all_walked t.site t.copies

-- for what a tour walks there is a route that makes a whole tour, that the tables allow and that is no longer
pub route_within : (t : Toured) → WithinWalked t
route_within t =
    let depot = (t.within (depot_of t.site) (inl refl)).aisle in
    let block = site_block t.site t.picks in
    let first = goes_on t 0 Z00 (starts_with_none t) in
    let far = on_to t (t.site.aisles - 1) 1 first.next (omega (arith, depot)) first.fits in
    let route : Route = record { way = λ aisle. first.way; cross = λ aisle. C00 } in
    let whole = whole_from_onward block route (t.site.aisles - 1) 0 (t.site.aisles - 1) first.next first.through far.rest (omega arith) first.takes far.on in
    let all : suc 0 + (t.site.aisles - 1) ≡ t.site.aisles = omega (arith, depot) in
    let sum = subst (λ n. sum_below 0 (λ a. aisle_walked t.site t.copies (suc a) + cross_walked t.site t.copies (suc a)) +
    (aisle_walked t.site t.copies 1 + rest_walked t (t.site.aisles - 1) 1)
    ≤ sum_below n (λ a. aisle_walked t.site t.copies (suc a) + cross_walked t.site t.copies (suc a))) all (walked_sum t (t.site.aisles - 1) 0) in
    record {
      route = whole.0;
      class = whole.1;
      total = first.through + far.rest;
      comes = whole.2;
      whole = whole.3;
      least = omega (arith, first.least, far.least, sum);
    }
