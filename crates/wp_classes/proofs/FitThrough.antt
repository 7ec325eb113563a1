-- From a class that fits what a tour walks, some way through the next aisle that the tables allow, that applies and
-- that is no longer leads to a class that fits.
use Rattle.std.proofs.Common.{◌≡◌, ℕ, suc, ◌+◌, ◌%◌, ◌<◌, ◌≤◌, Bool, true, false, Some, [], arith, refl, sym, ◌∙◌, subst, ◌⊎◌, inl, inr, ⊎_elim}
use Rattle.wp_model.specs.declared.point.Point.{Point}
use Rattle.wp_graph.specs.Copies.{aisle_walked}
use Rattle.wp_graph.specs.AisleLengths.{site_ways}
use Rattle.wp_graph.specs.Required.{site_places}
use Rattle.wp_graph.specs.Sites.{last_place, site_distance}
use Rattle.wp_graph.specs.Members.{Among}
use Rattle.wp_graph.specs.TourCopies.{IsOnTour}
use Rattle.wp_graph.specs.Cuts.{HasCut, IsCut}
use Rattle.wp_graph.specs.Cuts.IsCut.{skips, fronts, backs, gaps}
use Rattle.wp_graph.proofs.EachAisle.{even_aisle, odd_aisle, place_on_tour, tour_place}
use Rattle.wp_graph.proofs.Members.{nil_from_none}
use Rattle.wp_classes.specs.declared.class.Class.{Class}
use Rattle.wp_classes.specs.declared.class.Class.TheVariants.{UU1, E01, ZE1, EE1, EE2, Z00, Z01}
use Rattle.wp_classes.specs.declared.class.Way.{Way}
use Rattle.wp_classes.specs.declared.class.Way.TheVariants.{Back, Double, Front, Gap, Pass, Skip}
use Rattle.wp_classes.specs.Choices.{TakesWay}
use Rattle.wp_classes.specs.Tables.{class_after_way, way_length}
use Rattle.wp_classes.proofs.FitClasses.{Crossed, Fits, IsEvenAt, Linked, OneSided, Tells, Toured, beside, beside_left, beside_right, everywhere}
use Rattle.wp_classes.proofs.FitClasses.{everywhere_tells, next_sides, next_tells, split_at, split_cases, split_high, split_low}

-- a way through the next aisle that is no longer than what the tour walks there
pub record GoesOn (t : Toured) (j : ℕ) (class : Class) : Type 0 where
  pub way : Way
  pub next : Class
  pub through : ℕ
  pub takes : TakesWay (site_ways t.site t.picks (suc j)) way class next through
  pub fits : Fits t (suc j) next
  pub least : through ≤ aisle_walked t.site t.copies (suc j)

two_cases : (n : ℕ) → (n % 2 ≡ 0) ⊎ (n % 2 ≡ 1)
two_cases n = grind arith

-- a walked piece of the aisle tells its colour
deep_tells : (t : Toured) (j : ℕ) (x : Bool) → 0 < t.copies.deep (suc j) 0 → Tells t (suc j) (everywhere x) x
deep_tells t j x some = λ other kept agrees. sym (t.are.joined.deep other kept (suc j) 0 some) ∙ agrees (suc j) 0 (omega arith)

odd_walked : (t : Toured) (j : ℕ) → (t.copies.front j + t.copies.front (suc j)) % 2 ≡ 1 → 0 < t.copies.deep (suc j) 0
odd_walked t j odd = let through = t.are.even.through j 0 (omega arith) in omega (arith, through, odd)

-- a way of a cut aisle that leads to the same class, whichever it is
same_cut : (t : Toured) (j : ℕ) (class next : Class) (z y most : ℕ) → class_after_way class Skip ≡ Some next → class_after_way class Front ≡ Some next
    → class_after_way class Back ≡ Some next → class_after_way class Gap ≡ Some next → Fits t (suc j) next →
    most ≤ aisle_walked t.site t.copies (suc j) → IsCut (site_ways t.site t.picks (suc j)) (site_distance t.site) (last_place t.site)
    (site_places t.site t.picks (suc j)) z y most → GoesOn t j class
same_cut t j class next z y most skip front back gap fits least (skips none applies turn) =
    record { way = Skip; next = next; through = 0; takes = record { allowed = skip; applies = applies }; fits = fits; least = omega arith }
same_cut t j class next z y most skip front back gap fits least (fronts l x applies short on low all turn) =
    record { way = Front; next = next; through = l; takes = record { allowed = front; applies = applies }; fits = fits; least = omega (arith, short, least) }
same_cut t j class next z y most skip front back gap fits least (backs l x applies short on high all turn) =
    record { way = Back; next = next; through = l; takes = record { allowed = back; applies = applies }; fits = fits; least = omega (arith, short, least) }
same_cut t j class next z y most skip front back gap fits least (gaps l x r applies short on low on' high turn) =
    record { way = Gap; next = next; through = l; takes = record { allowed = gap; applies = applies }; fits = fits; least = omega (arith, short, least) }

goes_odd : (t : Toured) (j : ℕ) → Crossed t j UU1 → GoesOn t j UU1
goes_odd t j odd = elim (two_cases (t.copies.front (suc j))) [
  | inl even ↦ let sum : (t.copies.front j + t.copies.front (suc j)) % 2 ≡ 1 = omega (arith, odd, even) in
      record {
        way = Pass;
        next = EE1;
        through = (site_ways t.site t.picks (suc j)).pass;
        takes = record { allowed = refl; applies = refl };
        fits = (even, deep_tells t j true (odd_walked t j sum));
        least = odd_aisle t.site t.picks t.copies j t.are sum;
      }
  | inr odd' ↦ let sum : (t.copies.front j + t.copies.front (suc j)) % 2 ≡ 0 = omega (arith, odd, odd') in
      elim (even_aisle t.site t.picks t.copies j t.are sum) [
        | inl full ↦ record {
          way = Double;
          next = UU1;
          through = (site_ways t.site t.picks (suc j)).double;
          takes = record { allowed = refl; applies = refl };
          fits = odd';
          least = full.1;
        }
        | inr cut ↦ same_cut t j UU1 UU1 cut.gap cut.beyond cut.most refl refl refl refl odd' cut.least cut.cut
      ]
]

-- from a class of even ends
goes_even : (t : Toured) (j : ℕ) (class : Class) → IsEvenAt t j → class_after_way class Pass ≡ Some UU1 → class_after_way class Double ≡ Some EE1
    → (IsEvenAt t (suc j) → HasCut t.site t.picks t.copies (suc j) → GoesOn t j class) → GoesOn t j class
goes_even t j class even pass double cut = elim (two_cases (t.copies.front (suc j))) [
  | inr odd ↦ record {
    way = Pass;
    next = UU1;
    through = (site_ways t.site t.picks (suc j)).pass;
    takes = record { allowed = pass; applies = refl };
    fits = odd;
    least = odd_aisle t.site t.picks t.copies j t.are (omega (arith, even, odd));
  }
  | inl even' ↦ elim (even_aisle t.site t.picks t.copies j t.are (omega (arith, even, even'))) [
    | inl full ↦ record {
      way = Double;
      next = EE1;
      through = (site_ways t.site t.picks (suc j)).double;
      takes = record { allowed = double; applies = refl };
      fits = (even', deep_tells t j true (full.0 0 (omega arith)));
      least = full.1;
    }
    | inr has ↦ cut even' has
  ]
]

-- what is on the tour up to the next aisle
on_next : (t : Toured) (j : ℕ) (p : Point) → IsOnTour t.site t.picks p → p.aisle ≤ suc j → (p.aisle ≤ j)
    ⊎ ((p.aisle ≡ suc j) × Among (site_places t.site t.picks (suc j)) p.slot)
on_next t j p on upto = ⊎_elim (λ low. inl low)
    (λ high.
    let here : p.aisle ≡ suc j = omega (arith, high, upto) in
    inr (here, subst (λ a. Among (site_places t.site t.picks a) p.slot) here (tour_place t.site t.picks p on (t.within p on).slot)))
    (split_cases p.aisle j)

-- all is on one side still, where the next aisle's required places are
next_all : (t : Toured) (j z : ℕ) (c : ℕ → ℕ → Bool) (x : Bool) → ((p : Point) → IsOnTour t.site t.picks p → p.aisle ≤ j → c p.aisle p.slot ≡ x)
    → ((r : ℕ) → Among (site_places t.site t.picks (suc j)) r → split_at z r ≡ x) →
    (p : Point) → IsOnTour t.site t.picks p → p.aisle ≤ suc j → beside j c (split_at z) p.aisle p.slot ≡ x
next_all t j z c x before there p on upto = ⊎_elim
    (λ low. beside_left j c (split_at z) p.aisle p.slot low ∙ before p on low)
    (λ here. beside_right j c (split_at z) p.aisle p.slot (omega (arith, here.0)) ∙ there p.slot here.1)
    (on_next t j p on upto)

-- a required place of the next aisle tells its side
place_tells : (t : Toured) (j z r : ℕ) (c : ℕ → ℕ → Bool) (x : Bool) → Among (site_places t.site t.picks (suc j)) r → split_at z r ≡ x
    → Tells t (suc j) (beside j c (split_at z)) x
place_tells t j z r c x on is = λ other kept agrees.
    sym (t.are.joined.needed other kept (record { aisle = suc j; slot = r }) (place_on_tour t.site t.picks (suc j) r on)) ∙ agrees (suc j) r (omega arith)
    ∙ beside_right j c (split_at z) (suc j) r (omega arith) ∙ is

none_required : (t : Toured) (j r : ℕ) → site_places t.site t.picks (suc j) ≡ [] → Among (site_places t.site t.picks (suc j)) r → ⊥
none_required t j r none h = subst (λ xs. Among xs r) none h

cut_back : (t : Toured) (j : ℕ) (c : ℕ → ℕ → Bool) (z y most : ℕ) → IsEvenAt t (suc j) → Linked t j c → OneSided t j c true → z ≤ y → y < last_place t.site
    → t.copies.deep (suc j) z ≡ 0 → most ≤ aisle_walked t.site t.copies (suc j) →
    IsCut (site_ways t.site t.picks (suc j)) (site_distance t.site) (last_place t.site) (site_places t.site t.picks (suc j)) z y most → GoesOn t j E01
cut_back t j c z y most even linked one order within none least (skips empty applies turn) = record {
  way = Skip;
  next = E01;
  through = 0;
  takes = record { allowed = refl; applies = applies };
  least = omega arith;
  fits = (
    even,
    beside j c (split_at z),
    next_sides t j z c linked (omega (arith, order, within)) none,
    record { all = next_all t j z c true one.all (λ r h. absurd (none_required t j r empty h)); tells = next_tells t j c (split_at z) true one.tells },
  );
}
cut_back t j c z y most even linked one order within none least (fronts l x applies short on low all turn) = record {
  way = Front;
  next = EE2;
  through = l;
  takes = record { allowed = refl; applies = applies };
  least = omega (arith, short, least);
  fits = (
    even,
    beside j c (split_at z),
    next_sides t j z c linked (omega (arith, order, within)) none,
    record { one = next_tells t j c (split_at z) true one.tells; other = place_tells t j z x c false on (split_low z x low) },
  );
}
cut_back t j c z y most even linked one order within none least (backs l x applies short on high all turn) = record {
  way = Back;
  next = E01;
  through = l;
  takes = record { allowed = refl; applies = applies };
  least = omega (arith, short, least);
  fits = (
    even,
    beside j c (split_at z),
    next_sides t j z c linked (omega (arith, order, within)) none,
    record {
      all = next_all t j z c true one.all (λ r h. let far = all r h in split_high z r (omega (arith, far, order)));
      tells = next_tells t j c (split_at z) true one.tells;
    },
  );
}
cut_back t j c z y most even linked one order within none least (gaps l x r applies short on low on' high turn) = record {
  way = Gap;
  next = EE2;
  through = l;
  takes = record { allowed = refl; applies = applies };
  least = omega (arith, short, least);
  fits = (
    even,
    beside j c (split_at z),
    next_sides t j z c linked (omega (arith, order, within)) none,
    record { one = next_tells t j c (split_at z) true one.tells; other = place_tells t j z x c false on (split_low z x low) },
  );
}

cut_front : (t : Toured) (j : ℕ) (c : ℕ → ℕ → Bool) (z y most : ℕ) → IsEvenAt t (suc j) → Linked t j c → OneSided t j c false → z ≤ y → y < last_place t.site
    → t.copies.deep (suc j) z ≡ 0 → most ≤ aisle_walked t.site t.copies (suc j) →
    IsCut (site_ways t.site t.picks (suc j)) (site_distance t.site) (last_place t.site) (site_places t.site t.picks (suc j)) z y most → GoesOn t j ZE1
cut_front t j c z y most even linked one order within none least (skips empty applies turn) = record {
  way = Skip;
  next = ZE1;
  through = 0;
  takes = record { allowed = refl; applies = applies };
  least = omega arith;
  fits = (
    even,
    beside j c (split_at z),
    next_sides t j z c linked (omega (arith, order, within)) none,
    record { all = next_all t j z c false one.all (λ r h. absurd (none_required t j r empty h)); tells = next_tells t j c (split_at z) false one.tells },
  );
}
cut_front t j c z y most even linked one order within none least (fronts l x applies short on low all turn) = record {
  way = Front;
  next = ZE1;
  through = l;
  takes = record { allowed = refl; applies = applies };
  least = omega (arith, short, least);
  fits = (
    even,
    beside j c (split_at z),
    next_sides t j z c linked (omega (arith, order, within)) none,
    record { all = next_all t j z c false one.all (λ r h. split_low z r (all r h)); tells = next_tells t j c (split_at z) false one.tells },
  );
}
cut_front t j c z y most even linked one order within none least (backs l x applies short on high all turn) = record {
  way = Back;
  next = EE2;
  through = l;
  takes = record { allowed = refl; applies = applies };
  least = omega (arith, short, least);
  fits = (
    even,
    beside j c (split_at z),
    next_sides t j z c linked (omega (arith, order, within)) none,
    record { one = place_tells t j z x c true on (split_high z x (omega (arith, high, order))); other = next_tells t j c (split_at z) false one.tells },
  );
}
cut_front t j c z y most even linked one order within none least (gaps l x r applies short on low on' high turn) = record {
  way = Gap;
  next = EE2;
  through = l;
  takes = record { allowed = refl; applies = applies };
  least = omega (arith, short, least);
  fits = (
    even,
    beside j c (split_at z),
    next_sides t j z c linked (omega (arith, order, within)) none,
    record { one = place_tells t j z r c true on' (split_high z r (omega (arith, high, order))); other = next_tells t j c (split_at z) false one.tells },
  );
}

next_none : (t : Toured) (j : ℕ) → ((p : Point) → IsOnTour t.site t.picks p → p.aisle ≤ j → ⊥) → site_places t.site t.picks (suc j) ≡ [] → (p : Point)
    → IsOnTour t.site t.picks p → p.aisle ≤ suc j → ⊥
next_none t j before empty p on upto = ⊎_elim (λ low. before p on low) (λ here. none_required t j p.slot empty here.1) (on_next t j p on upto)

cut_none : (t : Toured) (j : ℕ) (c : ℕ → ℕ → Bool) (z y most : ℕ) → IsEvenAt t (suc j) → Linked t j c
    → ((p : Point) → IsOnTour t.site t.picks p → p.aisle ≤ j → ⊥) → z ≤ y → y < last_place t.site → t.copies.deep (suc j) z ≡ 0
    → most ≤ aisle_walked t.site t.copies (suc j) →
    IsCut (site_ways t.site t.picks (suc j)) (site_distance t.site) (last_place t.site) (site_places t.site t.picks (suc j)) z y most → GoesOn t j Z00
cut_none t j c z y most even linked before order within none least (skips empty applies turn) = record {
  way = Skip;
  next = Z00;
  through = 0;
  takes = record { allowed = refl; applies = applies };
  least = omega arith;
  fits = (even, beside j c (split_at z), next_sides t j z c linked (omega (arith, order, within)) none, next_none t j before empty);
}
cut_none t j c z y most even linked before order within none least (fronts l x applies short on low all turn) = record {
  way = Front;
  next = ZE1;
  through = l;
  takes = record { allowed = refl; applies = applies };
  least = omega (arith, short, least);
  fits = (
    even,
    beside j c (split_at z),
    next_sides t j z c linked (omega (arith, order, within)) none,
    record {
      all = next_all t j z c false (λ p h upto. absurd (before p h upto)) (λ r h. split_low z r (all r h));
      tells = place_tells t j z x c false on (split_low z x low);
    },
  );
}
cut_none t j c z y most even linked before order within none least (backs l x applies short on high all turn) = record {
  way = Back;
  next = E01;
  through = l;
  takes = record { allowed = refl; applies = applies };
  least = omega (arith, short, least);
  fits = (
    even,
    beside j c (split_at z),
    next_sides t j z c linked (omega (arith, order, within)) none,
    record {
      all = next_all t j z c true (λ p h upto. absurd (before p h upto)) (λ r h. let far = all r h in split_high z r (omega (arith, far, order)));
      tells = place_tells t j z x c true on (split_high z x (omega (arith, high, order)));
    },
  );
}
cut_none t j c z y most even linked before order within none least (gaps l x r applies short on low on' high turn) = record {
  way = Gap;
  next = EE2;
  through = l;
  takes = record { allowed = refl; applies = applies };
  least = omega (arith, short, least);
  fits = (
    even,
    beside j c (split_at z),
    next_sides t j z c linked (omega (arith, order, within)) none,
    record {
      one = place_tells t j z r c true on' (split_high z r (omega (arith, high, order)));
      other = place_tells t j z x c false on (split_low z x low);
    },
  );
}

skip_applies : (t : Toured) (j : ℕ) → site_places t.site t.picks (suc j) ≡ [] → way_length (site_ways t.site t.picks (suc j)) Skip ≡ Some 0
unfolding site_ways
skip_applies t j empty = rw empty refl

goes_done : (t : Toured) (j : ℕ) → Crossed t j Z01 → GoesOn t j Z01
goes_done t j all =
    let empty = nil_from_none (site_places t.site t.picks (suc j))
    (λ r h. let upto = all (record { aisle = suc j; slot = r }) (place_on_tour t.site t.picks (suc j) r h) in omega (arith, upto)) in
    record {
      way = Skip;
      next = Z01;
      through = 0;
      takes = record { allowed = refl; applies = skip_applies t j empty };
      fits = λ p on. omega (arith, all p on);
      least = omega arith;
    }

-- where a class fits after a crossing, some way through the next aisle that applies, that the tables allow and that
-- is no longer leads to a class that fits
pub goes_on : (t : Toured) (j : ℕ) (class : Class) → Crossed t j class → GoesOn t j class
goes_on t j UU1 fits = goes_odd t j fits
goes_on t j E01 (even, c, linked, one) = goes_even t j E01 even refl refl
    (λ even' cut. cut_back t j c cut.gap cut.beyond cut.most even' linked one cut.ordered cut.within cut.none cut.least cut.cut)
goes_on t j ZE1 (even, c, linked, one) = goes_even t j ZE1 even refl refl
    (λ even' cut. cut_front t j c cut.gap cut.beyond cut.most even' linked one cut.ordered cut.within cut.none cut.least cut.cut)
goes_on t j EE1 (even, tells) = goes_even t j EE1 even refl refl
    (λ even' cut. same_cut t j EE1 EE1 cut.gap cut.beyond cut.most refl refl refl refl (even', everywhere_tells t j true tells) cut.least cut.cut)
goes_on t j EE2 (even, c, linked, two) = goes_even t j EE2 even refl refl (λ even' cut.
    same_cut t j EE2 EE2 cut.gap cut.beyond cut.most refl refl refl refl (
      even',
      beside j c (split_at cut.gap),
      next_sides t j cut.gap c linked (omega (arith, cut.ordered, cut.within)) cut.none,
      record { one = next_tells t j c (split_at cut.gap) true two.one; other = next_tells t j c (split_at cut.gap) false two.other },
    ) cut.least cut.cut)
goes_on t j Z00 (even, c, linked, none) = goes_even t j Z00 even refl refl
    (λ even' cut. cut_none t j c cut.gap cut.beyond cut.most even' linked none cut.ordered cut.within cut.none cut.least cut.cut)
goes_on t j Z01 fits = goes_done t j fits
