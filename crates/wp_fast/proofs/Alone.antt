-- For each way on over a run of aisles that aren't needed there is one by crossings of one kind, no longer with the way to the run.
use Rattle.std.proofs.Common.{◌≡◌, ℕ, zero, suc, ◌+◌, ◌*◌, ◌≤◌, ◌⊎◌, IsTrue, Bool, true, Option, Some, None, arith, inl, inr, refl, sym, ◌∙◌, subst}
use Rattle.std.proofs.lemmas.Bool.{false≢true}
use Rattle.std.proofs.lemmas.Option.{none-some, same_Some}
use Rattle.wp_graph.specs.declared.ways.AisleWays.{AisleWays}
use Rattle.wp_classes.specs.declared.class.Class.{Class}
use Rattle.wp_classes.specs.declared.class.Class.TheVariants.{UU1, E01, ZE1, EE1, EE2, Z00, Z01}
use Rattle.wp_classes.specs.declared.class.Way.{Way}
use Rattle.wp_classes.specs.declared.class.Way.TheVariants.{Pass, Back, Front, Gap, Double, Skip}
use Rattle.wp_classes.specs.declared.class.Cross.{Cross}
use Rattle.wp_classes.specs.declared.class.Cross.TheVariants.{C00, C11, C20, C02, C22}
use Rattle.wp_classes.specs.Choices.{Block}
use Rattle.wp_classes.specs.Onward.{Onward, Through}
use Rattle.wp_classes.specs.Tables.{class_after_way, copies, is_whole, way_length}
use Rattle.wp_fast.specs.Lengths.{is_begun}
use Rattle.wp_fast.proofs.Crossing.{IsPlain, Meets, Reaches, crossing_on, way_on}
use Rattle.wp_fast.proofs.NoMore.{NoMore}
use Rattle.wp_fast.proofs.OverRuns.{Along, GoesOver, is_closed, when_needed, when_spared}
use Rattle.wp_fast.proofs.Spare.{Absorbs, Arrives, Continues, IsLong, arriving_absorbs, one_for_two, through_continues}
use Rattle.wp_fast.proofs.Steps.{By, Crossed, OnFrom, ThroughAndOn, by_from, crossed_from, on_from_there, through_by}
use Rattle.wp_fast.proofs.Tables.{at_way}

-- nothing is required in an aisle: it is passed, walked twice or skipped
pub record IsSpare (ways : AisleWays) : Type 0 where
  pub back : ways.back ≡ None
  pub front : ways.front ≡ None
  pub gap : ways.gap ≡ None
  pub skip : ways.skip ≡ Some 0

-- all aisles are as long as each other, and where one can be skipped nothing is required in it
pub record IsEven (whole : ℕ) (block : Block) : Type 0 where
  pub long : (aisle : ℕ) → IsLong whole (block.ways aisle)
  pub spare : (aisle nothing : ℕ) → (block.ways aisle).skip ≡ Some nothing → IsSpare (block.ways aisle)

-- a way through an aisle in which nothing is required
pub plain_way : (whole : ℕ) (ways : AisleWays) → IsLong whole ways → IsSpare ways → (way : Way) (long : ℕ) → way_length ways way ≡ Some long
    → IsPlain whole way long
plain_way whole ways is spare Pass long e = let same = same_Some _ _ e in omega (arith, is.pass, same)
plain_way whole ways is spare Back long e = none-some _ (sym spare.back ∙ e)
plain_way whole ways is spare Front long e = none-some _ (sym spare.front ∙ e)
plain_way whole ways is spare Gap long e = none-some _ (sym spare.gap ∙ e)
plain_way whole ways is spare Double long e = let same = same_Some _ _ e in omega (arith, is.double, same)
plain_way whole ways is spare Skip long e = let same = same_Some _ _ (sym spare.skip ∙ e) in omega (arith, same)

pub skip_stays : (class : Class) → class_after_way class Skip ≡ Some class
skip_stays UU1 = refl
skip_stays E01 = refl
skip_stays ZE1 = refl
skip_stays EE1 = refl
skip_stays EE2 = refl
skip_stays Z00 = refl
skip_stays Z01 = refl

-- what has begun stays begun
abbrev begun_next : Option Class → Bool
begun_next None = true
begun_next (Some class) = is_begun class

begun_after : (class : Class) (way : Way) → IsTrue (is_begun class) → begun_next (class_after_way class way) ≡ true
begun_after UU1 way begun = at_way (λ way. begun_next (class_after_way UU1 way) ≡ true) (refl, refl, refl, refl, refl, refl) way
begun_after E01 way begun = at_way (λ way. begun_next (class_after_way E01 way) ≡ true) (refl, refl, refl, refl, refl, refl) way
begun_after ZE1 way begun = at_way (λ way. begun_next (class_after_way ZE1 way) ≡ true) (refl, refl, refl, refl, refl, refl) way
begun_after EE1 way begun = at_way (λ way. begun_next (class_after_way EE1 way) ≡ true) (refl, refl, refl, refl, refl, refl) way
begun_after EE2 way begun = at_way (λ way. begun_next (class_after_way EE2 way) ≡ true) (refl, refl, refl, refl, refl, refl) way
begun_after Z00 way begun = absurd (false≢true begun)
begun_after Z01 way begun = absurd (false≢true begun)

begun_to : (class next : Class) (way : Way) → IsTrue (is_begun class) → class_after_way class way ≡ Some next → IsTrue (is_begun next)
begun_to class next way begun leads = subst (λ o. begun_next o ≡ true) leads (begun_after class way begun)

reached_begun : (come : Class → ℕ → Type 0) (span t : ℕ) (class : Class) → Reaches come span class t → IsTrue (is_begun class)
reached_begun come span t UU1 h = refl
reached_begun come span t E01 h = refl
reached_begun come span t ZE1 h = refl
reached_begun come span t EE1 h = refl
reached_begun come span t EE2 h = refl
reached_begun come span t Z00 h = absurd h
reached_begun come span t Z01 h = absurd h

-- after no crossing
pub reaches_now : (come : Class → ℕ → Type 0) (t : ℕ) (class : Class) → IsTrue (is_begun class) → come class t → Reaches come 0 class t
reaches_now come t UU1 begun h = (t, h, omega arith)
reaches_now come t E01 begun h = (t, inl h, omega arith)
reaches_now come t ZE1 begun h = (t, inl h, omega arith)
reaches_now come t EE1 begun h = (t, h, omega arith)
reaches_now come t EE2 begun h = (t, h, omega arith)
reaches_now come t Z00 begun h = absurd (false≢true begun)
reaches_now come t Z01 begun h = absurd (false≢true begun)

whole_closed : (class : Class) → IsTrue (is_begun class) → IsTrue (is_whole class) → IsTrue (is_closed class)
whole_closed UU1 begun whole = absurd (false≢true whole)
whole_closed E01 begun whole = refl
whole_closed ZE1 begun whole = refl
whole_closed EE1 begun whole = refl
whole_closed EE2 begun whole = absurd (false≢true whole)
whole_closed Z00 begun whole = absurd (false≢true begun)
whole_closed Z01 begun whole = absurd (false≢true begun)

-- a run from where a tour comes, and on
record Splits (come on : Class → ℕ → Type 0) (span total : ℕ) : Type 0 where
  pub class : Class
  pub so_far : ℕ
  pub rest : ℕ
  pub comes : come class so_far
  pub goes : Along on span class rest
  pub total_is : so_far + rest ≡ total

split_reach : (come on : Class → ℕ → Type 0) (span t g : ℕ) (class : Class) → Reaches come span class t → on class g → Splits come on span (t + g)
split_reach come on span t g UU1 (so, f, e) h = record { class = UU1; so_far = so; rest = 2 * span + g; comes = f; goes = (g, h, refl); total_is = omega arith }
split_reach come on span t g E01 (so, inl f, e) h = record {
  class = E01;
  so_far = so;
  rest = 2 * span + g;
  comes = f;
  goes = (g, h, refl);
  total_is = omega arith;
}
split_reach come on span t g E01 (so, inr f, e) h =
    record { class = EE1; so_far = so; rest = 2 * span + g; comes = f; goes = inl (g, inl h, refl); total_is = omega arith }
split_reach come on span t g ZE1 (so, inl f, e) h = record {
  class = ZE1;
  so_far = so;
  rest = 2 * span + g;
  comes = f;
  goes = (g, h, refl);
  total_is = omega arith;
}
split_reach come on span t g ZE1 (so, inr f, e) h =
    record { class = EE1; so_far = so; rest = 2 * span + g; comes = f; goes = inl (g, inr h, refl); total_is = omega arith }
split_reach come on span t g EE1 (so, f, e) h = record {
  class = EE1;
  so_far = so;
  rest = 4 * span + g;
  comes = f;
  goes = inr (g, h, refl);
  total_is = omega arith;
}
split_reach come on span t g EE2 (so, f, e) h = record { class = EE2; so_far = so; rest = 4 * span + g; comes = f; goes = (g, h, refl); total_is = omega arith }
split_reach come on span t g Z00 r h = absurd r
split_reach come on span t g Z01 r h = absurd r

-- a tour comes to a class in which it is closed
record Closes (come : Class → ℕ → Type 0) (most : ℕ) : Type 0 where
  pub class : Class
  pub closed : IsTrue (is_closed class)
  pub so_far : ℕ
  pub comes : come class so_far
  pub least : so_far ≤ most

-- where a run and a plain way lead to a closed tour, it can be closed where the run begins
closes_before : (whole : ℕ) (come : Class → ℕ → Type 0) → Absorbs whole come → (span t long : ℕ) (class : Class) (way : Way) → IsPlain whole way long →
    Reaches come span class t → OnFrom (λ next u. IsTrue (is_closed next)) (class_after_way class way) 0 → Closes come (t + long)
closes_before whole come absorbs span t long UU1 Pass l (so, f, e) h =
    let more = absorbs.pass UU1 EE1 so refl f in record { class = EE1; closed = refl; so_far = more.total; comes = more.is; least = omega (arith, more.least) }
closes_before whole come absorbs span t long UU1 Back l r h = absurd l
closes_before whole come absorbs span t long UU1 Front l r h = absurd l
closes_before whole come absorbs span t long UU1 Gap l r h = absurd l
closes_before whole come absorbs span t long UU1 Double l r h = absurd (false≢true h)
closes_before whole come absorbs span t long UU1 Skip l r h = absurd (false≢true h)
closes_before whole come absorbs span t long E01 way l (so, inl f, e) h = record { class = E01; closed = refl; so_far = so; comes = f; least = omega arith }
closes_before whole come absorbs span t long E01 way l (so, inr f, e) h = record { class = EE1; closed = refl; so_far = so; comes = f; least = omega arith }
closes_before whole come absorbs span t long ZE1 way l (so, inl f, e) h = record { class = ZE1; closed = refl; so_far = so; comes = f; least = omega arith }
closes_before whole come absorbs span t long ZE1 way l (so, inr f, e) h = record { class = EE1; closed = refl; so_far = so; comes = f; least = omega arith }
closes_before whole come absorbs span t long EE1 way l (so, f, e) h = record { class = EE1; closed = refl; so_far = so; comes = f; least = omega arith }
closes_before whole come absorbs span t long EE2 Pass l r h = absurd (false≢true h)
closes_before whole come absorbs span t long EE2 Back l r h = absurd l
closes_before whole come absorbs span t long EE2 Front l r h = absurd l
closes_before whole come absorbs span t long EE2 Gap l r h = absurd l
closes_before whole come absorbs span t long EE2 Double l (so, f, e) h =
    let more = absorbs.double EE2 EE1 so refl f in record {
      class = EE1;
      closed = refl;
      so_far = more.total;
      comes = more.is;
      least = omega (arith, more.least);
    }
closes_before whole come absorbs span t long EE2 Skip l r h = absurd (false≢true h)
closes_before whole come absorbs span t long Z00 way l r h = absurd r
closes_before whole come absorbs span t long Z01 way l r h = absurd r

-- where a tour is done, no aisle is needed any more
pub through_done : (on : Class → ℕ → Type 0) (ways : AisleWays) (t : ℕ) → Through on ways Z01 t
    → (nothing : ℕ) × (ways.skip ≡ Some nothing) × (r : ℕ) × on Z01 r
through_done on ways t h = let by = by_from on ways Z01 t h in go by.0 by.1
  where
    go : (way : Way) → By on ways Z01 way t → (nothing : ℕ) × (ways.skip ≡ Some nothing) × (r : ℕ) × on Z01 r
    go Pass by = absurd by.next
    go Back by = absurd by.next
    go Front by = absurd by.next
    go Gap by = absurd by.next
    go Double by = absurd by.next
    go Skip by = (by.long, by.applies, by.rest, by.next)

closed_goes : (block : Block) (left aisle span : ℕ) (class : Class) → IsTrue (is_closed class) → (r : ℕ) → Onward block left aisle Z01 r
    → GoesOver block left aisle span class 0
closed_goes block zero aisle span class closed r h = (closed, refl)
closed_goes block (suc left) aisle span class closed r h =
    let over = crossed_from On (block.spacing aisle) Z01 r h in
    go over.0 over.1 (λ u there. closed_goes block left (suc aisle) (span + block.spacing aisle) class closed u there)
  where
    On : Class → ℕ → Type 0
    On between rest = ThroughAndOn block left (suc aisle) between rest

    go : (cross : Cross) → Crossed On (block.spacing aisle) Z01 cross r →
        ((u : ℕ) → Onward block left (suc aisle) Z01 u → GoesOver block left (suc aisle) (span + block.spacing aisle) class 0)
        → GoesOver block (suc left) aisle span class 0
    go C00 over further =
        let done = through_done (λ next more. Onward block left (suc aisle) next more) (block.ways (suc aisle)) over.rest over.next in
        when_spared (block.ways (suc aisle)) _ _ done.0 done.1 (further done.2 done.3)
    go C11 over further = absurd over.next
    go C20 over further = absurd over.next
    go C02 over further = absurd over.next
    go C22 over further = absurd over.next

-- a tour comes to a class, and goes on over the run behind by crossings of one kind
pub record Spares (block : Block) (left aisle span : ℕ) (come : Class → ℕ → Type 0) (most : ℕ) : Type 0 where
  pub class : Class
  pub so_far : ℕ
  pub rest : ℕ
  pub comes : come class so_far
  pub goes : GoesOver block left aisle span class rest
  pub least : so_far + rest ≤ most

-- after a run and a plain way a tour can go on so, however it goes on
abbrev SparesOn : ℕ → Block → ℕ → ℕ → Type 1
SparesOn whole block left aisle = (span : ℕ) (come : Class → ℕ → Type 0) → Absorbs whole come → (class : Class) (way : Way) (t long r : ℕ) →
    IsPlain whole way long → Reaches come span class t → OnFrom (λ next rest. Onward block left aisle next rest) (class_after_way class way) r →
    Spares block left aisle span come (t + long + r)

-- with one more aisle behind
spares_further : (whole : ℕ) (block : Block) → IsEven whole block → (left aisle : ℕ) → SparesOn whole block left (suc aisle)
    → SparesOn whole block (suc left) aisle
spares_further whole block even left aisle on_further span come absorbs class way t long r plain reaches h = by_need (block.ways (suc aisle)).skip refl
  where
    spacing : ℕ
    spacing = block.spacing aisle

    ways : AisleWays
    ways = block.ways (suc aisle)

    after : Class → ℕ → Type 0
    after next more = Onward block left (suc aisle) next more

    on : Class → ℕ → Type 0
    on between rest = ThroughAndOn block left (suc aisle) between rest

    continues : Continues whole on
    continues = through_continues whole after ways (even.long (suc aisle)) (λ u two. one_for_two block left (suc aisle) u two)

    next : (c : Class) × (class_after_way class way ≡ Some c) × Onward block (suc left) aisle c r
    next = on_from_there (λ next rest. Onward block (suc left) aisle next rest) (class_after_way class way) r h

    over : (cross : Cross) × Crossed on spacing next.0 cross r
    over = crossed_from on spacing next.0 r next.2

    crossed : NoMore (Along on spacing next.0) (copies over.0 * spacing + over.1.rest) ⊎ (IsTrue (is_closed next.0) × on Z01 over.1.rest)
    crossed = crossing_on whole on continues spacing over.1.rest next.0 over.0
        (begun_to class next.0 way (reached_begun come span t class reaches) next.1) over.1.next

    -- by the run one crossing longer, and on
    met : NoMore (Along on spacing next.0) (copies over.0 * spacing + over.1.rest) → Meets come on (span + spacing) (t + long + r)
    met along =
        let meets = way_on whole come on absorbs continues span spacing t long along.total class way plain reaches
        (subst (λ o. OnFrom (Along on spacing) o along.total) (sym next.1) along.is) in
        record {
          class = meets.class;
          so_far = meets.so_far;
          rest = meets.rest;
          reaches = meets.reaches;
          goes = meets.goes;
          least = omega (arith, meets.least, along.least, over.1.total_is);
        }

    needed : ways.skip ≡ None → Meets come on (span + spacing) (t + long + r) → Spares block (suc left) aisle span come (t + long + r)
    needed none m =
        let splits = split_reach come on (span + spacing) m.so_far m.rest m.class m.reaches m.goes in
        record {
          class = splits.class;
          so_far = splits.so_far;
          rest = splits.rest;
          comes = splits.comes;
          goes = when_needed ways _ _ none splits.goes;
          least = omega (arith, splits.total_is, m.least);
        }

    unneeded : (nothing : ℕ) → ways.skip ≡ Some nothing → Meets come on (span + spacing) (t + long + r) → Spares block (suc left) aisle span come (t + long + r)
    unneeded nothing some m =
        let by = by_from after ways m.class m.rest m.goes in
        let plain' = plain_way whole ways (even.long (suc aisle)) (even.spare (suc aisle) nothing some) by.0 by.1.long by.1.applies in
        let further = on_further (span + spacing) come absorbs m.class by.0 m.so_far by.1.long by.1.rest plain' m.reaches by.1.next in
        record {
          class = further.class;
          so_far = further.so_far;
          rest = further.rest;
          comes = further.comes;
          goes = when_spared ways _ _ nothing some further.goes;
          least = omega (arith, further.least, m.least, by.1.total_is);
        }

    done : (nothing : ℕ) → ways.skip ≡ Some nothing → IsTrue (is_closed next.0) → on Z01 over.1.rest → Spares block (suc left) aisle span come (t + long + r)
    done nothing some closed there =
        let ends = closes_before whole come absorbs span t long class way plain reaches
        (subst (λ o. OnFrom (λ c u. IsTrue (is_closed c)) o 0) (sym next.1) closed) in
        let far = through_done after ways over.1.rest there in
        record {
          class = ends.class;
          so_far = ends.so_far;
          rest = 0;
          comes = ends.comes;
          goes = when_spared ways _ _ nothing some (closed_goes block left (suc aisle) (span + spacing) ends.class ends.closed far.2 far.3);
          least = omega (arith, ends.least);
        }

    by_cross : (skip : Option ℕ) → ways.skip ≡ skip
        → NoMore (Along on spacing next.0) (copies over.0 * spacing + over.1.rest) ⊎ (IsTrue (is_closed next.0) × on Z01 over.1.rest)
        → Spares block (suc left) aisle span come (t + long + r)
    by_cross None none (inl along) = needed none (met along)
    by_cross None none (inr (closed, there)) = let far = through_done after ways over.1.rest there in absurd (none-some _ (sym none ∙ far.1))
    by_cross (Some nothing) some (inl along) = unneeded nothing some (met along)
    by_cross (Some nothing) some (inr (closed, there)) = done nothing some closed there

    by_need : (skip : Option ℕ) → ways.skip ≡ skip → Spares block (suc left) aisle span come (t + long + r)
    by_need skip e = by_cross skip e crossed

-- however many aisles are behind
pub spared : (whole : ℕ) (block : Block) → IsEven whole block → (left aisle : ℕ) → SparesOn whole block left aisle
spared whole block even zero aisle span come absorbs class way t long r plain reaches h =
    let next = on_from_there (λ next rest. Onward block zero aisle next rest) (class_after_way class way) r h in
    let closed = whole_closed next.0 (begun_to class next.0 way (reached_begun come span t class reaches) next.1) next.2.0 in
    let ends = closes_before whole come absorbs span t long class way plain reaches
    (subst (λ o. OnFrom (λ c u. IsTrue (is_closed c)) o 0) (sym next.1) closed) in
    record { class = ends.class; so_far = ends.so_far; rest = 0; comes = ends.comes; goes = (ends.closed, refl); least = omega (arith, ends.least) }
spared whole block even (suc left) aisle span come absorbs class way t long r plain reaches h =
    spares_further whole block even left aisle (spared whole block even left (suc aisle)) span come absorbs class way t long r plain reaches h

-- to come to a class with nothing walked yet
abbrev Stands : Class → Class → ℕ → Type 0
Stands from class total = (class ≡ from) × (total ≡ 0)

-- who comes to a class by a way through a needed aisle and goes on over the run behind it goes by the aisle and over the run
comes_over : (block : Block) (left aisle : ℕ) (class : Class) (most : ℕ) → Spares block left aisle 0 (Arrives (Stands class) (block.ways aisle)) most →
    NoMore (λ u. Through (λ next more. GoesOver block left aisle 0 next more) (block.ways aisle) class u) most
comes_over block left aisle class most spares = from spares.comes
  where
    On : Class → ℕ → Type 0
    On next more = GoesOver block left aisle 0 next more

    from : Arrives (Stands class) (block.ways aisle) spares.class spares.so_far → NoMore (λ u. Through On (block.ways aisle) class u) most
    from (before, none, way, through, (same, nothing), takes, total) = record {
      total = through + spares.rest;
      is = subst (λ c. Through On (block.ways aisle) c (through + spares.rest)) same (way, (spares.class, through, spares.rest, takes, spares.goes, refl));
      least = omega (arith, spares.least, nothing, total);
    }

-- so whatever a tour walks over the run behind a needed aisle can be walked in that aisle, or left to what comes behind the run
pub over_run : (whole : ℕ) (block : Block) → IsEven whole block → (left aisle : ℕ) → (block.ways aisle).skip ≡ None → (class : Class) (t : ℕ) →
    ThroughAndOn block left aisle class t → NoMore (λ u. Through (λ next more. GoesOver block left aisle 0 next more) (block.ways aisle) class u) t
over_run whole block even left aisle none class t h =
    let by = by_from on ways class t h in
    let next = on_from_there on (class_after_way class by.0) by.1.rest by.1.next in
    let come : Class → ℕ → Type 0 = Arrives (Stands class) ways in
    let stands : Stands class class 0 = (refl, refl) in
    let arrives : come next.0 by.1.long = (class, 0, by.0, by.1.long, stands, record { allowed = next.1; applies = by.1.applies }, omega arith) in
    comes_over block left aisle class t (subst (λ u. Spares block left aisle 0 come u) (omega (arith, by.1.total_is))
    (spared whole block even left aisle 0 come (arriving_absorbs whole (Stands class) ways (even.long aisle)) next.0 Skip by.1.long 0 by.1.rest refl
    (reaches_now come by.1.long next.0 (begun class by.0 by.1 next.0 next.1) arrives) (subst (λ o. OnFrom on o by.1.rest) (sym (skip_stays next.0)) next.2)))
  where
    ways : AisleWays
    ways = block.ways aisle

    on : Class → ℕ → Type 0
    on next more = Onward block left aisle next more

    is_next : (class next : Class) → IsTrue (is_begun class) → Some class ≡ Some next → IsTrue (is_begun next)
    is_next class next begun e = subst (λ (c : Class). IsTrue (is_begun c)) (same_Some _ _ e) begun

    begun : (class : Class) (way : Way) → By on ways class way t → (next : Class) → class_after_way class way ≡ Some next → IsTrue (is_begun next)
    begun UU1 way by next e = begun_to UU1 next way refl e
    begun E01 way by next e = begun_to E01 next way refl e
    begun ZE1 way by next e = begun_to ZE1 next way refl e
    begun EE1 way by next e = begun_to EE1 next way refl e
    begun EE2 way by next e = begun_to EE2 next way refl e
    begun Z00 Pass by next e = is_next UU1 next refl e
    begun Z00 Back by next e = is_next E01 next refl e
    begun Z00 Front by next e = is_next ZE1 next refl e
    begun Z00 Gap by next e = is_next EE2 next refl e
    begun Z00 Double by next e = is_next EE1 next refl e
    begun Z00 Skip by next e = absurd (none-some _ (sym none ∙ by.applies))
    begun Z01 way by next e = let done = through_done on ways t (through_by on ways Z01 way t by) in absurd (none-some _ (sym none ∙ done.1))
