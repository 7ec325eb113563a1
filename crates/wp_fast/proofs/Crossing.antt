-- Over a run of aisles that aren't needed: what a tour walks in them can be walked in the needed aisle before the run, or left to
-- what comes behind.
use Rattle.std.proofs.Common.{◌≡◌, ℕ, ◌+◌, ◌*◌, ◌≤◌, ◌⊎◌, IsTrue, false, arith, inl, inr, refl, ⊎_elim}
use Rattle.wp_classes.specs.declared.class.Class.{Class}
use Rattle.wp_classes.specs.declared.class.Class.TheVariants.{UU1, E01, ZE1, EE1, EE2, Z00, Z01}
use Rattle.wp_classes.specs.declared.class.Way.{Way}
use Rattle.wp_classes.specs.declared.class.Way.TheVariants.{Pass, Back, Front, Gap, Double, Skip}
use Rattle.wp_classes.specs.declared.class.Cross.{Cross}
use Rattle.wp_classes.specs.declared.class.Cross.TheVariants.{C00, C11, C20, C02, C22}
use Rattle.wp_classes.specs.Tables.{class_after_cross, class_after_way, copies}
use Rattle.wp_fast.specs.Lengths.{is_begun}
use Rattle.wp_fast.proofs.NoMore.{NoMore}
use Rattle.wp_fast.proofs.OverRuns.{Along, is_closed}
use Rattle.wp_fast.proofs.Steps.{OnFrom}
use Rattle.wp_fast.proofs.Spare.{Absorbs, Continues}

-- where a tour comes from a needed aisle by crossings of one kind that are so long together
abbrev pub Reaches : (Class → ℕ → Type 0) → ℕ → Class → ℕ → Type 0
Reaches come span UU1 total = (so_far : ℕ) × come UU1 so_far × (total ≡ so_far + 2 * span)
Reaches come span E01 total = (so_far : ℕ) × (come E01 so_far ⊎ come EE1 so_far) × (total ≡ so_far + 2 * span)
Reaches come span ZE1 total = (so_far : ℕ) × (come ZE1 so_far ⊎ come EE1 so_far) × (total ≡ so_far + 2 * span)
Reaches come span EE1 total = (so_far : ℕ) × come EE1 so_far × (total ≡ so_far + 4 * span)
Reaches come span EE2 total = (so_far : ℕ) × come EE2 so_far × (total ≡ so_far + 4 * span)
Reaches come span Z00 total = ⊥
Reaches come span Z01 total = ⊥

-- what a crossing leads to is what one of a run of one kind leads to, at no greater length; or the tour is closed and done
pub crossing_on : (whole : ℕ) (on : Class → ℕ → Type 0) → Continues whole on → (spacing rest : ℕ) (class : Class) (cross : Cross) → IsTrue (is_begun class) →
    OnFrom on (class_after_cross class cross) rest → NoMore (Along on spacing class) (copies cross * spacing + rest) ⊎ (IsTrue (is_closed class) × on Z01 rest)
crossing_on whole on is spacing rest UU1 C00 begun h = absurd h
crossing_on whole on is spacing rest UU1 C11 begun h = inl (record { total = 2 * spacing + rest; is = (rest, h, refl); least = omega arith })
crossing_on whole on is spacing rest UU1 C20 begun h = absurd h
crossing_on whole on is spacing rest UU1 C02 begun h = absurd h
crossing_on whole on is spacing rest UU1 C22 begun h = absurd h
crossing_on whole on is spacing rest E01 C00 begun h = inr (refl, h)
crossing_on whole on is spacing rest E01 C11 begun h = absurd h
crossing_on whole on is spacing rest E01 C20 begun h = inl (record { total = 2 * spacing + rest; is = (rest, h, refl); least = omega arith })
crossing_on whole on is spacing rest E01 C02 begun h = absurd h
crossing_on whole on is spacing rest E01 C22 begun h = inl (record { total = 2 * spacing + rest; is = (rest, is.behind rest h, refl); least = omega arith })
crossing_on whole on is spacing rest ZE1 C00 begun h = inr (refl, h)
crossing_on whole on is spacing rest ZE1 C11 begun h = absurd h
crossing_on whole on is spacing rest ZE1 C20 begun h = absurd h
crossing_on whole on is spacing rest ZE1 C02 begun h = inl (record { total = 2 * spacing + rest; is = (rest, h, refl); least = omega arith })
crossing_on whole on is spacing rest ZE1 C22 begun h = inl (record { total = 2 * spacing + rest; is = (rest, is.in_front rest h, refl); least = omega arith })
crossing_on whole on is spacing rest EE1 C00 begun h = inr (refl, h)
crossing_on whole on is spacing rest EE1 C11 begun h = absurd h
crossing_on whole on is spacing rest EE1 C20 begun h = inl (record { total = 2 * spacing + rest; is = inl (rest, inl h, refl); least = omega arith })
crossing_on whole on is spacing rest EE1 C02 begun h = inl (record { total = 2 * spacing + rest; is = inl (rest, inr h, refl); least = omega arith })
crossing_on whole on is spacing rest EE1 C22 begun h = inl (record { total = 4 * spacing + rest; is = inr (rest, h, refl); least = omega arith })
crossing_on whole on is spacing rest EE2 C00 begun h = absurd h
crossing_on whole on is spacing rest EE2 C11 begun h = absurd h
crossing_on whole on is spacing rest EE2 C20 begun h = absurd h
crossing_on whole on is spacing rest EE2 C02 begun h = absurd h
crossing_on whole on is spacing rest EE2 C22 begun h = inl (record { total = 4 * spacing + rest; is = (rest, h, refl); least = omega arith })
crossing_on whole on is spacing rest Z00 cross begun h = absurd (closed begun)
  where
    closed : IsTrue false → ⊥
    closed e = absurd (cc)
crossing_on whole on is spacing rest Z01 cross begun h = absurd (closed begun)
  where
    closed : IsTrue false → ⊥
    closed e = absurd (cc)

-- a way through an aisle that isn't needed, and its length
abbrev pub IsPlain : ℕ → Way → ℕ → Type 0
IsPlain whole Pass long = long ≡ whole
IsPlain whole Back long = ⊥
IsPlain whole Front long = ⊥
IsPlain whole Gap long = ⊥
IsPlain whole Double long = long ≡ 2 * whole
IsPlain whole Skip long = long ≡ 0

-- a tour comes by a run to a class and goes on from there, and both are at most so long
pub record Meets (come on : Class → ℕ → Type 0) (span most : ℕ) : Type 0 where
  pub class : Class
  pub so_far : ℕ
  pub rest : ℕ
  pub reaches : Reaches come span class so_far
  pub goes : on class rest
  pub least : so_far + rest ≤ most

abbrev joined : {A : Type 0} → A ⊎ A → A
joined both = ⊎_elim (λ a. a) (λ a. a) both

-- after a run, a way through an aisle that isn't needed, and one crossing more: the run one crossing longer does as well
pub way_on : (whole : ℕ) (come on : Class → ℕ → Type 0) → Absorbs whole come → Continues whole on → (span spacing t long s : ℕ) (class : Class) (way : Way) →
    IsPlain whole way long → Reaches come span class t → OnFrom (Along on spacing) (class_after_way class way) s → Meets come on (span + spacing) (t + long + s)
way_on whole come on absorbs is span spacing t long s = go
  where
    by_UU1 : (so rest most : ℕ) → come UU1 so → on UU1 rest → so + 2 * (span + spacing) + rest ≤ most → Meets come on (span + spacing) most
    by_UU1 so rest most f g le = record { class = UU1; so_far = so + 2 * (span + spacing); rest = rest; reaches = (so, f, refl); goes = g; least = le }

    by_E01 : (so rest most : ℕ) → come E01 so ⊎ come EE1 so → on E01 rest → so + 2 * (span + spacing) + rest ≤ most → Meets come on (span + spacing) most
    by_E01 so rest most f g le = record { class = E01; so_far = so + 2 * (span + spacing); rest = rest; reaches = (so, f, refl); goes = g; least = le }

    by_ZE1 : (so rest most : ℕ) → come ZE1 so ⊎ come EE1 so → on ZE1 rest → so + 2 * (span + spacing) + rest ≤ most → Meets come on (span + spacing) most
    by_ZE1 so rest most f g le = record { class = ZE1; so_far = so + 2 * (span + spacing); rest = rest; reaches = (so, f, refl); goes = g; least = le }

    by_EE1 : (so rest most : ℕ) → come EE1 so → on EE1 rest → so + 4 * (span + spacing) + rest ≤ most → Meets come on (span + spacing) most
    by_EE1 so rest most f g le = record { class = EE1; so_far = so + 4 * (span + spacing); rest = rest; reaches = (so, f, refl); goes = g; least = le }

    by_EE2 : (so rest most : ℕ) → come EE2 so → on EE2 rest → so + 4 * (span + spacing) + rest ≤ most → Meets come on (span + spacing) most
    by_EE2 so rest most f g le = record { class = EE2; so_far = so + 4 * (span + spacing); rest = rest; reaches = (so, f, refl); goes = g; least = le }

    -- on from EE1, where the tour can come to EE1 so far, and goes on past both ends no better than this
    from_EE1 : (so most : ℕ) → come EE1 so → Along on spacing EE1 s → so + 2 * span + s ≤ most →
        ((rest : ℕ) → on EE1 rest → s ≡ 4 * spacing + rest → Meets come on (span + spacing) most) → Meets come on (span + spacing) most
    from_EE1 so most f (inl (rest, inl g, e)) le both = by_E01 so rest most (inr f) g (omega arith)
    from_EE1 so most f (inl (rest, inr g, e)) le both = by_ZE1 so rest most (inr f) g (omega arith)
    from_EE1 so most f (inr (rest, g, e)) le both = both rest g e

    go : (class : Class) (way : Way) → IsPlain whole way long → Reaches come span class t → OnFrom (Along on spacing) (class_after_way class way) s
        → Meets come on (span + spacing) (t + long + s)
    go UU1 Pass l (so, f, e) h =
        let more = absorbs.pass UU1 EE1 so refl f in
        from_EE1 more.total _ more.is h (omega (arith, more.least))
        (λ rest g e'. let less = is.pass UU1 rest g in by_UU1 so less.total _ f less.is (omega (arith, less.least)))
    go UU1 Back l r h = absurd l
    go UU1 Front l r h = absurd l
    go UU1 Gap l r h = absurd l
    go UU1 Double l (so, f, e) (rest, g, e') = by_UU1 so rest _ f g (omega arith)
    go UU1 Skip l (so, f, e) (rest, g, e') = by_UU1 so rest _ f g (omega arith)
    go E01 Pass l (so, f, e) (rest, g, e') = let less = is.pass E01 rest g in by_E01 so less.total _ f less.is (omega (arith, less.least))
    go E01 Back l r h = absurd l
    go E01 Front l r h = absurd l
    go E01 Gap l r h = absurd l
    go E01 Double l (so, f, e) (inl (rest, inl g, e')) = by_E01 so rest _ f g (omega arith)
    go E01 Double l (so, inl f, e) (inl (rest, inr g, e')) =
        let more = absorbs.double E01 EE1 so refl f in by_ZE1 more.total rest _ (inr more.is) g (omega (arith, more.least))
    go E01 Double l (so, inr f, e) (inl (rest, inr g, e')) = by_ZE1 so rest _ (inr f) g (omega arith)
    go E01 Double l (so, f, e) (inr (rest, g, e')) = let less = is.double E01 rest g in by_E01 so less.total _ f less.is (omega (arith, less.least))
    go E01 Skip l (so, f, e) (rest, g, e') = by_E01 so rest _ f g (omega arith)
    go ZE1 Pass l (so, f, e) (rest, g, e') = let less = is.pass ZE1 rest g in by_ZE1 so less.total _ f less.is (omega (arith, less.least))
    go ZE1 Back l r h = absurd l
    go ZE1 Front l r h = absurd l
    go ZE1 Gap l r h = absurd l
    go ZE1 Double l (so, f, e) (inl (rest, inr g, e')) = by_ZE1 so rest _ f g (omega arith)
    go ZE1 Double l (so, inl f, e) (inl (rest, inl g, e')) =
        let more = absorbs.double ZE1 EE1 so refl f in by_E01 more.total rest _ (inr more.is) g (omega (arith, more.least))
    go ZE1 Double l (so, inr f, e) (inl (rest, inl g, e')) = by_E01 so rest _ (inr f) g (omega arith)
    go ZE1 Double l (so, f, e) (inr (rest, g, e')) = let less = is.double ZE1 rest g in by_ZE1 so less.total _ f less.is (omega (arith, less.least))
    go ZE1 Skip l (so, f, e) (rest, g, e') = by_ZE1 so rest _ f g (omega arith)
    go EE1 Pass l (so, f, e) (rest, g, e') = let less = is.pass E01 rest g in by_E01 so less.total _ (inr f) less.is (omega (arith, less.least))
    go EE1 Back l r h = absurd l
    go EE1 Front l r h = absurd l
    go EE1 Gap l r h = absurd l
    go EE1 Double l (so, f, e) h = from_EE1 so _ f h (omega arith) (λ rest g e'. by_EE1 so rest _ f g (omega arith))
    go EE1 Skip l (so, f, e) h = from_EE1 so _ f h (omega arith) (λ rest g e'. by_EE1 so rest _ f g (omega arith))
    go EE2 Pass l (so, f, e) (rest, g, e') =
        let more = absorbs.pass EE2 UU1 so refl f in by_UU1 more.total rest _ more.is g (omega (arith, more.least))
    go EE2 Back l r h = absurd l
    go EE2 Front l r h = absurd l
    go EE2 Gap l r h = absurd l
    go EE2 Double l (so, f, e) h =
        let more = absorbs.double EE2 EE1 so refl f in
        from_EE1 more.total _ more.is h (omega (arith, more.least))
        (λ rest g e'. let less = is.double EE2 rest g in by_EE2 so less.total _ f less.is (omega (arith, less.least)))
    go EE2 Skip l (so, f, e) (rest, g, e') = by_EE2 so rest _ f g (omega arith)
    go Z00 way l r h = absurd r
    go Z01 way l r h = absurd r
