-- A way on over a run by crossings of one kind is a way on.
use Rattle.std.proofs.Common.{◌≡◌, ℕ, zero, suc, ◌+◌, ◌*◌, ◌⊎◌, IsTrue, Some, arith, inl, inr, refl, sym, subst, ⊎_elim}
use Rattle.std.proofs.lemmas.Bool.{false≢true}
use Rattle.wp_graph.specs.declared.ways.AisleWays.{AisleWays}
use Rattle.wp_classes.specs.declared.class.Class.{Class}
use Rattle.wp_classes.specs.declared.class.Class.TheVariants.{UU1, E01, ZE1, EE1, EE2, Z00, Z01}
use Rattle.wp_classes.specs.declared.class.Way.TheVariants.{Skip}
use Rattle.wp_classes.specs.declared.class.Cross.{Cross}
use Rattle.wp_classes.specs.declared.class.Cross.TheVariants.{C00, C11, C20, C02, C22}
use Rattle.wp_classes.specs.Choices.{Block}
use Rattle.wp_classes.specs.Onward.{Onward, Through}
use Rattle.wp_classes.specs.Tables.{class_after_cross, copies, is_whole}
use Rattle.wp_fast.proofs.Alone.{IsEven, skip_stays}
use Rattle.wp_fast.proofs.OverRuns.{Along, GoesOver, is_closed, needed_or}
use Rattle.wp_fast.proofs.Steps.{ThroughAndOn}

through_map : (one other : Class → ℕ → Type 0) → ((class : Class) (r : ℕ) → one class r → other class r) → (ways : AisleWays) (class : Class) (t : ℕ) →
    Through one ways class t → Through other ways class t
through_map one other to ways class t (way, (next, through, rest, takes, goes, total)) = (way, (next, through, rest, takes, to next rest goes, total))

-- over an aisle that isn't needed by a crossing
pub skip_over : (block : Block) → (left aisle nothing : ℕ) → (block.ways aisle).skip ≡ Some nothing → (class next : Class) (cross : Cross) (r : ℕ) →
    class_after_cross class cross ≡ Some next → ThroughAndOn block left (suc aisle) next r
    → ThroughAndOn block (suc left) aisle class (nothing + (copies cross * block.spacing aisle + r))
skip_over block left aisle nothing some class next cross r leads h = (
  Skip,
  (
    class,
    nothing,
    copies cross * block.spacing aisle + r,
    record { allowed = skip_stays class; applies = some },
    (cross, (next, copies cross * block.spacing aisle, r, record { allowed = leads; length_is = refl }, h, refl)),
    refl,
  ),
)

closed_whole : (class : Class) → IsTrue (is_closed class) → IsTrue (is_whole class) × (class_after_cross class C00 ≡ Some Z01)
closed_whole UU1 closed = absurd (false≢true closed)
closed_whole E01 closed = (refl, refl)
closed_whole ZE1 closed = (refl, refl)
closed_whole EE1 closed = (refl, refl)
closed_whole EE2 closed = absurd (false≢true closed)
closed_whole Z00 closed = absurd (false≢true closed)
closed_whole Z01 closed = absurd (false≢true closed)

-- over a run that begins at this aisle, or the tour is closed and done
abbrev RunsOn : Block → ℕ → ℕ → ℕ → Class → ℕ → Type 0
RunsOn block left aisle span class total =
    Along (λ next rest. ThroughAndOn block left (suc aisle) next rest) (span + block.spacing aisle) class total
    ⊎ (IsTrue (is_closed class) × ThroughAndOn block left (suc aisle) Z01 total)

-- a run over one aisle more
runs_further : (block : Block) (left aisle span nothing : ℕ) → (block.ways (suc aisle)).skip ≡ Some nothing → nothing ≡ 0 → (class : Class) (t : ℕ) →
    RunsOn block left (suc aisle) (span + block.spacing aisle) class t → RunsOn block (suc left) aisle span class t
runs_further block left aisle span nothing some is class t = go class
  where
    far : ℕ
    far = block.spacing (suc aisle)

    over : (class next : Class) (cross : Cross) (r : ℕ) → class_after_cross class cross ≡ Some next → ThroughAndOn block left (suc (suc aisle)) next r →
        ThroughAndOn block (suc left) (suc aisle) class (nothing + (copies cross * far + r))
    over class next cross r leads h = skip_over block left (suc aisle) nothing some class next cross r leads h

    go : (class : Class) → RunsOn block left (suc aisle) (span + block.spacing aisle) class t → RunsOn block (suc left) aisle span class t
    go UU1 (inl (r, h, e)) = inl (nothing + (2 * far + r), over UU1 UU1 C11 r refl h, omega (arith, is))
    go E01 (inl (r, h, e)) = inl (nothing + (2 * far + r), over E01 E01 C20 r refl h, omega (arith, is))
    go ZE1 (inl (r, h, e)) = inl (nothing + (2 * far + r), over ZE1 ZE1 C02 r refl h, omega (arith, is))
    go EE1 (inl (inl (r, inl h, e))) = inl (inl (nothing + (2 * far + r), inl (over E01 E01 C20 r refl h), omega (arith, is)))
    go EE1 (inl (inl (r, inr h, e))) = inl (inl (nothing + (2 * far + r), inr (over ZE1 ZE1 C02 r refl h), omega (arith, is)))
    go EE1 (inl (inr (r, h, e))) = inl (inr (nothing + (4 * far + r), over EE1 EE1 C22 r refl h, omega (arith, is)))
    go EE2 (inl (r, h, e)) = inl (nothing + (4 * far + r), over EE2 EE2 C22 r refl h, omega (arith, is))
    go Z00 (inl h) = absurd h
    go Z01 (inl h) = absurd h
    go class (inr (closed, h)) =
        let same : nothing + (0 * far + t) ≡ t = omega (arith, is) in
        inr (closed, subst (λ u. ThroughAndOn block (suc left) (suc aisle) Z01 u) same (over Z01 Z01 C00 t refl h))

-- the first crossing of a run
crosses_first : (block : Block) (left aisle : ℕ) (class : Class) (t : ℕ) → RunsOn block left aisle 0 class t → Onward block (suc left) aisle class t
crosses_first block left aisle class t = go class
  where
    sp : ℕ
    sp = block.spacing aisle

    on : Class → ℕ → Type 0
    on next rest = ThroughAndOn block left (suc aisle) next rest

    over : (class next : Class) (cross : Cross) (r : ℕ) → class_after_cross class cross ≡ Some next → on next r → t ≡ copies cross * sp + r →
        Onward block (suc left) aisle class t
    over class next cross r leads h e = (cross, (next, copies cross * sp, r, record { allowed = leads; length_is = refl }, h, e))

    go : (class : Class) → RunsOn block left aisle 0 class t → Onward block (suc left) aisle class t
    go UU1 (inl (r, h, e)) = over UU1 UU1 C11 r refl h (omega arith)
    go E01 (inl (r, h, e)) = over E01 E01 C20 r refl h (omega arith)
    go ZE1 (inl (r, h, e)) = over ZE1 ZE1 C02 r refl h (omega arith)
    go EE1 (inl (inl (r, inl h, e))) = over EE1 E01 C20 r refl h (omega arith)
    go EE1 (inl (inl (r, inr h, e))) = over EE1 ZE1 C02 r refl h (omega arith)
    go EE1 (inl (inr (r, h, e))) = over EE1 EE1 C22 r refl h (omega arith)
    go EE2 (inl (r, h, e)) = over EE2 EE2 C22 r refl h (omega arith)
    go Z00 (inl h) = absurd h
    go Z01 (inl h) = absurd h
    go class (inr (closed, h)) = over class Z01 C00 t (closed_whole class closed).1 h (omega arith)

-- from the next aisle on, by crossings of one kind
within : (whole : ℕ) (block : Block) → IsEven whole block → (left aisle span : ℕ) (class : Class) (t : ℕ) → GoesOver block (suc left) aisle span class t →
    RunsOn block left aisle span class t
within whole block even zero aisle span class t h = ⊎_elim (λ n. inl n.1)
    (λ s.
    let is = (even.spare (suc aisle) s.0 s.1).skip in
    inr (
      s.2.0,
      subst (λ u. ThroughAndOn block zero (suc aisle) Z01 u) (sym s.2.1) (Skip, (Z01, 0, 0, record { allowed = refl; applies = is }, (refl, refl), refl)),
    ))
    (needed_or (block.ways (suc aisle)) _ _ h)
within whole block even (suc left) aisle span class t h = ⊎_elim (λ n. inl n.1)
    (λ s.
    let is = (even.spare (suc aisle) s.0 s.1).skip in
    runs_further block left aisle span 0 is refl class t (within whole block even left (suc aisle) (span + block.spacing aisle) class t s.2))
    (needed_or (block.ways (suc aisle)) _ _ h)

goes_on : (whole : ℕ) (block : Block) → IsEven whole block → (left aisle : ℕ) (class : Class) (t : ℕ) → GoesOver block left aisle 0 class t
    → Onward block left aisle class t
goes_on whole block even zero aisle class t (closed, e) = ((closed_whole class closed).0, e)
goes_on whole block even (suc left) aisle class t h = crosses_first block left aisle class t (within whole block even left aisle 0 class t h)

-- through an aisle, and then so over the run behind it
pub through_on : (whole : ℕ) (block : Block) → IsEven whole block → (left aisle : ℕ) (class : Class) (t : ℕ) →
    Through (λ next more. GoesOver block left aisle 0 next more) (block.ways aisle) class t → ThroughAndOn block left aisle class t
through_on whole block even left aisle class t h =
    through_map (λ c r. GoesOver block left aisle 0 c r) (λ c r. Onward block left aisle c r) (λ c r. goes_on whole block even left aisle c r)
    (block.ways aisle) class t h
