-- Over a run of aisles that aren't needed by crossings of one kind, from one needed aisle to the next.
use Rattle.std.proofs.Common.{◌≡◌, ℕ, zero, suc, ◌+◌, ◌*◌, ◌↔◌, ◌⊎◌, Bool, true, false, IsTrue, MatchOption, Option, Some, None, arith, inl, inr, refl}
use Rattle.std.proofs.Common.{sym, ap, ◌∙◌, subst, ⊎_elim}
use Rattle.std.proofs.lemmas.Option.{none-some}
use Rattle.wp_model.specs.Sums.{sum_below}
use Rattle.wp_graph.specs.declared.ways.AisleWays.{AisleWays}
use Rattle.wp_classes.specs.declared.class.Class.{Class}
use Rattle.wp_classes.specs.declared.class.Class.TheVariants.{UU1, E01, ZE1, EE1, EE2, Z00, Z01}
use Rattle.wp_classes.specs.Choices.{Block}
use Rattle.wp_fast.specs.SpareRuns.{NoneBetween}
use Rattle.wp_fast.proofs.Steps.{ThroughAndOn}

-- An aisle is needed where it can't be skipped, as a tour must pass a place of it. Where it is, and where it isn't:
abbrev pub WhereNeeded : AisleWays → Type 0 → Type 0 → Type 0
WhereNeeded ways needed spared = MatchOption ways.skip needed (λ nothing. spared)

-- a tour is closed in these classes, and may end there
abbrev pub is_closed : Class → Bool
is_closed UU1 = false
is_closed E01 = true
is_closed ZE1 = true
is_closed EE1 = true
is_closed EE2 = false
is_closed Z00 = false
is_closed Z01 = false

-- From a class over a run of crossings that are so long together, all of one kind, and on from the class after them: one
-- behind and one in front where a pass is open, two behind or two in front, or two of each.
abbrev pub Along : (Class → ℕ → Type 0) → ℕ → Class → ℕ → Type 0
Along on span UU1 total = (rest : ℕ) × on UU1 rest × (total ≡ 2 * span + rest)
Along on span E01 total = (rest : ℕ) × on E01 rest × (total ≡ 2 * span + rest)
Along on span ZE1 total = (rest : ℕ) × on ZE1 rest × (total ≡ 2 * span + rest)
Along on span EE1 total =
    ((rest : ℕ) × (on E01 rest ⊎ on ZE1 rest) × (total ≡ 2 * span + rest)) ⊎ ((rest : ℕ) × on EE1 rest × (total ≡ 4 * span + rest))
Along on span EE2 total = (rest : ℕ) × on EE2 rest × (total ≡ 4 * span + rest)
Along on span Z00 total = ⊥
Along on span Z01 total = ⊥

pub when_needed : (ways : AisleWays) (A B : Type 0) → ways.skip ≡ None → A → WhereNeeded ways A B
when_needed ways A B none a = subst (λ (o : Option ℕ). MatchOption o A (λ nothing. B)) (sym none) a

pub when_spared : (ways : AisleWays) (A B : Type 0) (nothing : ℕ) → ways.skip ≡ Some nothing → B → WhereNeeded ways A B
when_spared ways A B nothing some b = subst (λ (o : Option ℕ). MatchOption o A (λ nothing. B)) (sym some) b

-- what is said where an aisle is needed and where it isn't
pub needed_or : (ways : AisleWays) (A B : Type 0) → WhereNeeded ways A B → ((ways.skip ≡ None) × A) ⊎ ((nothing : ℕ) × (ways.skip ≡ Some nothing) × B)
needed_or ways A B h = go ways.skip refl h
  where
    go : (skip : Option ℕ) → ways.skip ≡ skip → MatchOption skip A (λ nothing. B) → ((ways.skip ≡ None) × A) ⊎ ((nothing : ℕ) × (ways.skip ≡ Some nothing) × B)
    go None e a = inl (e, a)
    go (Some nothing) e b = inr (nothing, e, b)

-- From a class after the way through an aisle, with so many more aisles behind, and crossings from the needed aisle before to this one
-- that are so long together: by crossings of one kind to the next needed aisle, and on from there in any way. Where none is needed
-- any more, the tour is closed.
abbrev pub GoesOver : Block → ℕ → ℕ → ℕ → Class → ℕ → Type 0
GoesOver block zero aisle span class total = IsTrue (is_closed class) × (total ≡ 0)
GoesOver block (suc left) aisle span class total =
    WhereNeeded (block.ways (suc aisle)) (Along (ThroughAndOn block left (suc aisle)) (span + block.spacing aisle) class total)
    (GoesOver block left (suc aisle) (span + block.spacing aisle) class total)

-- the next aisle is needed
next_needed : (block : Block) (left aisle span : ℕ) → (block.ways (suc aisle)).skip ≡ None → (class : Class) (t : ℕ) →
    GoesOver block (suc left) aisle span class t ↔ Along (ThroughAndOn block left (suc aisle)) (span + block.spacing aisle) class t
next_needed block left aisle span none class t = (
  λ h. ⊎_elim (λ n. n.1) (λ s. absurd (none-some _ (sym none ∙ s.1))) (needed_or (block.ways (suc aisle)) _ _ h),
  λ h. when_needed (block.ways (suc aisle)) _ _ none h,
)

-- it isn't
next_spared : (block : Block) (left aisle span nothing : ℕ) → (block.ways (suc aisle)).skip ≡ Some nothing → (class : Class) (t : ℕ) →
    GoesOver block (suc left) aisle span class t ↔ GoesOver block left (suc aisle) (span + block.spacing aisle) class t
next_spared block left aisle span nothing some class t = (
  λ h. ⊎_elim (λ n. absurd (none-some _ (sym n.0 ∙ some))) (λ s. s.2) (needed_or (block.ways (suc aisle)) _ _ h),
  λ h. when_spared (block.ways (suc aisle)) _ _ nothing some h,
)

-- the crossings over so many aisles and one more, from this aisle on
pub far : (ℕ → ℕ) → ℕ → ℕ → ℕ
far spacing zero aisle = spacing aisle
far spacing (suc between) aisle = spacing aisle + far spacing between (suc aisle)

-- they are as long as the last of those aisles and the next one lie apart
pub far_is : (spacing : ℕ → ℕ) (between aisle : ℕ) → sum_below aisle spacing + far spacing between aisle ≡ sum_below (aisle + between + 1) spacing
unfolding far
far_is spacing zero aisle = let one : aisle + 0 + 1 ≡ suc aisle = omega arith in ap (λ n. sum_below n spacing) (sym one)
far_is spacing (suc between) aisle =
    let same : suc aisle + between + 1 ≡ aisle + suc between + 1 = omega arith in
    let rest = far_is spacing between (suc aisle) ∙ ap (λ n. sum_below n spacing) same in omega (arith, rest)

-- so many aisles aren't needed, and the one behind them is
pub to_needed : (block : Block) (between more left aisle later span : ℕ) →
    more ≡ between + suc left → later ≡ aisle + suc between → NoneBetween block aisle later → (block.ways later).skip ≡ None → (class : Class) (t : ℕ) →
    GoesOver block more aisle span class t ↔ Along (ThroughAndOn block left later) (span + far block.spacing between aisle) class t
unfolding far
to_needed block zero more left aisle later span m l none needed class t =
    let is_more : more ≡ suc left = omega arith in
    let is_later : later ≡ suc aisle = omega arith in
    let here = next_needed block left aisle span (subst (λ a. (block.ways a).skip ≡ None) is_later needed) class t in
    subst (λ n. GoesOver block n aisle span class t ↔ Along (ThroughAndOn block left later) (span + block.spacing aisle) class t) (sym is_more)
    (subst (λ a. GoesOver block (suc left) aisle span class t ↔ Along (ThroughAndOn block left a) (span + block.spacing aisle) class t) (sym is_later) here)
to_needed block (suc between) more left aisle later span m l none needed class t =
    let is_more : more ≡ suc (between + suc left) = omega arith in
    let next = none (suc aisle) (omega arith) (omega arith) in
    let here = next_spared block (between + suc left) aisle span next.0 next.1 class t in
    let rest = to_needed block between (between + suc left) left (suc aisle) later (span + block.spacing aisle) refl (omega arith)
    (λ a low high. none a (omega arith) high) needed class t in
    let is_far : span + block.spacing aisle + far block.spacing between (suc aisle) ≡ span + (block.spacing aisle + far block.spacing between (suc aisle)) =
    omega arith in
    subst (λ n. GoesOver block n aisle span class t
    ↔ Along (ThroughAndOn block left later) (span + (block.spacing aisle + far block.spacing between (suc aisle))) class t) (sym is_more)
    (subst (λ s. GoesOver block (suc (between + suc left)) aisle span class t ↔ Along (ThroughAndOn block left later) s class t) is_far
    (λ h. rest.0 (here.0 h), λ h. here.1 (rest.1 h)))

-- no aisle behind is needed
pub to_end : (block : Block) (left aisle span : ℕ) → NoneBetween block aisle (aisle + left + 1) → (class : Class) (t : ℕ) →
    GoesOver block left aisle span class t ↔ (IsTrue (is_closed class) × (t ≡ 0))
to_end block zero aisle span none class t = (λ h. h, λ h. h)
to_end block (suc left) aisle span none class t =
    let next = none (suc aisle) (omega arith) (omega arith) in
    let here = next_spared block left aisle span next.0 next.1 class t in
    let rest = to_end block left (suc aisle) (span + block.spacing aisle) (λ a low high. none a (omega arith) (omega arith)) class t in
    (λ h. rest.0 (here.0 h), λ h. here.1 (rest.1 h))
