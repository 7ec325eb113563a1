-- Depths of an aisle: what the deepest pick and the gap tell of the others.
use Rattle.std.proofs.Common.{◌≡◌, ℕ, zero, suc, ◌+◌, ◌<◌, ◌≤◌, Bool, true, false, nat_lt, if◌then◌else◌, arith, refl, sym, ap, ◌∙◌, subst, inl, inr, ◌⊎◌}
use Rattle.std.proofs.lemmas.Bool.{cases_Bool, cases_eq, cond-true, cond-false, false≢true}
use Rattle.wp_model.specs.Warehouse.{Layout}
use Rattle.wp_rules.specs.Rules.{deepest_where, wider, widest_where, width}
use Rattle.wp_rules.specs.declared.gap.Gap.{Gap}

deepest-suc : (test : ℕ → Bool) (n : ℕ) → deepest_where test (suc n) ≡ (if test (suc n) then suc n else deepest_where test n)
unfolding deepest_where
deepest-suc test n = refl

pub deepest-zero : (test : ℕ → Bool) → deepest_where test 0 ≡ 0
unfolding deepest_where
deepest-zero test = refl

pub deepest_here : (test : ℕ → Bool) (n : ℕ) → test (suc n) ≡ true → deepest_where test (suc n) ≡ suc n
deepest_here test n e = deepest-suc test n ∙ cond-true (test (suc n)) (suc n) (deepest_where test n) e

pub deepest_before : (test : ℕ → Bool) (n : ℕ) → test (suc n) ≡ false → deepest_where test (suc n) ≡ deepest_where test n
deepest_before test n e = deepest-suc test n ∙ cond-false (test (suc n)) (suc n) (deepest_where test n) e

-- it is within, and no other is deeper
pub deepest-le : (test : ℕ → Bool) (n : ℕ) → deepest_where test n ≤ n
deepest-le test zero = omega (arith, deepest-zero test)
deepest-le test (suc n) = elim (cases_Bool (test (suc n))) [
  | inl passed ↦ omega (arith, deepest_here test n passed)
  | inr failed ↦ omega (arith, deepest_before test n failed, deepest-le test n)
]

pub none_deeper : (test : ℕ → Bool) (n depth : ℕ) → 1 ≤ depth → depth ≤ n → test depth ≡ true → depth ≤ deepest_where test n
none_deeper test zero depth low high picked = absurd (omega arith)
none_deeper test (suc n) depth low high picked = elim (cases_eq depth (suc n)) [
  | inl e ↦ omega (arith, e, deepest_here test n (sym (ap test e) ∙ picked))
  | inr ne ↦ elim (cases_Bool (test (suc n))) [
    | inl passed ↦ omega (arith, deepest_here test n passed)
    | inr failed ↦ omega (arith, deepest_before test n failed, none_deeper test n depth low (omega (arith, ne)) picked)
  ]
]

pub widest-zero : (layout : Layout) (test : ℕ → Bool) (last depth : ℕ) → widest_where layout test last depth 0 ≡ record { shallow = last; deep = depth }
unfolding widest_where
widest-zero layout test last depth = refl

pub widest-suc : (layout : Layout) (test : ℕ → Bool) (last depth n : ℕ) → widest_where layout test last depth (suc n)
    ≡ (if test depth then wider layout (record { shallow = last; deep = depth }) (widest_where layout test depth (suc depth) n)
    else widest_where layout test last (suc depth) n)
unfolding widest_where
widest-suc layout test last depth n = refl

-- a depth is no part of a gap
abbrev pub IsOff : Gap → ℕ → Type 0
IsOff gap depth = (depth ≤ gap.shallow) ⊎ (gap.deep ≤ depth)

-- a gap after a last depth, of the next so many, that parts no picks
pub record IsFree (test : ℕ → Bool) (last depth n : ℕ) (gap : Gap) : Type 0 where
  pub shallow : last ≤ gap.shallow
  pub order : gap.shallow < gap.deep
  pub deep : gap.deep ≤ depth + n
  pub off : (k : ℕ) → depth ≤ k → k < depth + n → test k ≡ true → IsOff gap k

one_of_two : (layout : Layout) (gap deeper : Gap) → (wider layout gap deeper ≡ gap) ⊎ (wider layout gap deeper ≡ deeper)
one_of_two layout gap deeper = elim (cases_Bool (nat_lt (width layout gap) (width layout deeper))) [
  | inl passed ↦ inr (cond-true (nat_lt (width layout gap) (width layout deeper)) deeper gap passed)
  | inr failed ↦ inl (cond-false (nat_lt (width layout gap) (width layout deeper)) deeper gap failed)
]

pub widest_free : (layout : Layout) (test : ℕ → Bool) (last depth n : ℕ) → last < depth
    → IsFree test last depth n (widest_where layout test last depth n)
widest_free layout test last depth zero before =
    subst (λ (gap : Gap). IsFree test last depth 0 gap) (sym (widest-zero layout test last depth)) (record {
      shallow = omega arith;
      order = before;
      deep = omega arith;
      off = λ k low high picked. absurd (omega arith);
    })
widest_free layout test last depth (suc n) before = elim (cases_Bool (test depth)) [
  | inl passed ↦
      let here : Gap = record { shallow = last; deep = depth } in
      let rest = widest_where layout test depth (suc depth) n in
      let later = widest_free layout test depth (suc depth) n (omega arith) in
      subst (λ (gap : Gap). IsFree test last depth (suc n) gap)
      (sym (widest-suc layout test last depth n ∙ cond-true (test depth) (wider layout here rest) (widest_where layout test last (suc depth) n) passed))
      (elim (one_of_two layout here rest) [
        | inl e ↦ subst (λ (gap : Gap). IsFree test last depth (suc n) gap) (sym e) (record {
          shallow = omega arith;
          order = before;
          deep = omega arith;
          off = λ k low high picked. inr low;
        })
        | inr e ↦ subst (λ (gap : Gap). IsFree test last depth (suc n) gap) (sym e) (record {
          shallow = omega (arith, later.shallow);
          order = later.order;
          deep = omega (arith, later.deep);
          off = λ k low high picked. elim (cases_eq k depth) [
            | inl same ↦ inl (omega (arith, same, later.shallow))
            | inr other ↦ later.off k (omega (arith, other)) (omega arith) picked
          ];
        })
      ])
  | inr failed ↦
      let rest = widest_where layout test last (suc depth) n in
      let later = widest_free layout test last (suc depth) n (omega arith) in
      subst (λ (gap : Gap). IsFree test last depth (suc n) gap)
      (sym (widest-suc layout test last depth n ∙ cond-false (test depth) (wider layout (record { shallow = last; deep = depth })
      (widest_where layout test depth (suc depth) n)) rest failed))
      (record {
        shallow = later.shallow;
        order = later.order;
        deep = omega (arith, later.deep);
        off = λ k low high picked. elim (cases_eq k depth) [
          | inl same ↦ absurd (false≢true (sym failed ∙ ap test (sym same) ∙ picked))
          | inr other ↦ later.off k (omega (arith, other)) (omega arith) picked
        ];
      })
]

-- the definitions, one depth on
pub deepest_there : (test : ℕ → Bool) (n m : ℕ) → n ≡ suc m → test n ≡ true → deepest_where test n ≡ n
deepest_there test n m e passed = ap (deepest_where test) e ∙ deepest_here test m (sym (ap test e) ∙ passed) ∙ sym e

pub deepest_shallower : (test : ℕ → Bool) (n m : ℕ) → n ≡ suc m → test n ≡ false → deepest_where test n ≡ deepest_where test m
deepest_shallower test n m e failed = ap (deepest_where test) e ∙ deepest_before test m (sym (ap test e) ∙ failed)

one_on : (n : ℕ) → suc n ≡ n + 1
one_on n = omega arith

pub widest_at_end : (layout : Layout) (test : ℕ → Bool) (last depth n : ℕ) → n ≡ 0 → widest_where layout test last depth n ≡ record {
  shallow = last;
  deep = depth;
}
widest_at_end layout test last depth n e = ap (λ k. widest_where layout test last depth k) e ∙ widest-zero layout test last depth

pub widest_at_pick : (layout : Layout) (test : ℕ → Bool) (last depth n m : ℕ) → n ≡ suc m → test depth ≡ true
    → widest_where layout test last depth n ≡ wider layout (record { shallow = last; deep = depth }) (widest_where layout test depth (depth + 1) m)
widest_at_pick layout test last depth n m e passed =
    ap (λ k. widest_where layout test last depth k) e ∙ widest-suc layout test last depth m
    ∙ cond-true (test depth) (wider layout (record { shallow = last; deep = depth }) (widest_where layout test depth (suc depth) m))
    (widest_where layout test last (suc depth) m) passed
    ∙ ap (λ k. wider layout (record { shallow = last; deep = depth }) (widest_where layout test depth k m)) (one_on depth)

pub widest_past : (layout : Layout) (test : ℕ → Bool) (last depth n m : ℕ) → n ≡ suc m → test depth ≡ false
    → widest_where layout test last depth n ≡ widest_where layout test last (depth + 1) m
widest_past layout test last depth n m e failed =
    ap (λ k. widest_where layout test last depth k) e ∙ widest-suc layout test last depth m
    ∙ cond-false (test depth) (wider layout (record { shallow = last; deep = depth }) (widest_where layout test depth (suc depth) m))
    (widest_where layout test last (suc depth) m) failed
    ∙ ap (λ k. widest_where layout test last k m) (one_on depth)
