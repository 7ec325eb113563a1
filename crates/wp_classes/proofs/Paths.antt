-- Paths, joined where they meet, along an aisle and across to the next.
use Rattle.std.proofs.Common.{◌≡◌, ℕ, zero, suc, ◌+◌, ◌≤◌, ◌<◌, List, [], ◌∷◌, ◌++◌, arith, refl, sym, ap, subst, inl, inr, ◌⊎◌, ⊎_elim}
use Rattle.std.proofs.lemmas.Bool.{cases_eq}
use Rattle.wp_model.specs.declared.point.Point.{Point}
use Rattle.wp_model.specs.Warehouse.{Layout, IsFurther, IsMove, IsUpTo, back_end, spacing_after, step_length}
use Rattle.wp_model.specs.Warehouse.Step.{back, deeper, further, nearer}
use Rattle.wp_graph.specs.Required.{distance}
use Rattle.wp_classes.specs.Paths.{On, Path, ahead, at, behind}

-- two paths that meet are one, as long as both
pub path_join : (layout : Layout) (from mid to : Point) (first second : List Point) (s t : ℕ) → Path layout from first mid s → Path layout mid second to t
    → Path layout from (first ++ second) to (s + t)
path_join layout from mid to [] second s t one two =
    let sum : t ≡ s + t = omega (arith, one.1) in
    subst (λ (p : Point). Path layout p second to (s + t)) (sym one.0) (subst (λ (n : ℕ). Path layout mid second to n) sum two)
path_join layout from mid to (next ∷ first) second s t (step, rest, move, path, total) two =
    (step, rest + t, move, path_join layout next mid to first second rest t path two, omega (arith, total))

-- a path has the point at which it begins
pub on_start : (from : Point) (points : List Point) → On from points from
on_start from [] = refl
on_start from (next ∷ points) = inl refl

-- a point of the first of two paths lies on both joined
pub on_first : (from : Point) (first second : List Point) (p : Point) → On from first p → On from (first ++ second) p
on_first from [] [] p h = h
on_first from [] (q ∷ second) p h = inl h
on_first from (next ∷ first) second p (inl e) = inl e
on_first from (next ∷ first) second p (inr h) = inr (on_first next first second p h)

-- a point of the second of two paths that meet lies on both joined
pub on_second : (layout : Layout) (from mid : Point) (first second : List Point) (s : ℕ) (p : Point) → Path layout from first mid s → On mid second p
    → On from (first ++ second) p
on_second layout from mid [] second s p path h = subst (λ (q : Point). On q second p) (sym path.0) h
on_second layout from mid (next ∷ first) second s p (step, rest, move, path, total) h = inr (on_second layout next mid first second rest p path h)

-- where a path ends
pub on_end : (layout : Layout) (from to : Point) (points : List Point) (t : ℕ) → Path layout from points to t → On from points to
on_end layout from to [] t path = path.0
on_end layout from to (next ∷ points) t (step, rest, move, path, total) = inr (on_end layout next to points rest path)

-- so many places on in an aisle are a path, as long as the distances of its ends differ
pub path_ahead : (layout : Layout) (aisle place n : ℕ) → IsUpTo layout.aisles aisle → place + n ≤ back_end layout → (t : ℕ)
    × Path layout (at aisle place) (ahead aisle place n) (at aisle (place + n)) t × (distance layout place + t ≡ distance layout (place + n))
path_ahead layout aisle place zero within short =
    let same : place ≡ place + 0 = omega arith in
    (0, (ap (λ s. at aisle s) same, refl), omega (arith, ap (λ s. distance layout s) same))
path_ahead layout aisle place (suc n) within short =
    let rest = path_ahead layout aisle (suc place) n within (omega arith) in
    let same : suc place + n ≡ place + suc n = omega arith in
    let move : IsMove layout (at aisle place) (at aisle (suc place)) (step_length layout place) = record {
      from_point = record { aisle = within; slot = omega arith };
      to_point = record { aisle = within; slot = omega arith };
      step = deeper (record { aisle = refl; slot = omega arith; length_is = refl });
    } in
    let far = ap (λ s. distance layout s) same in (
      step_length layout place + rest.0,
      (
        step_length layout place,
        rest.0,
        move,
        subst (λ (s : ℕ). Path layout (at aisle (suc place)) (ahead aisle (suc place) n) (at aisle s) rest.0) same
            rest.1,
        refl,
      ),
      omega (arith, rest.2, far),
    )

-- so many places back in an aisle are a path, as long as the distances of its ends differ
pub path_behind : (layout : Layout) (aisle place n : ℕ) → IsUpTo layout.aisles aisle → place + n ≤ back_end layout → (t : ℕ)
    × Path layout (at aisle (place + n)) (behind aisle place n) (at aisle place) t × (distance layout place + t ≡ distance layout (place + n))
path_behind layout aisle place zero within short =
    let same : place + 0 ≡ place = omega arith in
    (0, (ap (λ s. at aisle s) same, refl), omega (arith, ap (λ s. distance layout s) same))
path_behind layout aisle place (suc n) within short =
    let rest = path_behind layout aisle place n within (omega arith) in
    let same : suc (place + n) ≡ place + suc n = omega arith in
    let move : IsMove layout (at aisle (place + suc n)) (at aisle (place + n)) (step_length layout (place + n)) = record {
      from_point = record { aisle = within; slot = omega arith };
      to_point = record { aisle = within; slot = omega arith };
      step = nearer (record { aisle = refl; slot = omega arith; length_is = refl });
    } in
    let far = ap (λ s. distance layout s) same in (
      step_length layout (place + n) + rest.0,
      (step_length layout (place + n), rest.0, move, rest.1, refl),
      omega (arith, rest.2, far),
    )

-- each place between its ends lies on the path on in an aisle
pub on_ahead : (aisle place n s : ℕ) → place ≤ s → s ≤ place + n → On (at aisle place) (ahead aisle place n) (at aisle s)
on_ahead aisle place zero s low high = ap (λ x. at aisle x) (omega arith)
on_ahead aisle place (suc n) s low high =
    ⊎_elim (λ e. inl (ap (λ x. at aisle x) e)) (λ ne. inr (on_ahead aisle (suc place) n s (omega arith) (omega arith))) (cases_eq place s)

-- each place between its ends lies on the path back in an aisle
pub on_behind : (aisle place n s : ℕ) → place ≤ s → s ≤ place + n → On (at aisle (place + n)) (behind aisle place n) (at aisle s)
on_behind aisle place zero s low high = ap (λ x. at aisle x) (omega arith)
on_behind aisle place (suc n) s low high =
    ⊎_elim (λ e. inl (ap (λ x. at aisle x) e)) (λ ne. inr (on_behind aisle place n s low (omega arith))) (cases_eq (place + suc n) s)

-- across to the next aisle and back, at one of the ends
pub record IsCrossway (layout : Layout) (aisle end : ℕ) : Type 0 where
  pub low : 1 ≤ aisle
  pub high : aisle < layout.aisles
  pub is_end : (end ≡ 0) ⊎ (end ≡ back_end layout)

end_within : (layout : Layout) (end : ℕ) → (end ≡ 0) ⊎ (end ≡ back_end layout) → end ≤ back_end layout
end_within layout end h = ⊎_elim (λ e. omega (arith, e)) (λ e. omega (arith, e)) h

-- a move back to the aisle before is a path, as long as the spacing
pub path_left : (layout : Layout) (aisle end : ℕ) → IsCrossway layout aisle end
    → Path layout (at (suc aisle) end) (at aisle end ∷ []) (at aisle end) (spacing_after layout aisle)
path_left layout aisle end h =
    let within = end_within layout end h.is_end in
    let across : IsFurther layout (at aisle end) (at (suc aisle) end) (spacing_after layout aisle) =
    record { end = h.is_end; aisle = omega arith; slot = refl; length_is = refl } in (
      spacing_after layout aisle,
      0,
      record {
        from_point = record { aisle = (omega arith, h.high); slot = within };
        to_point = record { aisle = (h.low, omega (arith, h.high)); slot = within };
        step = back across;
      },
      (refl, refl),
      omega arith,
    )

-- a move to the next aisle is a path, as long as the spacing
pub path_right : (layout : Layout) (aisle end : ℕ) → IsCrossway layout aisle end
    → Path layout (at aisle end) (at (suc aisle) end ∷ []) (at (suc aisle) end) (spacing_after layout aisle)
path_right layout aisle end h =
    let within = end_within layout end h.is_end in
    let across : IsFurther layout (at aisle end) (at (suc aisle) end) (spacing_after layout aisle) =
    record { end = h.is_end; aisle = omega arith; slot = refl; length_is = refl } in (
      spacing_after layout aisle,
      0,
      record {
        from_point = record { aisle = (h.low, omega (arith, h.high)); slot = within };
        to_point = record { aisle = (omega arith, h.high); slot = within };
        step = further across;
      },
      (refl, refl),
      omega arith,
    )
