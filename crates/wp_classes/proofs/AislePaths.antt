-- The paths along an aisle: its passes, and the ways from an end to a place and back.
use Rattle.std.proofs.Common.{◌≡◌, ℕ, ◌+◌, ◌-◌, ◌*◌, ◌≤◌, arith, ap, subst}
use Rattle.wp_model.specs.Warehouse.{Layout, IsUpTo, back_end}
use Rattle.wp_graph.specs.Required.{aisle_length, distance}
use Rattle.wp_classes.specs.Paths.{On, Path, ahead, at, behind, from_back, from_front, pass_down, pass_up}
use Rattle.wp_classes.proofs.Paths.{on_ahead, on_behind, on_first, path_ahead, path_behind, path_join}

-- a pass from the back end is as long as the aisle
pub down_path : (layout : Layout) (aisle : ℕ) → IsUpTo layout.aisles aisle
    → Path layout (at aisle (back_end layout)) (pass_down layout aisle) (at aisle 0) (aisle_length layout)
down_path layout aisle within =
    let end = back_end layout in
    let all : 0 + end ≡ end = omega arith in
    let path = path_behind layout aisle 0 end within (omega arith) in
    let far = ap (λ s. distance layout s) all in
    let length : path.0 ≡ aisle_length layout = omega (arith, path.2, far) in
    subst (λ (t : ℕ). Path layout (at aisle end) (pass_down layout aisle) (at aisle 0) t) length
    (subst (λ (s : ℕ). Path layout (at aisle s) (pass_down layout aisle) (at aisle 0) path.0) all path.1)

-- a pass from the front end is as long as the aisle
pub up_path : (layout : Layout) (aisle : ℕ) → IsUpTo layout.aisles aisle
    → Path layout (at aisle 0) (pass_up layout aisle) (at aisle (back_end layout)) (aisle_length layout)
up_path layout aisle within =
    let end = back_end layout in
    let all : 0 + end ≡ end = omega arith in
    let path = path_ahead layout aisle 0 end within (omega arith) in
    let far = ap (λ s. distance layout s) all in
    let length : path.0 ≡ aisle_length layout = omega (arith, path.2, far) in
    subst (λ (t : ℕ). Path layout (at aisle 0) (pass_up layout aisle) (at aisle end) t) length
    (subst (λ (s : ℕ). Path layout (at aisle 0) (pass_up layout aisle) (at aisle s) path.0) all path.1)

-- each place of the aisle is on the pass from the back end
pub on_down : (layout : Layout) (aisle s : ℕ) → s ≤ back_end layout → On (at aisle (back_end layout)) (pass_down layout aisle) (at aisle s)
on_down layout aisle s within =
    let all : 0 + back_end layout ≡ back_end layout = omega arith in
    subst (λ (e : ℕ). On (at aisle e) (pass_down layout aisle) (at aisle s)) all (on_behind aisle 0 (back_end layout) s (omega arith) (omega arith))

-- each place of the aisle is on the pass from the front end
pub on_up : (layout : Layout) (aisle s : ℕ) → s ≤ back_end layout → On (at aisle 0) (pass_up layout aisle) (at aisle s)
on_up layout aisle s within = on_ahead aisle 0 (back_end layout) s (omega arith) (omega arith)

-- the way from the back end to a place and back is twice as long as what lies behind the place
pub back_path : (layout : Layout) (aisle far : ℕ) → IsUpTo layout.aisles aisle → far ≤ back_end layout →
    (t : ℕ) × Path layout (at aisle (back_end layout)) (from_back layout aisle far) (at aisle (back_end layout)) t
    × (t + 2 * distance layout far ≡ 2 * aisle_length layout)
back_path layout aisle far within short =
    let end = back_end layout in
    let n = end - far in
    let all : far + n ≡ end = omega arith in
    let down = path_behind layout aisle far n within (omega arith) in
    let up = path_ahead layout aisle far n within (omega arith) in
    let reach = ap (λ s. distance layout s) all in (
      down.0 + up.0,
      path_join layout (at aisle end) (at aisle far) (at aisle end) (behind aisle far n) (ahead aisle far n) down.0 up.0
          (subst (λ (s : ℕ). Path layout (at aisle s) (behind aisle far n) (at aisle far) down.0) all down.1)
          (subst (λ (s : ℕ). Path layout (at aisle far) (ahead aisle far n) (at aisle s) up.0) all up.1),
      omega (arith, down.2, up.2, reach),
    )

-- each place no nearer than the one at which it turns is on the way from the back end
pub on_from_back : (layout : Layout) (aisle far s : ℕ) → far ≤ s → s ≤ back_end layout
    → On (at aisle (back_end layout)) (from_back layout aisle far) (at aisle s)
on_from_back layout aisle far s low high =
    let end = back_end layout in
    let n = end - far in
    let all : far + n ≡ end = omega arith in
    on_first (at aisle end) (behind aisle far n) (ahead aisle far n) (at aisle s)
    (subst (λ (e : ℕ). On (at aisle e) (behind aisle far n) (at aisle s)) all (on_behind aisle far n s low (omega arith)))

-- the way from the front end to a place and back is twice as long as what lies in front of the place
pub front_path : (layout : Layout) (aisle near : ℕ) → IsUpTo layout.aisles aisle → near ≤ back_end layout →
    (t : ℕ) × Path layout (at aisle 0) (from_front aisle near) (at aisle 0) t × (t ≡ 2 * distance layout near)
front_path layout aisle near within short =
    let all : 0 + near ≡ near = omega arith in
    let up = path_ahead layout aisle 0 near within (omega arith) in
    let down = path_behind layout aisle 0 near within (omega arith) in
    let reach = ap (λ s. distance layout s) all in (
      up.0 + down.0,
      path_join layout (at aisle 0) (at aisle near) (at aisle 0) (ahead aisle 0 near) (behind aisle 0 near) up.0 down.0
          (subst (λ (s : ℕ). Path layout (at aisle 0) (ahead aisle 0 near) (at aisle s) up.0) all up.1)
          (subst (λ (s : ℕ). Path layout (at aisle s) (behind aisle 0 near) (at aisle 0) down.0) all down.1),
      omega (arith, down.2, up.2, reach),
    )

-- each place no further than the one at which it turns is on the way from the front end
pub on_from_front : (aisle near s : ℕ) → s ≤ near → On (at aisle 0) (from_front aisle near) (at aisle s)
on_from_front aisle near s high = on_first (at aisle 0) (ahead aisle 0 near) (behind aisle 0 near) (at aisle s)
    (on_ahead aisle 0 near s (omega arith) (omega arith))
