-- The picks of orders grow hold by hold.
use Rattle.std.proofs.Common.{◌≡◌, ◌≢◌, ◌∙◌, refl, sym, ap, subst, ℕ, ◌+◌, ◌<◌, ◌↔◌, ◌⊎◌, inl, inr, ⊎_elim, List, [], ◌∷◌, ◌++◌, Some, All, Contains, length}
use Rattle.std.proofs.Common.{add-one, arith, take, get_or, get_or-set_other, get_or-set_same, length-append, length-set, slice_get, slice_set}
use Rattle.std.proofs.lemmas.Bool.{cases_eq}
use Rattle.std.proofs.lemmas.List.Elements.{All-contains, All-nil, All-push, All-set}
use Rattle.std.proofs.lemmas.List.{get_or_append_left, get_or_push}
use Rattle.std.proofs.Math.Seq.{take-suc}
use Rattle.std.proofs.lemmas.Option.{same_Some, slice_get-get_or}
use Rattle.wp_graph.proofs.Members.{Contains-from_among, among-append, among-append_left, among-append_right, among_from_Contains}
use Rattle.wp_lengths.specs.Waves.{WavePicks}
use Rattle.wp_graph.specs.PickSets.{PickSet}
use Rattle.wp_model.proofs.Elements.{All-at, within_some}
use Rattle.wp_model.specs.HoldLists.{IsHoldWithin}
use Rattle.wp_model.specs.Opening.{Opening, Stock}
use Rattle.wp_model.specs.Warehouse.{IsLayout, IsSlot, Layout}
use Rattle.wp_model.specs.declared.point.Point.{Point}
use Rattle.wp_model.specs.declared.row.Hold.{Hold}
use Rattle.wp_model.specs.declared.row.StockRow.{StockRow}
use Rattle.wp_machine.specs.declared.outcome.WaveHolds.{WaveHolds}
use Rattle.wp_planner.specs.Loads.{IsCartOf}
use Rattle.wp_planner.specs.Released.{IsWaveOf, LiesIn}
use Rattle.wp_planner.specs.Slots.{ArePicksOf, HoldsAt, slot_at}

-- nobody holds anything where nothing is held
nowhere_held : (rows : List StockRow) (order : ℕ) (point : Point) → HoldsAt rows [] order point → ⊥
nowhere_held rows order point holds = absurd (omega (arith, holds.held.1))

-- one more order without picks
pub one_more_empty : (layout : Layout) (rows : List StockRow) (orders : ℕ) (picks : List PickSet) (empty : PickSet) → empty.layout ≡ layout
    → empty.points ≡ [] → ArePicksOf layout rows [] orders picks → ArePicksOf layout rows [] (orders + 1) (picks ++ empty ∷ [])
one_more_empty layout rows orders picks empty of_layout none before = record {
  count = omega (arith, length-append picks (empty ∷ []), before.count);
  of_layout = All-push (λ (set : PickSet). set.layout ≡ layout) picks empty before.of_layout of_layout;
  each = λ order d point within. (
    λ has. ⊎_elim
        (λ (e : order ≡ orders).
        let here : get_or (picks ++ empty ∷ []) order d ≡ empty = get_or_push picks empty d order (before.count ∙ sym e) in
        let in_none : Contains [] point = subst (λ (ps : List Point). Contains ps point) none (subst (λ (s : PickSet). Contains s.points point) here has) in
        absurd (omega (arith, in_none.1)))
        (λ (ne : order ≢ orders).
        let kept : get_or (picks ++ empty ∷ []) order d ≡ get_or picks order d =
        get_or_append_left picks (empty ∷ []) d order (omega (arith, before.count, ne)) in
        (before.each order d point (omega (arith, ne))).0 (subst (λ (s : PickSet). Contains s.points point) kept has))
        (cases_eq order orders),
    λ holds. absurd (nowhere_held rows order point holds),
  );
}

-- no order has no picks
pub no_order : (layout : Layout) (rows : List StockRow) → ArePicksOf layout rows [] 0 []
no_order layout rows = record {
  count = refl;
  of_layout = All-nil (λ (set : PickSet). set.layout ≡ layout);
  each = λ order d point within. absurd (omega arith);
}

held_before : (rows : List StockRow) (holds : List Hold) (hold : Hold) (order : ℕ) (point : Point) → HoldsAt rows holds order point
    → HoldsAt rows (holds ++ hold ∷ []) order point
held_before rows holds hold order point is = record {
  hold = is.hold;
  held = Contains-from_among _ _ (among-append_left _ _ _ (among_from_Contains _ _ is.held));
  of_order = is.of_order;
  row = is.row;
  in_row = is.in_row;
  lies = is.lies;
}

held_last : (rows : List StockRow) (holds : List Hold) (hold : Hold) (row : StockRow) (order : ℕ) (point : Point) → slice_get rows hold.row ≡ Some row
    → hold.order ≡ order → point ≡ slot_at row.location → HoldsAt rows (holds ++ hold ∷ []) order point
held_last rows holds hold row order point in_row own lies = record {
  hold = hold;
  held = Contains-from_among _ _ (among-append_right holds (hold ∷ []) hold (inl refl));
  of_order = own;
  row = row;
  in_row = in_row;
  lies = lies;
}

last_or_before : (rows : List StockRow) (holds : List Hold) (hold : Hold) (row : StockRow) (order : ℕ) (point : Point) → slice_get rows hold.row ≡ Some row
    → HoldsAt rows (holds ++ hold ∷ []) order point → HoldsAt rows holds order point ⊎ ((hold.order ≡ order) × (point ≡ slot_at row.location))
last_or_before rows holds hold row order point in_row is = elim (among-append holds (hold ∷ []) is.hold (among_from_Contains _ _ is.held)) [
  | inl before ↦ inl (record {
    hold = is.hold;
    held = Contains-from_among _ _ before;
    of_order = is.of_order;
    row = is.row;
    in_row = is.in_row;
    lies = is.lies;
  })
  | inr last ↦ elim last [
    | inl same ↦
        let row_is : row ≡ is.row = same_Some row is.row (sym in_row ∙ (ap (λ (h : Hold). slice_get rows h.row) same ∙ is.in_row)) in
        inr (ap (λ (h : Hold). h.order) same ∙ is.of_order, is.lies ∙ ap (λ (r : StockRow). slot_at r.location) (sym row_is))
    | inr none ↦ absurd none
  ]
]

-- with the slot of one more hold in its order's picks, they are those of all holds so far
pub one_more_hold : (layout : Layout) (rows : List StockRow) (holds : List Hold) (hold : Hold) (row : StockRow) (orders : ℕ) (picks : List PickSet)
    (item changed : PickSet) → hold.order < orders → slice_get rows hold.row ≡ Some row → item ≡ get_or picks hold.order item → changed.layout ≡ layout
    → ((p : Point) → Contains changed.points p ↔ (Contains item.points p ⊎ (p ≡ slot_at row.location)))
    → ArePicksOf layout rows holds orders picks → ArePicksOf layout rows (holds ++ hold ∷ []) orders (slice_set picks hold.order changed)
one_more_hold layout rows holds hold row orders picks item changed known in_row is of_layout with before = record {
  count = length-set picks hold.order changed ∙ before.count;
  of_layout = All-set (λ (set : PickSet). set.layout ≡ layout) picks hold.order changed of_layout before.of_layout;
  each = λ order d point within. elim (cases_eq order hold.order) [
    | inl own ↦
        let here : get_or (slice_set picks hold.order changed) order d ≡ changed =
        ap (λ (k : ℕ). get_or (slice_set picks hold.order changed) k d) own ∙ get_or-set_same picks hold.order changed d (omega (arith, known, before.count)) in
        let was : Contains item.points point ↔ HoldsAt rows holds hold.order point =
        subst (λ (s : PickSet). Contains s.points point ↔ HoldsAt rows holds hold.order point) (sym is) (before.each hold.order item point known) in (
          λ has. elim ((with point).0 (subst (λ (s : PickSet). Contains s.points point) here has)) [
            | inl old ↦ held_before rows holds hold order point (subst (λ (o : ℕ). HoldsAt rows holds o point) (sym own) (was.0 old))
            | inr new ↦ held_last rows holds hold row order point in_row (sym own) new
          ],
          λ at. subst (λ (s : PickSet). Contains s.points point) (sym here) ((with point).1 (elim (last_or_before rows holds hold row order point in_row at) [
            | inl old ↦ inl (was.1 (subst (λ (o : ℕ). HoldsAt rows holds o point) own old))
            | inr new ↦ inr new.1
          ])),
        )
    | inr other ↦
        let kept : get_or (slice_set picks hold.order changed) order d ≡ get_or picks order d = get_or-set_other picks hold.order order changed d other in (
          λ has. held_before rows holds hold order point
              ((before.each order d point within).0 (subst (λ (s : PickSet). Contains s.points point) kept has)),
          λ at. subst (λ (s : PickSet). Contains s.points point) (sym kept) (elim (last_or_before rows holds hold row order point in_row at) [
            | inl old ↦ (before.each order d point within).1 old
            | inr new ↦ absurd (other (sym new.0))
          ]),
        )
  ];
}

-- the same of the hold that is read at a place of all holds
pub one_more_read : (layout : Layout) (rows : List StockRow) (holds : List Hold) (i : ℕ) (none : Hold) (first : StockRow) (orders : ℕ) (picks : List PickSet)
    (item changed : PickSet) (slot : Point) → i < length holds → All (IsHoldWithin orders (length rows)) holds
    → slot ≡ slot_at (get_or rows (get_or holds i none).row first).location → item ≡ get_or picks (get_or holds i none).order item
    → changed.layout ≡ item.layout → ((p : Point) → Contains changed.points p ↔ (Contains item.points p ⊎ (p ≡ slot)))
    → ArePicksOf layout rows (take i holds) orders picks
    → ArePicksOf layout rows (take (i + 1) holds) orders (slice_set picks (get_or holds i none).order changed)
one_more_read layout rows holds i none first orders picks item changed slot low all at is same with before =
    let hold = get_or holds i none in
    let within : IsHoldWithin orders (length rows) hold = all i none low in
    let was : (get_or picks hold.order item).layout ≡ layout = before.of_layout hold.order item (omega (arith, within.0, before.count)) in
    let grown : take (i + 1) holds ≡ take i holds ++ hold ∷ [] = ap (λ (n : ℕ). take n holds) (add-one i) ∙ take-suc holds i none low in
    subst (λ (hs : List Hold). ArePicksOf layout rows hs orders (slice_set picks hold.order changed)) (sym grown)
    (one_more_hold layout rows (take i holds) hold (get_or rows hold.row first) orders picks item changed within.0
    (slice_get-get_or rows hold.row first within.1) is (same ∙ (ap (λ (s : PickSet). s.layout) is ∙ was))
    (λ p. (
      λ has. elim ((with p).0 has) [ inl old ↦ inl old | inr new ↦ inr (new ∙ at) ],
      λ has. (with p).1 (elim has [ inl old ↦ inl old | inr new ↦ inr (new ∙ sym at) ]),
    )) before)

-- an order that holds units in a row picks somewhere
pub picks_filled : (layout : Layout) (rows : List StockRow) (holds : List Hold) (orders : ℕ) (picks : List PickSet)
    → All (IsHoldWithin orders (length rows)) holds
    → ((order : ℕ) → order < orders → (hold : Hold) × Contains holds hold × (hold.order ≡ order))
    → ArePicksOf layout rows holds orders picks → All (λ set. 0 < length set.points) picks
picks_filled layout rows holds orders picks within filled are k d low =
    let below : k < orders = omega (arith, low, are.count) in
    let has = filled k below in
    let in_row : has.0.row < length rows = (All-contains (IsHoldWithin orders (length rows)) holds has.0 within has.1).1 in
    let row = within_some rows has.0.row in_row in
    let point = slot_at row.0.location in
    let picked = (are.each k d point below).1 (record {
      hold = has.0;
      held = has.1;
      of_order = has.2;
      row = row.0;
      in_row = row.1;
      lies = refl;
    }) in
    omega (arith, picked.1)

-- an order that holds units in a row of a stock that lies in a layout picks at a slot of it
slot_held : (layout : Layout) (stock : Stock) (holds : List Hold) (order : ℕ) (point : Point) → LiesIn layout stock → HoldsAt stock.rows holds order point
    → IsSlot layout point
slot_held layout stock holds order point lies at =
    subst (IsSlot layout) (sym at.lies) (All-at (λ (row : StockRow). IsSlot layout (slot_at row.location)) stock.rows at.hold.row at.row lies at.in_row)

-- a wave with these picks and with their cart is the wave of those holds
pub wave_with : (layout : Layout) (opening : Opening) (released : WaveHolds) (picks : List PickSet) (wave : WavePicks) → IsLayout layout
    → LiesIn layout opening.stock → wave.layout ≡ layout → ArePicksOf layout opening.stock.rows released.holds (length released.orders) picks
    → wave.orders ≡ picks
    → IsCartOf opening.units released wave.cart → IsWaveOf layout opening released wave
wave_with layout opening released picks wave valid lies of_layout of_picks picked cart =
    let are = subst (ArePicksOf layout opening.stock.rows released.holds (length released.orders)) (sym picked) of_picks in
    let d : PickSet = record { layout = wave.layout; points = [] } in record {
      layout_is = of_layout;
      orders = are.count;
      picks = λ order point below. are.each order d point below;
      slots = λ order below. record {
        ranges = valid;
        slots = λ point has. slot_held layout opening.stock released.holds order point lies ((are.each order d point below).0 has);
      };
      cart = cart;
    }
