use Rattle.std.proofs.Common.{◌≡◌, ◌∙◌, sym, refl, ap, subst, ◌≤◌, ◌++◌, ◌∷◌, [], List, slice_get, arith}
use Rattle.std.proofs.Math.ListN.{set}
use Rattle.wp_model.proofs.Elements.{at_some, if_some}
use Rattle.wp_model.specs.Book.{Book, units_at}
use Rattle.wp_model.specs.declared.row.Hold.{Hold}
use Rattle.wp_model.specs.declared.row.Row.{Row}
use Rattle.wp_book.specs.Calls.{CanHold, HasHeld}
use Rattle.wp_book.specs.Kept.{AreChained, book_of}
use Rattle.wp_book.specs.Room.{Content, IsInOrder}
use Rattle.wp_book.specs.declared.room.KeptHolds.{KeptHolds}
use Rattle.wp_book.proofs.Books.{CanAdd, hold_does, hold_keeps, no_units_past, rows_held, with_node}
use Rattle.wp_book.proofs.OrderedHolds.{can_hold-sorted, has_held-sorted}
use Rattle.wp_book.proofs.Totals.{chain_for, chain_found, row_is}
use Rattle.wp_book.proofs.book.StockBook.hold.Goals as goal

-- what may be held of the room's holds may be held of them in order
can_hold : (rows : List Row) (chains : List (List KeptHolds)) (book : Book) (room sorted : Content) → book_of rows chains ≡ book → IsInOrder room sorted
    → CanHold book room.holds → CanHold (book_of rows chains) sorted.holds
can_hold rows chains book room sorted is same can =
    can_hold-sorted (book_of rows chains) room.holds sorted.holds same.same (subst (λ (book : Book). CanHold book room.holds) (sym is) can)

pub hold_in_rows-requires-clause-within : goal.hold_in_rows-requires-clause-within
hold_in_rows-requires-clause-within c = λ row past.
    let can = can_hold c.self.inside.rows c.self.inside.chains.items c.args.self.now c.args.room c.sort.new.self c.self.view_is c.sort.ensures c.requires in
    ap (λ holds. units_at holds row) (c.as_slice.ensures ∙ c.into_parts-holds.ensures)
    ∙ no_units_past c.self.inside.rows c.sort.new.self.holds row can.rows past

pub hold_in_rows-requires-clause-free : goal.hold_in_rows-requires-clause-free
hold_in_rows-requires-clause-free c = λ row.
    let can = can_hold c.self.inside.rows c.self.inside.chains.items c.args.self.now c.args.room c.sort.new.self c.self.view_is c.sort.ensures c.requires in
    let same = ap (λ holds. units_at holds row) (c.as_slice.ensures ∙ c.into_parts-holds.ensures) in
    if_some (slice_get c.self.inside.rows row) _ (λ r there.
    let is = row_is c.self.inside.rows c.self.inside.chains.items row r c.self.invariant.book there in
    let free = at_some _ (λ (r : Row). units_at c.sort.new.self.holds row ≤ r.free) r there (can.free row) in
    (omega (arith, same, free), omega (arith, is.balance.sum, is.balance.most)))

-- the holds that were put in, as the chain keeps them
abbrev node_of : (c : goal.After-self-1) → KeptHolds
node_of c = record { wave = c.args.wave; holds = c.into_parts-holds.result.0 }

-- what is known of them
may_add : (c : goal.After-self-1) → CanAdd c.self.inside.rows c.self.inside.chains.items c.args.wave (node_of c)
may_add c = record {
  kept = c.self.invariant;
  can = subst (λ (holds : List Hold). CanHold (book_of c.self.inside.rows c.self.inside.chains.items) holds) (sym c.into_parts-holds.ensures)
      (can_hold c.self.inside.rows c.self.inside.chains.items c.args.self.now c.args.room c.sort.new.self c.self.view_is c.sort.ensures c.requires);
  own = refl;
}

-- the rows and the chains after the call
rows_after : (c : goal.After-self-1) → c.hold_in_rows.new.rows ≡ rows_held c.self.inside.rows (node_of c).holds
rows_after c =
    c.hold_in_rows.ensures ∙ ap (λ (holds : List Hold). rows_held c.self.inside.rows holds) c.as_slice.ensures

chains_after : (c : goal.After-self-1) → set c.self.inside.chains.items c.chain_of.result c.push.new.self ≡ with_node c.self.inside.chains.items c.args.wave
    (node_of c)
chains_after c =
    let chains = c.self.inside.chains.items in
    let found = chain_found chains c.args.wave c.chain_of.result c.index_mut-chain.result.now c.self.invariant.count c.chain_of.ensures
    c.index_mut-chain.ensures.value in
    ap (λ (new : List KeptHolds). set chains c.chain_of.result new) (c.push.ensures ∙ ap (λ (nodes : List KeptHolds). nodes ++ node_of c ∷ []) found)
    ∙ ap (λ i. set chains i (chain_for chains c.args.wave ++ node_of c ∷ [])) c.chain_of.ensures

pub invariant_of-self : goal.invariant_of-self
invariant_of-self c =
    subst (λ (rows : List Row). AreChained rows (set c.self.inside.chains.items c.chain_of.result c.push.new.self)) (sym (rows_after c))
    (subst (λ (chains : List (List KeptHolds)). AreChained (rows_held c.self.inside.rows (node_of c).holds) chains) (sym (chains_after c))
    (hold_keeps c.self.inside.rows c.self.inside.chains.items c.args.wave (node_of c) (may_add c)))

pub returns : goal.returns
returns c =
    let rows = c.self.inside.rows in
    let chains = c.self.inside.chains.items in
    let sorted = c.sort.new.self.holds in
    let does = hold_does rows chains c.args.wave (node_of c) (may_add c) in
    has_held-sorted c.args.wave c.args.room.holds sorted _ _ c.sort.ensures.same
    (subst (λ (old : Book). HasHeld c.args.wave sorted old (book_of c.hold_in_rows.new.rows (set chains c.chain_of.result c.push.new.self))) c.self.view_is
    (subst (λ (new : List Row). HasHeld c.args.wave sorted (book_of rows chains) (book_of new (set chains c.chain_of.result c.push.new.self)))
    (sym (rows_after c))
    (subst (λ (new : List (List KeptHolds)). HasHeld c.args.wave sorted (book_of rows chains) (book_of (rows_held rows (node_of c).holds) new))
    (sym (chains_after c))
    (subst (λ (holds : List Hold). HasHeld c.args.wave holds (book_of rows chains)
    (book_of (rows_held rows (node_of c).holds) (with_node chains c.args.wave (node_of c)))) c.into_parts-holds.ensures does))))
