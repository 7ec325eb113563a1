use Rattle.std.proofs.Common.{◌≡◌, ◌∙◌, ◌≤◌, sym, ap, subst, ℕ, inl, inr, List, length, slice_get, arith}
use Rattle.std.proofs.Math.ListN.{set}
use Rattle.std.proofs.lemmas.Bool.{cases_lt}
use Rattle.wp_model.proofs.Elements.{if_some}
use Rattle.wp_model.specs.Book.{Book, held_for, is_for}
use Rattle.wp_model.specs.declared.row.Row.{Row}
use Rattle.wp_book.specs.Calls.{HasTaken}
use Rattle.wp_book.specs.Chains.{chain_units}
use Rattle.wp_book.specs.Kept.{AreChained, book_of}
use Rattle.wp_book.specs.declared.room.KeptHolds.{KeptHolds}
use Rattle.wp_book.proofs.ReturnedUnits.{with_chain}
use Rattle.wp_book.proofs.Books.{chain_order-le-wave, wave_nowhere}
use Rattle.wp_book.proofs.TakenUnits.{IsTaken, row_has_units, rows_taken, take_does, take_keeps, take_nothing}
use Rattle.wp_book.proofs.Totals.{chain_for, chain_found, is_for-of, wave_held}
use Rattle.wp_book.proofs.book.StockBook.take.Goals as goal

-- what the wave's chain has is enough
enough_in : (rows : List Row) (chains : List (List KeptHolds)) (book : Book) (wave order row units : ℕ) → AreChained rows chains → book_of rows chains ≡ book
    → units ≤ held_for book wave order row
    → units ≤ chain_units (is_for wave order row) (chain_for chains wave)
enough_in rows chains book wave order row units kept is enough =
    let passes = is_for wave order row in
    omega (arith, enough, ap (λ (b : Book). held_for b wave order row) is, wave_held rows chains wave passes kept (is_for-of wave order row))

pub take-requires-clause-row : goal.take-requires-clause-row
take-requires-clause-row c =
    let rows = c.self.inside.rows in
    let chains = c.self.inside.chains.items in
    let enough = enough_in rows chains c.args.self.now c.args.wave c.args.order c.args.row c.args.quantity c.self.invariant c.self.view_is c.requires in
    elim (cases_lt c.args.row (length rows)) [
      | inl within ↦ within
      | inr past ↦ absurd (omega (
        arith,
        chain_order-le-wave c.args.wave c.args.order c.args.row (chain_for chains c.args.wave),
        wave_nowhere rows chains c.args.wave c.args.row c.self.invariant past,
      ))
    ]

pub take-requires-clause-held : goal.take-requires-clause-held
take-requires-clause-held c =
    let rows = c.self.inside.rows in
    let chains = c.self.inside.chains.items in
    let enough = enough_in rows chains c.args.self.now c.args.wave c.args.order c.args.row c.args.quantity c.self.invariant c.self.view_is c.requires in
    if_some (slice_get rows c.args.row) _ (λ r there.
    let has = row_has_units rows chains c.args.wave c.args.order c.args.row c.args.quantity r c.self.invariant enough there in
    (has.held, has.on_hand))

pub take_from_chain-requires : goal.take_from_chain-requires
take_from_chain-requires c =
    let rows = c.self.inside.rows in
    let chains = c.self.inside.chains.items in
    let found = chain_found chains c.args.wave c.chain_of.result c.index_mut-chain.result.now c.self.invariant.count c.chain_of.ensures
    c.index_mut-chain.ensures.value in
    let enough = enough_in rows chains c.args.self.now c.args.wave c.args.order c.args.row c.args.quantity c.self.invariant c.self.view_is c.requires in
    omega (arith, enough, ap (chain_units (is_for c.args.wave c.args.order c.args.row)) found)

-- what is known once the units were taken
is_taken : (c : goal.After-self-1) → IsTaken c.self.inside.rows c.self.inside.chains.items c.args.wave c.args.order c.args.row c.args.quantity
    c.take_from_chain.new.chain
is_taken c =
    let rows = c.self.inside.rows in
    let chains = c.self.inside.chains.items in
    let found = chain_found chains c.args.wave c.chain_of.result c.index_mut-chain.result.now c.self.invariant.count c.chain_of.ensures
    c.index_mut-chain.ensures.value in
    record {
      kept = c.self.invariant;
      enough = enough_in rows chains c.args.self.now c.args.wave c.args.order c.args.row c.args.quantity c.self.invariant c.self.view_is c.requires;
      taken = λ passes. c.take_from_chain.ensures passes ∙ ap (chain_units passes) found;
    }

chains_after : (c : goal.After-self-1) → set c.self.inside.chains.items c.chain_of.result c.take_from_chain.new.chain ≡ with_chain c.self.inside.chains.items
    c.args.wave c.take_from_chain.new.chain
chains_after c = ap (λ i. set c.self.inside.chains.items i c.take_from_chain.new.chain) c.chain_of.ensures

pub invariant_of-self : goal.invariant_of-self
invariant_of-self c =
    subst (λ (rows : List Row). AreChained rows (set c.self.inside.chains.items c.chain_of.result c.take_from_chain.new.chain)) (sym c.take.ensures)
    (subst (λ (chains : List (List KeptHolds)). AreChained (rows_taken c.self.inside.rows c.args.row c.args.quantity) chains) (sym (chains_after c))
    (take_keeps c.self.inside.rows c.self.inside.chains.items c.args.wave c.args.order c.args.row c.args.quantity c.take_from_chain.new.chain (is_taken c)))

pub returns-then-quantity-gt0 : goal.returns-then-quantity-gt0
returns-then-quantity-gt0 c =
    let rows = c.self.inside.rows in
    let chains = c.self.inside.chains.items in
    subst (λ (old : Book). HasTaken c.args.wave c.args.order c.args.row c.args.quantity old
    (book_of c.take.new.self (set chains c.chain_of.result c.take_from_chain.new.chain))) c.self.view_is
    (subst (λ (new : List Row). HasTaken c.args.wave c.args.order c.args.row c.args.quantity (book_of rows chains)
    (book_of new (set chains c.chain_of.result c.take_from_chain.new.chain))) (sym c.take.ensures)
    (subst (λ (new : List (List KeptHolds)). HasTaken c.args.wave c.args.order c.args.row c.args.quantity (book_of rows chains)
    (book_of (rows_taken rows c.args.row c.args.quantity) new)) (sym (chains_after c))
    (take_does rows chains c.args.wave c.args.order c.args.row c.args.quantity c.take_from_chain.new.chain (is_taken c))))

pub returns-else-quantity-gt0 : goal.returns-else-quantity-gt0
returns-else-quantity-gt0 c = take_nothing c.args.wave c.args.order c.args.row c.args.quantity c.args.self.now (omega arith)
