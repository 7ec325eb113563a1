use Rattle.std.proofs.Common.{◌≡◌, ◌∙◌, sym, ap, subst, List, slice_get, arith}
use Rattle.std.proofs.Math.ListN.{set}
use Rattle.wp_model.proofs.Elements.{if_some}
use Rattle.wp_model.specs.Book.{Book, but_of, is_for_wave}
use Rattle.wp_model.specs.declared.row.Row.{Row}
use Rattle.wp_book.specs.Calls.{HasGivenBack}
use Rattle.wp_book.specs.Chains.{chain_units}
use Rattle.wp_book.specs.Kept.{AreChained, book_of}
use Rattle.wp_book.specs.declared.room.KeptHolds.{KeptHolds}
use Rattle.wp_book.proofs.ReturnedUnits.{IsBack, back_does, back_keeps, rows_back, with_chain}
use Rattle.wp_book.proofs.Books.{row_has, wave_nowhere}
use Rattle.wp_book.proofs.HoldSums.{freed_same}
use Rattle.wp_book.proofs.Totals.{chain_found}
use Rattle.wp_book.proofs.book.StockBook.unhold.Goals as goal

pub give_back_chain-requires-clause-within : goal.give_back_chain-requires-clause-within
give_back_chain-requires-clause-within c = λ row past.
    let rows = c.self.inside.rows in
    let chains = c.self.inside.chains.items in
    let found = chain_found chains c.args.wave c.chain_of.result c.index_mut-chain.result.now c.self.invariant.count c.chain_of.ensures
    c.index_mut-chain.ensures.value in
    ap (chain_units (is_for_wave c.args.wave row)) found ∙ wave_nowhere rows chains c.args.wave row c.self.invariant past

pub give_back_chain-requires-clause-held : goal.give_back_chain-requires-clause-held
give_back_chain-requires-clause-held c = λ row.
    let rows = c.self.inside.rows in
    let chains = c.self.inside.chains.items in
    let found = chain_found chains c.args.wave c.chain_of.result c.index_mut-chain.result.now c.self.invariant.count c.chain_of.ensures
    c.index_mut-chain.ensures.value in
    let same = ap (chain_units (is_for_wave c.args.wave row)) found in
    if_some (slice_get rows row) _ (λ r there.
    let has = row_has rows chains c.args.wave row r c.self.invariant there in
    (omega (arith, same, has.held), has.fits))

-- what is known once all was given back
is_back : (c : goal.After-self-1) → IsBack c.self.inside.rows c.self.inside.chains.items c.args.wave c.give_back_chain.new.chain
is_back c =
    let chains = c.self.inside.chains.items in
    let found = chain_found chains c.args.wave c.chain_of.result c.index_mut-chain.result.now c.self.invariant.count c.chain_of.ensures
    c.index_mut-chain.ensures.value in
    record {
      kept = c.self.invariant;
      others = λ passes. c.give_back_chain.ensures.others passes ∙ ap (chain_units (but_of c.args.wave passes)) found;
    }

rows_after : (c : goal.After-self-1) → c.give_back_chain.new.rows ≡ rows_back c.self.inside.rows c.self.inside.chains.items c.args.wave
rows_after c =
    let chains = c.self.inside.chains.items in
    let found = chain_found chains c.args.wave c.chain_of.result c.index_mut-chain.result.now c.self.invariant.count c.chain_of.ensures
    c.index_mut-chain.ensures.value in
    c.give_back_chain.ensures.rows ∙ freed_same _ _ c.self.inside.rows (λ row. ap (chain_units (is_for_wave c.args.wave row)) found)

chains_after : (c : goal.After-self-1) → set c.self.inside.chains.items c.chain_of.result c.give_back_chain.new.chain ≡ with_chain c.self.inside.chains.items
    c.args.wave c.give_back_chain.new.chain
chains_after c = ap (λ i. set c.self.inside.chains.items i c.give_back_chain.new.chain) c.chain_of.ensures

pub invariant_of-self : goal.invariant_of-self
invariant_of-self c =
    subst (λ (rows : List Row). AreChained rows (set c.self.inside.chains.items c.chain_of.result c.give_back_chain.new.chain)) (sym (rows_after c))
    (subst (λ (chains : List (List KeptHolds)). AreChained (rows_back c.self.inside.rows c.self.inside.chains.items c.args.wave) chains) (sym (chains_after c))
    (back_keeps c.self.inside.rows c.self.inside.chains.items c.args.wave c.give_back_chain.new.chain (is_back c)))

pub returns : goal.returns
returns c =
    let rows = c.self.inside.rows in
    let chains = c.self.inside.chains.items in
    subst (λ (old : Book). HasGivenBack c.args.wave old (book_of c.give_back_chain.new.rows (set chains c.chain_of.result c.give_back_chain.new.chain)))
    c.self.view_is
    (subst (λ (new : List Row). HasGivenBack c.args.wave (book_of rows chains) (book_of new (set chains c.chain_of.result c.give_back_chain.new.chain)))
    (sym (rows_after c))
    (subst (λ (new : List (List KeptHolds)). HasGivenBack c.args.wave (book_of rows chains) (book_of (rows_back rows chains c.args.wave) new))
    (sym (chains_after c))
    (back_does rows chains c.args.wave c.give_back_chain.new.chain (is_back c))))
