use Rattle.std.proofs.Common.{◌∙◌, sym, ap, arith}
use Rattle.wp_model.specs.Book.{Book, held_for, is_for}
use Rattle.wp_book.specs.Chains.{chain_units}
use Rattle.wp_book.proofs.Books.{order_fits}
use Rattle.wp_book.proofs.Totals.{chain_found, is_for-of, wave_held}
use Rattle.wp_book.proofs.book.StockBook.held_at.Goals as goal

pub units_in_chain-requires : goal.units_in_chain-requires
units_in_chain-requires c =
    let rows = c.self.inside.rows in
    let chains = c.self.inside.chains.items in
    let found = chain_found chains c.args.wave c.chain_of.result c.index-chain.result.now c.self.invariant.count c.chain_of.ensures c.index-chain.ensures in
    omega (
      arith,
      ap (chain_units (is_for c.args.wave c.args.order c.args.row)) found,
      order_fits rows chains c.args.wave c.args.order c.args.row c.self.invariant,
    )

pub returns : goal.returns
returns c =
    let rows = c.self.inside.rows in
    let chains = c.self.inside.chains.items in
    let passes = is_for c.args.wave c.args.order c.args.row in
    let found = chain_found chains c.args.wave c.chain_of.result c.index-chain.result.now c.self.invariant.count c.chain_of.ensures c.index-chain.ensures in
    c.units_in_chain.ensures ∙ (ap (chain_units passes) found
    ∙ (sym (wave_held rows chains c.args.wave passes c.self.invariant (is_for-of c.args.wave c.args.order c.args.row))
    ∙ ap (λ (book : Book). held_for book c.args.wave c.args.order c.args.row) c.self.view_is))
