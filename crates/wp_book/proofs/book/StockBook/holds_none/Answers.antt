use Rattle.std.proofs.Common.{◌∙◌, ◌==◌, sym, ap, subst}
use Rattle.wp_model.specs.Book.{Book, is_of}
use Rattle.wp_book.specs.Calls.{HoldsNone}
use Rattle.wp_book.specs.Chains.{chain_units}
use Rattle.wp_book.proofs.Books.{holds_none_from, holds_none_to, zero_tests}
use Rattle.wp_book.proofs.Totals.{chain_for, chain_found}
use Rattle.wp_book.proofs.book.StockBook.holds_none.Goals as goal

pub returns : goal.returns
returns c =
    let rows = c.self.inside.rows in
    let chains = c.self.inside.chains.items in
    let found = chain_found chains c.args.wave c.chain_of.result c.index-chain.result.now c.self.invariant.count c.chain_of.ensures c.index-chain.ensures in
    let tests = zero_tests c.chain_holds_none.result (chain_units (is_of c.args.wave) (chain_for chains c.args.wave))
    (c.chain_holds_none.ensures ∙ ap (λ nodes. chain_units (is_of c.args.wave) nodes == 0) found) in (
      λ true. subst (λ (book : Book). HoldsNone book c.args.wave) c.self.view_is (holds_none_to rows chains c.args.wave c.self.invariant (tests.0 true)),
      λ none. tests.1 (holds_none_from rows chains c.args.wave c.self.invariant
          (subst (λ (book : Book). HoldsNone book c.args.wave) (sym c.self.view_is) none)),
    )
