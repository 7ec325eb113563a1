-- States whose waves have names, and whose rows are of articles of the stock, each with a name.
use Rattle.std.proofs.Common.{◌≡◌, ℕ, ◌<◌, ◌==◌, List, length, slice_get, Some, All, sym, subst, true, []}
use Rattle.std.specs.Prelude.{IsTrue}
use Rattle.std.proofs.lemmas.Bool.{cond_both}
use Rattle.std.proofs.lemmas.List.Elements.{All-map, All-nil, All-push, All-set, All-weaker}
use Rattle.wp_model.proofs.Elements.{All-at}
use Rattle.wp_model.proofs.Rows.{All-change_rows}
use Rattle.wp_model.specs.Change.{change_rows, put_wave, settle}
use Rattle.wp_model.specs.Name.{is_name}
use Rattle.wp_model.specs.Opening.{IsOpening, IsStockRow, Opening, article_name}
use Rattle.wp_model.specs.State.{State, Wave, opening_row, opening_state, wave_held}
use Rattle.wp_model.specs.Step.{add_wave}
use Rattle.wp_model.specs.declared.reply.WaveState.TheVariants as wave
use Rattle.wp_model.specs.declared.row.Row.{Row}
use Rattle.wp_model.specs.declared.row.StockRow.{StockRow}

-- a wave has a name
abbrev pub HasName : Wave → Type 0
HasName w = IsTrue (is_name w.name)

-- a row is of an article of the stock
abbrev pub IsOfStock : Opening → Row → Type 0
IsOfStock opening row = row.article < length opening.stock.articles

-- each wave has a name, and each row is of an article of the stock
pub record IsNamed (opening : Opening) (state : State) : Type 0 where
  pub waves : All HasName state.waves
  pub rows : All (IsOfStock opening) state.rows

-- the opening state is such a state
pub opening_is_named : (opening : Opening) → IsOpening opening → IsNamed opening (opening_state opening)
opening_is_named opening is = record {
  waves = All-nil HasName;
  rows = All-map (IsOfStock opening) opening_row opening.stock.rows
      (All-weaker (IsStockRow opening.stock.articles) (λ (row : StockRow). row.article < length opening.stock.articles) (λ row is_row. is_row.article)
      opening.stock.rows is.rows);
}

-- a wave of such a state has a name
pub wave_named : (opening : Opening) (state : State) (number : ℕ) (w : Wave) → IsNamed opening state → slice_get state.waves number ≡ Some w → HasName w
wave_named opening state number w named there = All-at HasName state.waves number w named.waves there

-- a row of such a state is of an article of the stock
pub row_of_stock : (opening : Opening) (state : State) (number : ℕ) (r : Row) → IsNamed opening state → slice_get state.rows number ≡ Some r
    → IsOfStock opening r
row_of_stock opening state number r named there = All-at (IsOfStock opening) state.rows number r named.rows there

-- rows stay of articles of the stock where a change leaves each its article
pub rows_of_stock : (opening : Opening) (rows : List Row) (change : ℕ → Row → Row) → ((k : ℕ) (r : Row) → (change k r).article ≡ r.article)
    → All (IsOfStock opening) rows → All (IsOfStock opening) (change_rows change 0 rows)
rows_of_stock opening rows change kept each = All-change_rows change rows (IsOfStock opening)
    (λ k r there. subst (λ article. article < length opening.stock.articles) (sym (kept k r)) (All-at (IsOfStock opening) rows k r each there))

-- a wave with a name may be put in its place
pub put_named : (opening : Opening) (state : State) (number : ℕ) (w : Wave) → IsNamed opening state → HasName w → IsNamed opening (put_wave number w state)
put_named opening state number w named has = record { waves = All-set HasName state.waves number w has named.waves; rows = named.rows }

-- and be settled there
pub settle_named : (opening : Opening) (state : State) (number : ℕ) (w : Wave) → IsNamed opening state → HasName w → IsNamed opening (settle number w state)
settle_named opening state number w named has =
    cond_both (wave_held state number (length w.orders) == 0) (record w { state = wave.Done }) w (λ put. IsNamed opening (put_wave number put state))
    (λ none. put_named opening state number (record w { state = wave.Done }) named has)
    (λ some. put_named opening state number w named has)

-- a wave with a name may be added
pub add_named : (opening : Opening) (state : State) (name : List ℕ) (orders : List (List ℕ)) → IsNamed opening state → IsTrue (is_name name)
    → IsNamed opening (add_wave name orders state)
add_named opening state name orders named is = record { waves = All-push HasName state.waves _ named.waves is; rows = named.rows }

-- the articles of the stock have names
abbrev pub AreArticlesNamed : Opening → Type 0
AreArticlesNamed opening = All (λ article. IsTrue (is_name article)) opening.stock.articles

-- the name that an article has by its number is one
pub article_named : (opening : Opening) (article : ℕ) → AreArticlesNamed opening → article < length opening.stock.articles
    → is_name (article_name opening article) ≡ true
article_named opening article named within = named article [] within
