-- How many rows are of an article that is named.
use Rattle.std.proofs.Common.{◌≡◌, ◌∙◌, refl, sym, ap, ap₂, ℕ, zero, suc, ◌+◌, ◌<◌, ◌≤◌, Bool, true, false, List, [], ◌∷◌, max, length, Some, None, arith}
use Rattle.std.proofs.Common.{length-append}
use Rattle.std.specs.Prelude.{if◌then◌else◌, ◌==◌, nat_lt, slice_index, get_or}
use Rattle.std.proofs.lemmas.Bool.Decides.{nat_tests}
use Rattle.wp_model.specs.Opening.{Stock}
use Rattle.wp_model.specs.TableLines.{add_line, article_in, join, number_among, places_named, row_of}
use Rattle.wp_model.specs.Step.{is_among}
use Rattle.wp_model.specs.Tables.{places_of}
use Rattle.wp_model.specs.declared.line.StockLine.{StockLine}
use Rattle.wp_model.proofs.NameEq.{found_there, not_there, number_below, number_joined}
use Rattle.wp_model.proofs.ReadStock.{places_put}
use Rattle.wp_model.proofs.RowLists.{join_new, number_new}
use Rattle.wp_tables.specs.Stock.{ArePlaces}

read_at : (xs : List ℕ) (i x : ℕ) → i < length xs → x ≡ get_or xs i x → x ≡ slice_index xs i
read_at [] i x below is = absurd (omega arith)
read_at (y ∷ xs) zero x below is = is
read_at (y ∷ xs) (suc i) x below is = read_at xs i x (omega arith) is

-- those of an article that is there
pub places_found : (stock : Stock) (places : List ℕ) (name : List ℕ) (i x : ℕ) → ArePlaces stock places → article_in stock.articles name ≡ Some i
    → x ≡ get_or places i x → x ≡ places_named stock name
places_found stock places name i x are found is =
    let there = found_there name stock.articles i found in
    read_at places i x (omega (arith, there.1, are.as_many)) is ∙ are.counts i ∙ ap (places_of stock.rows) (sym there.0)

past : (xs : List ℕ) (i : ℕ) → length xs ≤ i → slice_index xs i ≡ 0
past [] i beyond = refl
past (x ∷ xs) zero beyond = absurd (omega arith)
past (x ∷ xs) (suc i) beyond = past xs i (omega arith)

-- an article that isn't there has none
pub places_new : (stock : Stock) (places : List ℕ) (name : List ℕ) → ArePlaces stock places → article_in stock.articles name ≡ None
    → 0 ≡ places_named stock name
places_new stock places name are none =
    let number = number_new stock.articles name (not_there name stock.articles none) in
    sym (past places (length stock.articles) (omega (arith, are.as_many))) ∙ are.counts (length stock.articles) ∙ ap (places_of stock.rows) (sym number)

longer : (b : Bool) (names : List (List ℕ)) (name : List ℕ) → is_among names name ≡ b
    → max (length names) (number_among names name + 1) ≡ length (join names name)
longer true names name among =
    let below : nat_lt (number_among names name) (length names) ≡ true = number_below name names ∙ among in
    let less : number_among names name < length names = grind (arith, nat_tests) in
    rw among (omega arith)
longer false names name among =
    let number = number_new names name among in
    let joined = ap length (join_new names name among) ∙ length-append names (name ∷ []) in
    omega arith

-- the numbers with one more for a line's article
pub places_joined : (stock : Stock) (line : StockLine) (places counts : List ℕ) (place : ℕ) → ArePlaces stock places
    → place ≡ number_among stock.articles line.article
    → ((article : ℕ) → slice_index counts article ≡ slice_index places article + (if place == article then 1 else 0))
    → length counts ≡ max (length places) (place + 1) → ArePlaces (add_line stock line) counts
places_joined stock line places counts place are number more length_is =
    let names = stock.articles in
    let row = row_of (join names line.article) line in
    let same : place ≡ row.article = number ∙ sym (number_joined line.article names) in
    record {
      counts = λ article. rw (places_put row stock.rows article, ← same, more article, are.counts article) (omega arith);
      as_many = length_is ∙ ap₂ (λ n m. max n (m + 1)) are.as_many number ∙ longer (is_among names line.article) names line.article refl;
    }
