-- The name and the numbers that are told of a short article are those of a journal.
use Rattle.std.proofs.Common.{◌≡◌, ℕ, zero, suc, ◌*◌, ◌<◌, ◌≤◌, ◌^◌, ◌==◌, true, List, length, slice_get, Some, None}
use Rattle.std.proofs.Common.{arith, lit<, nat_lt}
use Rattle.std.proofs.lemmas.Bool.{cond_both, lt-ltb}
use Rattle.std.proofs.lemmas.List.Elements.{All-weaker}
use Rattle.std.proofs.lemmas.List.Sums.{sum_by-le}
use Rattle.std.proofs.lemmas.Option.{MatchOption-at_some}
use Rattle.wp_model.proofs.Demand.{few_lines, lines_are, short_article_is}
use Rattle.wp_model.specs.Demand.{IsFirstShort}
use Rattle.wp_model.proofs.Found.{option_map_or-both}
use Rattle.wp_model.specs.Demand.{demand_at, free_units, order_demand, quantity_of, short_article, wave_demand}
use Rattle.wp_model.specs.Opening.{IsLine, IsOpening, Opening, article_name, lines_of}
use Rattle.wp_model.specs.Limits.{most_lines, most_wave_orders, most_quantity}
use Rattle.wp_model.specs.Sums.{sum_below}
use Rattle.wp_model.specs.declared.reply.Reply.TheVariants as reply
use Rattle.wp_model.specs.declared.row.Line.{Line}
use Rattle.wp_model.specs.declared.row.Row.{Row}
use Rattle.wp_journal.specs.Grammar.{is_line_reply}
use Rattle.wp_journal.proofs.NamedStates.{AreArticlesNamed, article_named}
use Rattle.wp_journal.proofs.WordBytes.{and_true}

-- the most units that an order may want, and that a wave may
abbrev most_of_order : ℕ
most_of_order = most_lines * most_quantity

abbrev most_of_wave : ℕ
most_of_wave = most_wave_orders * most_of_order

quantity_few : (articles : List (List ℕ)) (article : ℕ) (line : Line) → IsLine articles line → quantity_of article line ≤ most_quantity
quantity_few articles article line is =
    cond_both (line.article == article) line.quantity 0 (λ units. units ≤ most_quantity) (λ same. is.most) (λ other. omega arith)

order_few : (opening : Opening) (order : List ℕ) (article : ℕ) → IsOpening opening → order_demand opening order article ≤ most_of_order
order_few opening order article is =
    let articles = opening.stock.articles in
    let lines = lines_of opening.orders order in
    let each = All-weaker (IsLine articles) (λ line. quantity_of article line ≤ most_quantity) (quantity_few articles article) lines
    (lines_are articles opening.orders order is.orders) in
    omega (arith, sum_by-le (quantity_of article) most_quantity lines each, few_lines articles opening.orders order is.orders)

place_few : (opening : Opening) (orders : List (List ℕ)) (article place : ℕ) → IsOpening opening → demand_at opening orders article place ≤ most_of_order
place_few opening orders article place is =
    option_map_or-both (λ units. units ≤ most_of_order) (λ order. order_demand opening order article) (slice_get orders place) 0
    (λ order there. order_few opening order article is) (λ none. omega arith)

sum_few : (n : ℕ) (f : ℕ → ℕ) → ((k : ℕ) → f k ≤ most_of_order) → sum_below n f ≤ n * most_of_order
sum_few zero f each = omega arith
sum_few (suc n) f each = omega (arith, sum_few n f each, each n)

wave_few : (opening : Opening) (orders : List (List ℕ)) (article : ℕ) → IsOpening opening → length orders ≤ most_wave_orders
    → wave_demand opening orders article ≤ most_of_wave
wave_few opening orders article is few =
    omega (arith, sum_few (length orders) (demand_at opening orders article) (λ place. place_few opening orders article place is))

u64_bound : (n : ℕ) → n ≤ most_of_wave → nat_lt n (2 ^ 64) ≡ true
u64_bound n few = let numeral : most_of_wave < 2 ^ 64 = lit< tt in lt-ltb n (2 ^ 64) (omega arith)

-- a short article has a name, and the two numbers that are told of it have 64 bits
pub short_is : (opening : Opening) (rows : List Row) (orders : List (List ℕ)) (article : ℕ) → IsOpening opening → AreArticlesNamed opening
    → length orders ≤ most_wave_orders → short_article opening rows orders None ≡ Some article
    → is_line_reply (reply.Short (article_name opening article) (wave_demand opening orders article) (free_units rows article None)) ≡ true
short_is opening rows orders article is named few found =
    let wanted = wave_few opening orders article is few in
    let short : IsFirstShort (wave_demand opening orders) (λ article. free_units rows article None) 0 (length opening.stock.articles) article
    = MatchOption-at_some _ _ article found (short_article_is opening rows orders None) in
    and_true _ _ (article_named opening article named short.within)
    (and_true _ _ (u64_bound (wave_demand opening orders article) wanted) (u64_bound (free_units rows article None) (omega (arith, short.short, wanted))))
