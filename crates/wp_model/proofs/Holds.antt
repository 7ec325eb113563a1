-- What waves hold in their states.
use Rattle.std.proofs.Common.{◌≡◌, ℕ, ◌<◌, ◌==◌, if◌then◌else◌, List, length, slice_get, Option, Some, None, option_map, refl, sym, ap, ◌∙◌, subst}
use Rattle.std.specs.Option.{option_map_or}
use Rattle.wp_model.proofs.Rows.{length-change_rows, slice_get-change_rows}
use Rattle.wp_model.proofs.Sums.{sum-agree}
use Rattle.wp_model.specs.Change.{change_rows}
use Rattle.wp_model.specs.Demand.{demand_at}
use Rattle.wp_model.specs.Opening.{Opening}
use Rattle.wp_model.specs.Sound.{HoldsAs, order_held, units_of}
use Rattle.wp_model.specs.StockMoves.{AreAlike}
use Rattle.wp_model.specs.State.{State, Wave, wave_held, wave_held_at}
use Rattle.wp_model.specs.Sums.{sum_below}
use Rattle.wp_model.specs.declared.reply.WaveState.{WaveState}
use Rattle.wp_model.specs.declared.reply.WaveState.TheVariants as wave
use Rattle.wp_model.specs.declared.row.Row.{Row}

-- rows are alike to themselves
pub alike_itself : (rows : List Row) → AreAlike rows rows
alike_itself rows = record { count = refl; articles = λ article units k. refl }

-- rows that are alike to rows that are alike are alike
pub alike_then : (a b c : List Row) → AreAlike a b → AreAlike b c → AreAlike a c
alike_then a b c first second = record {
  count = second.count ∙ first.count;
  articles = λ article units k. second.articles article units k ∙ first.articles article units k;
}

same_article : (article units : ℕ) (f : Row → Row) (found : Option Row) → ((r : Row) → (f r).article ≡ r.article)
    → option_map_or (λ r. if r.article == article then units else 0) (option_map f found) 0 ≡ option_map_or
    (λ r. if r.article == article then units else 0) found 0
same_article article units f None kept = refl
same_article article units f (Some r) kept = ap (λ a. if a == article then units else 0) (kept r)

-- a change of units keeps the articles
pub alike_changed : (change : ℕ → Row → Row) (rows : List Row) → ((k : ℕ) (r : Row) → (change k r).article ≡ r.article)
    → AreAlike rows (change_rows change 0 rows)
alike_changed change rows kept = record {
  count = length-change_rows change rows;
  articles = λ article units k. ap (λ found. option_map_or (λ r. if r.article == article then units k else 0) found 0) (slice_get-change_rows change rows k)
      ∙ same_article article (units k) (change k) (slice_get rows k) (kept k);
}

-- a row's units by two functions that agree there
pub units_of-agree : (rows : List Row) (article : ℕ) (f g : ℕ → ℕ) (k : ℕ) → f k ≡ g k → units_of rows article f k ≡ units_of rows article g k
units_of-agree rows article f g k same = ap (λ u. option_map_or (λ r. if r.article == article then u else 0) (slice_get rows k) 0) same

-- where a wave holds the same units at the same rows, it holds as many in all, and for each order
pub wave_held-same : (old new : State) (number orders : ℕ) → length new.rows ≡ length old.rows
    → ((order k : ℕ) → new.held number order k ≡ old.held number order k)
    → wave_held new number orders ≡ wave_held old number orders
wave_held-same old new number orders count same =
    ap (λ n. sum_below n (λ row. wave_held_at new number orders row)) count
    ∙ sum-agree (length old.rows) _ _ (λ k within. sum-agree orders _ _ (λ order below. same order k))

-- an order has as many units of an article held in rows that are alike and of the same holds
pub order_held-same : (old new : State) (number article place : ℕ) → AreAlike old.rows new.rows
    → ((order k : ℕ) → new.held number order k ≡ old.held number order k)
    → order_held new number article place ≡ order_held old number article place
order_held-same old new number article place alike same =
    ap (λ n. sum_below n (units_of new.rows article (new.held number place))) alike.count
    ∙ sum-agree (length old.rows) _ _ (λ k within. alike.articles article (new.held number place) k
    ∙ units_of-agree old.rows article (new.held number place) (old.held number place) k (same place k))

-- a wave that holds the same as before holds what a wave in its state does
all_the_same : (old new : State) (number : ℕ) (v w : Wave) → w.orders ≡ v.orders → AreAlike old.rows new.rows
    → ((order k : ℕ) → new.held number order k ≡ old.held number order k) → wave_held new number (length w.orders) ≡ wave_held old number (length v.orders)
all_the_same old new number v w e alike same =
    ap (λ orders. wave_held new number (length orders)) e ∙ wave_held-same old new number (length v.orders) alike.count same

-- a wave holds what its state allows in rows that are alike, where its holds are the same
pub HoldsAs-same : (s : WaveState) (opening : Opening) (old new : State) (number : ℕ) (v w : Wave) → w.orders ≡ v.orders → AreAlike old.rows new.rows
    → ((order k : ℕ) → new.held number order k ≡ old.held number order k) → HoldsAs s opening old number v → HoldsAs s opening new number w
HoldsAs-same wave.Submitted opening old new number v w e alike same holds = all_the_same old new number v w e alike same ∙ holds
HoldsAs-same wave.Allotted opening old new number v w e alike same holds =
    λ place article. order_held-same old new number article place alike same ∙ holds place article
    ∙ ap (λ orders. demand_at opening orders article place) (sym e)
HoldsAs-same wave.Released opening old new number v w e alike same holds = subst (λ n. 0 < n) (sym (all_the_same old new number v w e alike same)) holds
HoldsAs-same wave.Cancelled opening old new number v w e alike same holds = all_the_same old new number v w e alike same ∙ holds
HoldsAs-same wave.Done opening old new number v w e alike same holds = all_the_same old new number v w e alike same ∙ holds
