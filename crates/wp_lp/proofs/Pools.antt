-- Pools of a wave's batches.
use Rattle.std.proofs.Common.{◌≡◌, ℕ, suc, ◌+◌, ◌<◌, ◌^◌, All, List, Option, [], ◌∷◌, ◌++◌, arith, length, take, get_or, refl, ap, sym, ◌∙◌, subst}
use Rattle.std.proofs.lemmas.List.{map_push, take_more}
use Rattle.std.proofs.lemmas.List.Elements.{All-push}
use Rattle.wp_lengths.specs.Batchings.{IsBatching, batch_at, no_pairs}
use Rattle.wp_lengths.specs.Lengths.{IsLengthOf}
use Rattle.wp_lengths.specs.Waves.{WavePicks}
use Rattle.wp_lengths.proofs.Unions.{nothing_in}
use Rattle.wp_pairs.specs.Carts.{FitsAnyCart, LoadedCart}
use Rattle.wp_pairs.specs.Permitted.{IsPermitted, Pairing}
use Rattle.wp_master.specs.Pools.{ColumnPool}
use Rattle.wp_master.specs.declared.column.Column.{Column}
use Rattle.wp_lp.specs.Rounds.{IsRunPool, IsShortPool}
use Rattle.wp_lp.specs.Runs.{IsBatchingUnder, IsPriced, PricedRun, batches_of}
use Rattle.wp_lp.specs.Runs.PricedRun.{start, onward}

-- one more item of a list that is taken
pub taken_more : {X : Type 0} (xs : List X) (i : ℕ) (x : X) → i < length xs → x ≡ get_or xs i x → take (i + 1) xs ≡ take i xs ++ x ∷ []
taken_more xs i x low is = take_more xs i x low ∙ ap (λ y. take i xs ++ y ∷ []) (sym is)

-- a pool of these batches, which are permitted
pub record IsPoolSoFar (wave : WavePicks) (pairing : Pairing) (batches : List (List ℕ)) (pool : ColumnPool) : Type 0 where
  pub are : batches_of pool ≡ batches
  pub short : IsShortPool wave pairing pool

-- a pool to which one more batch is added
pub one_more_column : (wave : WavePicks) (pairing : Pairing) (batches : List (List ℕ)) (batch : List ℕ) (long : ℕ) (old new : ColumnPool)
    → IsPoolSoFar wave pairing batches old → IsPermitted pairing batch → IsLengthOf wave batch long → long < 2 ^ 28
    → new ≡ record { orders = old.orders; columns = old.columns ++ record { batch = batch; length = long } ∷ [] }
    → IsPoolSoFar wave pairing (batches ++ batch ∷ []) new
one_more_column wave pairing batches batch long old new before permitted is small e =
    let pool = before.short.is_pool in
    subst (IsPoolSoFar wave pairing (batches ++ batch ∷ [])) (sym e) (record {
      are = map_push (λ (column : Column). column.batch) old.columns (record { batch = batch; length = long })
          ∙ ap (λ (xs : List (List ℕ)). xs ++ batch ∷ []) before.are;
      short = record {
        is_pool = record {
          orders = pool.orders;
          permitted = All-push (λ (column : Column). IsPermitted pairing column.batch) old.columns _ pool.permitted permitted;
          lengths = All-push (λ (column : Column). IsLengthOf wave column.batch column.length) old.columns _ pool.lengths is;
        };
        short = All-push (λ (column : Column). column.length < 2 ^ 28) old.columns _ before.short.short small;
      };
    })

-- the pool of a batching begins a run
pub run_begins : (wave : WavePicks) (pairing : Pairing) (batches taken : List (List ℕ)) (pool : ColumnPool) → IsBatchingUnder pairing batches
    → taken ≡ batches → IsPoolSoFar wave pairing taken pool → IsRunPool wave pairing 0 pool
run_begins wave pairing batches taken pool batching e is = record {
  run = subst (PricedRun wave pairing 0) (sym (is.are ∙ e)) (start batching);
  is_pool = is.short;
}

-- a priced batch is added to the pool of a run
pub run_goes_on : (wave : WavePicks) (pairing : Pairing) (made : ℕ) (batch : List ℕ) (long : ℕ) (old new : ColumnPool) → IsRunPool wave pairing made old
    → IsPriced wave pairing (batches_of old) batch → IsLengthOf wave batch long → long < 2 ^ 28
    → new ≡ record { orders = old.orders; columns = old.columns ++ record { batch = batch; length = long } ∷ [] } → IsRunPool wave pairing (suc made) new
run_goes_on wave pairing made batch long old new before priced is small e =
    let more = one_more_column wave pairing (batches_of old) batch long old new
    (record { are = refl; short = before.is_pool }) priced.permitted is small e in record {
      run = subst (PricedRun wave pairing (suc made)) (sym more.are) (onward before.run priced);
      is_pool = more.short;
    }

-- a batch that is permitted where no pair is decided is permitted under pairs of the same orders, cart and capacity of which none is
permitted_under : (wave : WavePicks) (pairing : Pairing) (capacity : ℕ) (batch : List ℕ) → pairing.orders ≡ length wave.orders → pairing.cart ≡ wave.cart
    → pairing.pairs ≡ [] → capacity ≡ pairing.capacity → IsPermitted (no_pairs wave capacity) batch → IsPermitted pairing batch
permitted_under wave pairing capacity batch as_many same_cart none most permitted = record {
  ascending = permitted.ascending;
  filled = permitted.filled;
  fits = omega (arith, most, permitted.fits);
  light = subst (λ (cart : Option LoadedCart). FitsAnyCart cart batch) (sym same_cart) permitted.light;
  known = subst (λ (n : ℕ). All (λ (order : ℕ). order < n) batch) (sym as_many) permitted.known;
  together = λ pair added kind. absurd (nothing_in pairing.pairs pair none added);
  apart = λ pair added kind both. nothing_in pairing.pairs pair none added;
}

-- a batching of a wave's orders is one under its pairs
pub batching_under : (wave : WavePicks) (pairing : Pairing) (capacity : ℕ) (batches : List (List ℕ)) → pairing.orders ≡ length wave.orders
    → pairing.cart ≡ wave.cart → pairing.pairs ≡ [] → capacity ≡ pairing.capacity → IsBatching wave capacity batches → IsBatchingUnder pairing batches
batching_under wave pairing capacity batches as_many same_cart none most batching = record {
  each = λ place within.
      permitted_under wave pairing capacity (batch_at batches place) as_many same_cart none most (batching.each place within);
  covered = λ order low. batching.covered order (subst (λ (n : ℕ). order < n) as_many low);
  once = batching.once;
}
