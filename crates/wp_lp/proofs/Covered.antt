-- The pools of a search have each order in some batch.
use Rattle.std.proofs.Common.{◌≡◌, sym, subst, ℕ, ◌<◌, List, [], ◌∷◌, Contains, length, arith}
use Rattle.std.proofs.lemmas.List.Elements.{Contains-append_left, Contains-get_or}
use Rattle.wp_graph.proofs.Members.{Contains-from_among, among_from_Contains, map_source}
use Rattle.wp_pairs.specs.Permitted.{Pairing}
use Rattle.wp_lengths.specs.Waves.{WavePicks}
use Rattle.wp_master.specs.Pools.{AreCovered, ColumnPool}
use Rattle.wp_master.specs.declared.column.Column.{Column}
use Rattle.wp_lp.specs.Rounds.{IsEnd, IsPoolHalt, IsRunPool}
use Rattle.wp_lp.specs.Runs.{IsPermittedPool, PricedRun}
use Rattle.wp_lp.specs.Runs.PricedRun.{start, onward}
use Rattle.wp_lp.specs.declared.halt.Halt.{Halt}
use Rattle.wp_lp.specs.declared.halt.Halt.TheVariants as halt
use Rattle.wp_lp.specs.declared.root.RootState.TheVariants.{Narrow, Rounds, Turns, Wide}

-- some batch of a priced run has the order
run_holds : (wave : WavePicks) (pairing : Pairing) (made : ℕ) (batches : List (List ℕ)) → PricedRun wave pairing made batches → (order : ℕ)
    → order < pairing.orders → (batch : List ℕ) × Contains batches batch × Contains batch order
run_holds wave pairing _ batches (start batching) order low =
    let held = batching.covered order low in (_, Contains-get_or batches held.0 [] held.1, held.2)
run_holds wave pairing _ _ (onward {made} {batches} {batch} before priced) order low =
    let held = run_holds wave pairing made batches before order low in
    (held.0, Contains-append_left batches (batch ∷ []) held.0 held.1, held.2)

-- so some column of its pool holds it
pub run_covers : (wave : WavePicks) (pairing : Pairing) (made : ℕ) (pool : ColumnPool) → pairing.orders ≡ length wave.orders
    → IsRunPool wave pairing made pool → AreCovered pool pool.orders
run_covers wave pairing made pool as_many is order low =
    let held = run_holds wave pairing made _ is.run order (omega (arith, low, as_many, is.is_pool.is_pool.orders)) in
    let source = map_source (λ (column : Column). column.batch) pool.columns held.0 (among_from_Contains _ held.0 held.1) in
    (source.0, Contains-from_among pool.columns source.0 source.1, subst (λ (batch : List ℕ). Contains batch order) (sym source.2) held.2)

-- what ends the solving of a pool that holds each order ends the search
pub pool_halt_ends : (wave : WavePicks) (pairing : Pairing) (pool : ColumnPool) → IsPermittedPool wave pairing pool → AreCovered pool pool.orders
    → (rounds : ℕ) (why : Halt) → IsPoolHalt pool why → IsEnd wave pairing rounds why
pool_halt_ends wave pairing pool permitted covered rounds halt.Memory is = tt
pool_halt_ends wave pairing pool permitted covered rounds (halt.NoCover order) is = is.uncovered (covered order is.known)
pool_halt_ends wave pairing pool permitted covered rounds (halt.Ended Narrow) is = is
pool_halt_ends wave pairing pool permitted covered rounds (halt.Ended (Rounds made)) is = absurd is
pool_halt_ends wave pairing pool permitted covered rounds (halt.Ended (Turns made)) is = (is.0, (pool, is.1.0, permitted, is.1.1))
pool_halt_ends wave pairing pool permitted covered rounds (halt.Ended (Wide left right)) is =
    record { pool = pool; is_pool = permitted; kind = is.0; leaves = is.1 }
