use Rattle.std.proofs.Common.{ℕ, List, refl, sym, subst, ◌∙◌}
use Rattle.wp_lengths.specs.Batchings.{IsBatching, IsCost}
use Rattle.wp_pairs.specs.Permitted.{Pairing}
use Rattle.wp_lp.specs.Covers.{pairs_of}
use Rattle.wp_lp.specs.Knowns.{AreSound}
use Rattle.wp_lp.specs.Runs.{IsBatchingUnder}
use Rattle.wp_lp.proofs.Pools.{batching_under}
use Rattle.wp_lp.proofs.Within.{known_is}
use Rattle.wp_lp.proofs.bracket.root_from_start.Goals as goal

pub batching_cost-requires : goal.batching_cost-requires
batching_cost-requires g c =
    let rule = pairs_of c.args.wave.now c.args.capacity in
    subst (λ (p : Pairing). IsBatchingUnder p c.as_slice.result.now) (sym c.pairs_for-pairs.ensures.is)
    (batching_under c.args.wave.now rule c.args.capacity c.as_slice.result.now refl refl refl refl
    (subst (IsBatching c.args.wave.now c.args.capacity) (sym c.as_slice.ensures) c.in_ok-batching.ensures.batching))

pub bracket-requires-clause-known : goal.bracket-requires-clause-known
bracket-requires-clause-known g c κs within =
    let wave = c.args.wave.now in
    let batches = c.as_slice-2.result.now in
    let same = c.as_slice.ensures ∙ sym c.as_slice-2.ensures in
    let own = subst (AreSound wave c.pairs_for-pairs.result) (sym c.as_slice-3.ensures.value) c.in_ok-shares.ensures.sound in
    let sound = subst (λ (p : Pairing). AreSound wave p c.as_slice-3.result.now) c.pairs_for-pairs.ensures.is own in
    known_is wave c.args.capacity c.in_ok-cost.cost c.pairs_for-pairs.result batches c.as_slice-3.result.now c.pairs_for-pairs.ensures.is
    (subst (IsBatching wave c.args.capacity) (sym c.as_slice-2.ensures) c.in_ok-batching.ensures.batching)
    (subst (λ (bs : List (List ℕ)). IsCost wave bs c.in_ok-cost.cost) same c.in_ok-cost.ensures) sound
