use Rattle.std.proofs.Common.{◌≤◌, ◌<◌, ◌^◌, ℕ, List, All, IfSome, refl, sym, subst}
use Rattle.std.specs.Prelude.{sum}
use Rattle.std.proofs.lemmas.Option.{IfSome_then}
use Rattle.std.proofs.lemmas.Result.{IfOk-weaker}
use Rattle.wp_lengths.specs.Duals.{AreShares}
use Rattle.wp_pairs.specs.Permitted.{Pairing}
use Rattle.wp_lp.specs.Covers.{IsBelowCovers, pairs_of}
use Rattle.wp_lp.specs.Knowns.{AreSound, Reaches, ReachesShares}
use Rattle.wp_lp.specs.Roots.{HasRun, IsCauseOf, IsRoot}
use Rattle.wp_lp.specs.declared.root.Root.{Root}
use Rattle.wp_lp.specs.declared.root.RootState.{RootState}
use Rattle.wp_lp.proofs.FewRounds.{few_in_run}
use Rattle.wp_lp.proofs.Law.{below_covers}
use Rattle.wp_lp.proofs.Within.{both_ok, known_is, root_reaches}
use Rattle.wp_lp.proofs.bracket.root_after.Goals as goal

pub bracket-requires-clause-known : goal.bracket-requires-clause-known
bracket-requires-clause-known g c κs within =
    let wave = c.args.wave.now in
    let rule = pairs_of wave c.args.capacity in
    let own = subst (AreSound wave c.pairs_for-pairs.result) (sym c.as_slice.ensures.value) c.in_ok-shares.ensures.sound in
    let shares = subst (λ (p : Pairing). AreSound wave p c.as_slice.result.now) c.pairs_for-pairs.ensures.is own in
    let sound = c.best_known.ensures.sound wave rule c.requires.feasible c.requires.count shares in
    known_is wave c.args.capacity c.args.known.now.cost c.pairs_for-pairs.result c.args.known.now.batches.now c.best_known.result.now
    c.pairs_for-pairs.ensures.is c.requires.batching c.requires.cost sound

pub returns-clause-below : goal.returns-clause-below
returns-clause-below g c =
    let wave = c.args.wave.now in
    let pairs = c.pairs_for-pairs.result in
    IfOk-weaker c.bracket.result (IsRoot wave pairs c.args.rounds) _
    (λ root is. subst (λ (p : Pairing). IsBelowCovers wave p root.low root.denominator) c.pairs_for-pairs.ensures.is
    (below_covers wave pairs root.duals.items root.low root.denominator is.bracket.feasible is.bracket.low_is)) c.bracket.ensures.root

pub returns-clause-few : goal.returns-clause-few
returns-clause-few g c =
    let wave = c.args.wave.now in
    let pairs = c.pairs_for-pairs.result in
    let rule = pairs_of wave c.args.capacity in
    IfOk-weaker c.bracket.result (IsRoot wave pairs c.args.rounds) _
    (λ root is made all in_state permitted.
    let cause = subst (λ (s : RootState). IsCauseOf wave pairs c.args.rounds root.low root.high root.denominator s) in_state is.cause in
    few_in_run wave rule made all refl c.pairs_for-pairs.ensures.some_orders
    (subst (λ (p : Pairing). HasRun wave p made) c.pairs_for-pairs.ensures.is cause.1) permitted) c.bracket.ensures.root

pub returns-clause-no_lower : goal.returns-clause-no_lower
returns-clause-no_lower g c =
    let wave = c.args.wave.now in
    let pairs = c.pairs_for-pairs.result in
    let more = sum c.best_known.result.now in
    both_ok c.bracket.result (IsRoot wave pairs c.args.rounds) (Reaches more)
    (λ (root : Root). IfSome c.args.known.now.duals (λ duals. All (λ (dual : ℕ). dual < 2 ^ 34) duals.now → Reaches (sum duals.now) root))
    (λ root is reaches. IfSome_then c.args.known.now.duals c.best_known.ensures.known (λ duals most small.
    root_reaches wave pairs c.args.rounds (sum duals.now) more root (most small) is reaches)) c.bracket.ensures.root c.bracket.ensures.reaches

pub returns-clause-shares : goal.returns-clause-shares
returns-clause-shares g c =
    let wave = c.args.wave.now in
    let pairs = c.pairs_for-pairs.result in
    let shares = c.in_ok-shares.shares.items in
    let more = sum c.best_known.result.now in
    let are = subst (λ (p : Pairing). AreShares wave p.capacity shares) c.pairs_for-pairs.ensures.is c.in_ok-shares.ensures.are in
    let few = subst (λ (ds : List ℕ). sum ds ≤ more) c.as_slice.ensures.value c.best_known.ensures.shares in
    both_ok c.bracket.result (IsRoot wave pairs c.args.rounds) (Reaches more) (ReachesShares wave c.args.capacity)
    (λ root is reaches. (shares, are, root_reaches wave pairs c.args.rounds (sum shares) more root few is reaches)) c.bracket.ensures.root
    c.bracket.ensures.reaches
