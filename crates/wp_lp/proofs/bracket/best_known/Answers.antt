use Rattle.std.proofs.Common.{◌≡◌, ◌<◌, ◌^◌, ℕ, All, length, sym, subst, ⊎_elim}
use Rattle.wp_lengths.specs.Duals.{AreFeasible}
use Rattle.wp_lp.specs.Knowns.{AreSound}
use Rattle.wp_lp.proofs.bracket.best_known.Goals as goal

pub returns-in-Some-clause-sound : goal.returns-in-Some-clause-sound
returns-in-Some-clause-sound c = λ wave pairing feasible count shares.
    let duals = c.in-Some.duals.now in
    let own : AreFeasible wave pairing duals = rw c.in-Some.is at feasible in
    let many : length duals ≡ length wave.orders = rw c.in-Some.is at count in
    ⊎_elim (λ (known : (c.best_of.result.now ≡ duals) × All (λ (dual : ℕ). dual < 2 ^ 34) duals).
    subst (AreSound wave pairing) (sym known.0) (record { feasible = own; count = many; small = known.1 }))
    (λ (same : c.best_of.result.now ≡ c.args.shares.now). subst (AreSound wave pairing) (sym same) shares) c.best_of.ensures.either
