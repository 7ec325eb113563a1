-- Tours past what a batch picks.
use Rattle.std.proofs.Common.{◌≡◌, ℕ, ◌↔◌, List, Contains, subst}
use Rattle.wp_lengths.proofs.Unions.{one_length, same_shortest, same_tour}
use Rattle.wp_lengths.specs.Lengths.{IsLengthOf, batch_picks}
use Rattle.wp_lengths.specs.Waves.{WavePicks}
use Rattle.wp_model.specs.Tours.{IsShortest, IsTour}
use Rattle.wp_model.specs.Warehouse.{Layout}
use Rattle.wp_model.specs.declared.point.Point.{Point}

-- a shortest tour past all that a batch picks, in any list, is of the batch's length
pub batch_tour : (wave : WavePicks) (batch : List ℕ) (layout : Layout) (points walk : List Point) (total other : ℕ) → layout ≡ wave.layout
    → ((p : Point) → Contains points p ↔ Contains (batch_picks wave batch) p) → IsLengthOf wave batch total → IsShortest layout points other
    → IsTour layout points walk other → IsTour wave.layout (batch_picks wave batch) walk total
batch_tour wave batch layout points walk total other is same shortest least tour =
    let here = subst (λ (l : Layout). IsShortest l points other) is least in
    let goes = subst (λ (l : Layout). IsTour l points walk other) is tour in
    let one : other ≡ total = one_length wave.layout (batch_picks wave batch) other total
    (same_shortest wave.layout points (batch_picks wave batch) other same here) shortest in
    subst (λ (n : ℕ). IsTour wave.layout (batch_picks wave batch) walk n) one
    (same_tour wave.layout points (batch_picks wave batch) walk other (λ p. (same p).1) goes)
