-- Orders that columns hold.
use Rattle.std.proofs.Common.{◌≡◌, ◌<◌, ◌+◌, ℕ, arith, subst, sym}
use Rattle.std.proofs.Common.{◌⊎◌, ⊎_elim}
use Rattle.std.proofs.Common.{List, All, Contains}
use Rattle.std.specs.Prelude.{slice_index_or}
use Rattle.std.proofs.lemmas.List.Elements.{Contains-get_or}
use Rattle.wp_master.specs.Pools.{AreCovered, ColumnPool, IsCovered}

lt_or_is : (k n : ℕ) → k < n + 1 → (k < n) ⊎ (k ≡ n)
lt_or_is k n h = grind arith

-- where each order below one is held, and it too, each order below the next is
pub covered_more : (pool : ColumnPool) (n : ℕ) → AreCovered pool n → IsCovered pool n → AreCovered pool (n + 1)
covered_more pool n before this = λ k low. ⊎_elim (λ l. before k l) (λ (e : k ≡ n). subst (IsCovered pool) (sym e) this) (lt_or_is k n low)

-- what holds of each member of a list holds of all of it
pub all_from_contained : (P : ℕ → Type 0) (xs : List ℕ) → ((x : ℕ) → Contains xs x → P x) → All P xs
all_from_contained P xs each = λ k d low. each (slice_index_or xs k d) (Contains-get_or xs k d low)
