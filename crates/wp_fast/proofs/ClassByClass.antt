-- Rows and summaries, class by class.
use Rattle.std.proofs.Common.{◌≡◌, ℕ, Option, subst, sym}
use Rattle.wp_classes.specs.declared.class.Class.{Class}
use Rattle.wp_classes.specs.declared.class.Class.TheVariants.{UU1, E01, ZE1, EE1, EE2, Z00, Z01}
use Rattle.wp_classes.specs.Onward.{IsLeastOf}
use Rattle.wp_fast.specs.declared.row.LengthsAcross.{LengthsAcross}
use Rattle.wp_fast.specs.declared.row.LengthRow.{LengthRow}
use Rattle.wp_fast.specs.declared.summary.Summary.{Summary}
use Rattle.wp_fast.specs.Passages.{AreLeast}
use Rattle.wp_fast.specs.Rows.{length_at, length_to}
use Rattle.wp_fast.specs.Summaries.{length_between}

-- what holds of each length of a row
pub row_each : (P : Class → Option ℕ → Type 0) (lengths : LengthsAcross) (row : LengthRow) → ((after : Class) → length_to row after ≡ length_at lengths after) →
    P UU1 lengths.uu1 → P E01 lengths.e01 → P ZE1 lengths.ze1 → P EE1 lengths.ee1 → P EE2 lengths.ee2 → P Z00 lengths.z00 → P Z01 lengths.z01
    → (after : Class) → P after (length_to row after)
row_each P lengths row are a b c d e f g after = subst (P after) (sym (are after)) (at after)
  where
    at : (class : Class) → P class (length_at lengths class)
    at UU1 = a
    at E01 = b
    at ZE1 = c
    at EE1 = d
    at EE2 = e
    at Z00 = f
    at Z01 = g

-- a summary of rows whose lengths are the least
pub rows_least : (P : Class → Class → ℕ → Type 0) (summary : Summary) →
    ((after : Class) → IsLeastOf (P UU1 after) (length_to summary.uu1 after)) → ((after : Class) → IsLeastOf (P E01 after) (length_to summary.e01 after)) →
    ((after : Class) → IsLeastOf (P ZE1 after) (length_to summary.ze1 after)) → ((after : Class) → IsLeastOf (P EE1 after) (length_to summary.ee1 after)) →
    ((after : Class) → IsLeastOf (P EE2 after) (length_to summary.ee2 after)) → ((after : Class) → IsLeastOf (P Z00 after) (length_to summary.z00 after)) →
    ((after : Class) → IsLeastOf (P Z01 after) (length_to summary.z01 after)) → AreLeast P summary
rows_least P summary a b c d e f g = record { least = at }
  where
    at : (before after : Class) → IsLeastOf (P before after) (length_between summary before after)
    at UU1 after = a after
    at E01 after = b after
    at ZE1 after = c after
    at EE1 after = d after
    at EE2 after = e after
    at Z00 after = f after
    at Z01 after = g after
