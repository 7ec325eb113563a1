use Rattle.std.proofs.Common.{rules, ◌≡◌, ◌<◌, ◌+◌, ℕ, List, [], ◌∷◌, ◌++◌, ap, length, slice_index, sym, subst}
use Rattle.wp_master.specs.Pivots.{column_place}
use Rattle.wp_master.proofs.Entries.{each_more}
use Rattle.wp_master.proofs.run.column_places.Goals as goal

pub loop-column-preserved : goal.loop-column-preserved
loop-column-preserved c =
    let behind : c.push.new.self.items ≡ c.loop-column.basis.items ++ (1 + c.loop-column.column) ∷ [] = search rules in
    record {
      count = search rules;
      each = subst (λ (xs : List ℕ). (row : ℕ) → row < length xs → slice_index xs row ≡ column_place row) (sym behind)
          (each_more (λ (row place : ℕ). place ≡ column_place row) c.loop-column.basis.items (1 + c.loop-column.column) 0 c.loop-column.invariant.each
          (ap (λ (k : ℕ). 1 + k) (sym c.loop-column.invariant.count)));
    }
