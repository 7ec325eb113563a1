use Rattle.std.proofs.Common.{rules, ◌≡◌, ◌<◌, ℕ, ℤ, pos, List, [], ◌∷◌, ◌++◌, length, sym, subst}
use Rattle.std.proofs.lemmas.Int.{to_z-of_z}
use Rattle.wp_master.specs.Pairs.{number_at}
use Rattle.wp_master.specs.Pivots.{column_place, entry_of, last_row}
use Rattle.wp_master.proofs.Entries.{each_more}
use Rattle.wp_master.proofs.run.Run.weights.Goals as goal

pub loop-column-preserved : goal.loop-column-preserved
loop-column-preserved c =
    let table = c.args.self.now.table in
    let P = λ (column : ℕ) (x : ℤ). x ≡ entry_of table (last_row c.args.pool.now) (column_place column) in
    let behind : c.push.new.self.items ≡ c.loop-column.weights.items ++ c.entry.result ∷ [] = search (rules, to_z-of_z) in
    let this : P c.loop-column.column c.entry.result = search rules in
    record {
      count = search rules;
      each = subst (λ (xs : List ℤ). (column : ℕ) → column < length xs → P column (number_at xs column)) (sym behind)
          (each_more P c.loop-column.weights.items c.entry.result (pos 0) c.loop-column.invariant.each
          (subst (λ (k : ℕ). P k c.entry.result) (sym c.loop-column.invariant.count) this));
    }
