use Rattle.std.proofs.Common.{rules, ◌≡◌, ◌<◌, ℕ, ℤ, pos, List, [], ◌∷◌, ◌++◌, length, sym, subst}
use Rattle.std.proofs.lemmas.Int.{to_z-of_z}
use Rattle.wp_master.specs.Pairs.{number_at}
use Rattle.wp_master.specs.Pivots.{order_place}
use Rattle.wp_master.specs.Runs.{IsDual}
use Rattle.wp_master.proofs.Entries.{each_more}
use Rattle.wp_master.proofs.run.Run.duals.Goals as goal

pub loop-order-preserved : goal.loop-order-preserved
loop-order-preserved c =
    let P = λ (order : ℕ) (x : ℤ). IsDual c.args.self.now.table c.args.self.now.basis.items (order_place c.args.pool.now order) x in
    let behind : c.push.new.self.items ≡ c.loop-order.duals.items ++ c.dual.result ∷ [] = search (rules, to_z-of_z) in
    let this : P c.loop-order.order c.dual.result = search rules in
    record {
      count = search rules;
      each = subst (λ (xs : List ℤ). (order : ℕ) → order < length xs → P order (number_at xs order)) (sym behind)
          (each_more P c.loop-order.duals.items c.dual.result (pos 0) c.loop-order.invariant.each
          (subst (λ (k : ℕ). P k c.dual.result) (sym c.loop-order.invariant.count) this));
    }
