use Rattle.std.proofs.Common.{rules, ◌≡◌, ◌/◌, ◌%◌, ℕ, ℤ, pos, [], ◌∷◌, ◌++◌, sym, subst}
use Rattle.std.proofs.lemmas.Int.{to_z-of_z}
use Rattle.wp_master.specs.Spots.{AreStoredStarts, IsStoredStart}
use Rattle.wp_master.proofs.Entries.{each_more}
use Rattle.wp_master.proofs.start.stored_entries.Goals as goal

pub loop-at-preserved : goal.loop-at-preserved
loop-at-preserved c =
    let P = λ (k : ℕ) (x : ℤ). IsStoredStart c.args.pool.now (k / c.args.width) (k % c.args.width) x in
    let behind : c.push.new.self.items ≡ c.loop-at.entries.items ++ c.stored_entry.result ∷ [] = search (rules, to_z-of_z) in
    let here = subst (λ (k : ℕ). P k c.stored_entry.result) (sym c.loop-at.invariant.count) c.stored_entry.ensures in
    record {
      count = search rules;
      each = subst (AreStoredStarts c.args.pool.now c.args.width) (sym behind)
          (each_more P c.loop-at.entries.items c.stored_entry.result (pos 0) c.loop-at.invariant.each here);
    }
