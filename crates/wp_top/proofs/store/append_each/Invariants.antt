use Rattle.std.proofs.Common.{◌≡◌, ◌+◌, ◌≤◌, false, length, map}
use Rattle.wp_top.proofs.Storing.{HasAppended}
use Rattle.wp_top.proofs.store.append_each.Given as goal

-- the entries so far were added, and are acknowledged
abbrev pub invariant-loop-entry : goal.invariant-loop-entry
invariant-loop-entry g l =
    let told = g.D.Disk.told in
    HasAppended (told l.initial.store.disk.now) (told l.store.disk.now) (map (λ entry. entry.now) l.entries) l.entry-index
    × (l.store.is_broken ≡ false) × (l.store.count ≡ l.initial.store.count + l.entry-index)
    × (l.store.disk.ghost_name ≡ l.initial.store.disk.ghost_name) × (l.entry-index ≤ length l.entries)
