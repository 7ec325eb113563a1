use Rattle.std.proofs.Common.{◌≡◌, ◌∙◌, ap, drop, map, subst, sym, take}
use Rattle.std.proofs.lemmas.List.{drop-map, length-drop}
use Rattle.std.specs.Borrow.{Bor}
use Rattle.wp_model.specs.declared.entry.Entry.{Entry}
use Rattle.wp_top.proofs.Writing.{take_all}
use Rattle.wp_top.proofs.store.entries_after.Goals as goal

abbrev lent : Bor Entry → Entry
lent entry = entry.now

pub returns : goal.returns
returns c =
    let entries = c.args.entries.now in
    let n = c.args.count in
    ap (map lent) (subst (λ (k : _). take k (drop n entries) ≡ drop n entries) (length-drop n entries) (take_all (drop n entries)))
    ∙ sym (drop-map lent n entries)
