use Rattle.std.proofs.Common.{◌∙◌, ap, sym, string_bytes}
use Rattle.std.specs.List.{list_all}
use Rattle.wp_layout.specs.LayoutFile.{is_key}
use Rattle.wp_layout.proofs.KeyNames.{names_known}
use Rattle.wp_layout.proofs.reading.are_keys.Goals as goal

pub loop-name-init : goal.loop-name-init
loop-name-init c =
    let names = c.into_iter-name-iterator.ensures.into_iter_gives ∙ c.keys-name-items.ensures.rest in
    (tt, tt, names_known c.args.keys.now c.args.members.now.entries ∙ ap (list_all (λ name. is_key c.args.keys.now (string_bytes name))) (sym names))
