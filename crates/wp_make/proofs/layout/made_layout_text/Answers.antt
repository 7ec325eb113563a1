use Rattle.std.proofs.Common.{◌≡◌, ◌∙◌, sym, ap, Ok}
use Rattle.wp_layout.specs.LayoutFile.{layout_said}
use Rattle.wp_layout.specs.LayoutText.{layout_text}
use Rattle.wp_model.specs.Journal.{line}
use Rattle.wp_make.specs.Texts.{made_layout}
use Rattle.wp_make.proofs.LayoutRead.{made_said}
use Rattle.wp_make.proofs.layout.made_layout_text.Goals as goal

pub returns-clause-reads_back : goal.returns-clause-reads_back
returns-clause-reads_back c =
    let layout = made_layout c.args.aisles in
    let printed = c.in_ok-text.ensures in
    let text = printed.text ∙ ap layout_text c.made_layout.ensures in
    let said : layout_said (layout_text layout) ≡ Ok layout = sym (ap layout_said text) ∙ (printed.reads_back ∙ ap Ok c.made_layout.ensures) in
    ap layout_said (c.in_ok-push.ensures.items ∙ ap line text) ∙ made_said c.args.aisles (c.requires.some, c.requires.most) said
