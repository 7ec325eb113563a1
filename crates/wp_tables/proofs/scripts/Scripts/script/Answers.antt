use Rattle.std.proofs.Common.{◌∙◌, ap}
use Rattle.wp_model.specs.History.{script_of}
use Rattle.wp_tables.proofs.DeskScripts.{script_kept, script_plain}
use Rattle.wp_tables.proofs.scripts.Scripts.script.Goals as goal

pub returns-clause-script : goal.returns-clause-script
returns-clause-script c =
    let last = rw (← c.self.view_is) at c.requires.last in
    c.as_slice.ensures.value
    ∙ (script_kept c.self.inside.scripts.items c.args.desk c.index.result.now c.self.invariant c.requires.first last c.index.ensures
    ∙ ap (λ scripts. script_of scripts c.args.desk) c.self.view_is)

pub returns-clause-plain : goal.returns-clause-plain
returns-clause-plain c =
    let last = rw (← c.self.view_is) at c.requires.last in
    rw c.as_slice.ensures.value
    (script_plain c.self.inside.scripts.items c.args.desk c.index.result.now c.self.invariant c.requires.first last c.index.ensures)
