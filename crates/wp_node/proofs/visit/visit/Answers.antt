use Rattle.std.proofs.Common.{ap, subst, ◌∙◌}
use Rattle.std.specs.Prelude.{IfOk}
use Rattle.wp_lengths.specs.Waves.{WavePicks}
use Rattle.wp_visit.specs.Places.{Task}
use Rattle.wp_node.specs.Finds.{AreFinds}
use Rattle.wp_node.proofs.visit.visit.Goals as goal

pub together-requires : goal.together-requires
together-requires g c = rw c.as_slice-3.ensures.value c.in_ok-found.ensures

pub returns : goal.returns
returns g c = subst (λ (wave : WavePicks). IfOk c.together.result (λ finds. AreFinds wave finds.items))
    (ap (λ (task : Task). task.wave) c.in_ok-visit.ensures ∙ c.of-given.ensures.wave) c.together.ensures
