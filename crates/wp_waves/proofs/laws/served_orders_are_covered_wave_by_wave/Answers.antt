use Rattle.wp_waves.specs.Turns.{served_in, turns_of}
use Rattle.wp_waves.proofs.Weights.{covered_in_turn, served_are_covered}
use Rattle.wp_waves.proofs.laws.served_orders_are_covered_wave_by_wave.Goals as goal

pub returns : goal.returns
returns c = record {
  together = served_are_covered;
  in_turn = λ opening free listed waves is same.
      covered_in_turn opening free (served_in (turns_of opening free listed)) waves same (λ article. served_are_covered opening free listed article is);
}
