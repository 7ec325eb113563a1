use Rattle.wp_waves_top.proofs.Outputs.{few_before}
use Rattle.wp_waves_top.proofs.output.output_of.Goals as goal

pub sent_text-requires-clause-few : goal.sent_text-requires-clause-few
sent_text-requires-clause-few g c κs within =
    few_before (g.F.Files.told c.open_if_named.new.files).holds c.args.warehouse.now.opening _ c.in_ok-machine.machine c.in_ok-machine.ensures.before
