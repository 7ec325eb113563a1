use Rattle.std.proofs.Common.{◌∙◌, arith, get_or}
use Rattle.std.proofs.lemmas.List.{get_or_default}
use Rattle.wp_outgoing.proofs.NamedWaves.{out_more}
use Rattle.wp_outgoing.proofs.waves_out.with_names.Goals as goal

pub loop-place-preserved : goal.loop-place-preserved
loop-place-preserved c =
    out_more c.args.names.now c.args.waves.now c.args.starts.now c.loop-place.place c.loop-place.out.items c.push.new.self.items c.in_ok-wave.wave
    c.requires.names c.requires.starts c.loop-place-test.true c.in_ok-push.ensures.items
    (record {
      name = c.index-names-place.result;
      orders = c.index-waves-place.result;
      start = get_or c.args.starts.now c.loop-place.place 0;
      name_at = c.index-names-place.is;
      orders_at = c.index-waves-place.is;
      start_at = get_or_default c.args.starts.now c.loop-place.place 0 (get_or c.args.starts.now c.loop-place.place 0) (omega arith);
      named = c.in_ok-wave.ensures.name;
      filled = c.in_ok-wave.ensures.orders ∙ c.as_slice-orders.ensures.value;
      begun = c.in_ok-wave.ensures.start;
    })
    c.loop-place.invariant
