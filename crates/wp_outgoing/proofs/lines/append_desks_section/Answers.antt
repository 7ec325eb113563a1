use Rattle.std.specs.List.{flat_map}
use Rattle.wp_outgoing.specs.Lines.{sending_lines}
use Rattle.wp_outgoing.proofs.Written.{three_added}
use Rattle.wp_outgoing.proofs.lines.append_desks_section.Goals as goal

pub returns : goal.returns
returns c =
    three_added c.args.text.now.items c.extend_from_slice.new.self.items c.append_sendings.new.text.items c.extend_from_slice-2.new.self.items _
    (flat_map (sending_lines c.args.desk) c.args.waves.now) _ c.in_ok-extend_from_slice.ensures.items c.in_ok-append_sendings.ensures
    c.in_ok-extend_from_slice-2.ensures.items
