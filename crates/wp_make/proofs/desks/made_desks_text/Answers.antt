use Rattle.std.proofs.Common.{◌≡◌, ◌∙◌, ◌+◌, ap, arith, refl, string_bytes}
use Rattle.std.specs.List.{flat_map}
use Rattle.wp_make.specs.Records.{wave_records}
use Rattle.wp_make.specs.Sizes.{wave_count}
use Rattle.wp_make.specs.Texts.{record_line}
use Rattle.wp_tables.specs.DeskFile.{desks_heading}
use Rattle.wp_make.proofs.Growth.{grown, grown_by_parts}
use Rattle.wp_make.proofs.desks.made_desks_text.Goals as goal

pub loop-waves-preserved : goal.loop-waves-preserved
loop-waves-preserved c =
    let waves = c.loop-waves.waves in
    grown (λ waves. flat_map record_line (wave_records c.args.size waves)) 0 waves waves (waves + 1) (record_line desks_heading)
    (string_bytes c.loop-waves.text) (string_bytes c.print_wave.new.text) (omega arith) refl c.loop-waves.invariant c.in_ok-print_wave.ensures

pub returns : goal.returns
returns c =
    let all : c.loop-waves.waves ≡ wave_count c.args.size =
    omega (arith, c.loop-waves-test.false, c.loop-waves.auto.waves-end, c.div_ceil-waves-end.ensures) in
    ap (λ v. v.items) c.into_bytes.ensures.value
    ∙ grown_by_parts record_line (wave_records c.args.size) 0 c.loop-waves.waves (wave_count c.args.size) (record_line desks_heading)
    (string_bytes c.loop-waves.text) all c.loop-waves.invariant
