use Rattle.std.proofs.Common.{◌≡◌, ◌++◌, string_bytes}
use Rattle.std.specs.List.{flat_map, range_with_len}
use Rattle.wp_make.specs.Records.{wave_records}
use Rattle.wp_make.specs.Texts.{record_line}
use Rattle.wp_tables.specs.DeskFile.{desks_heading}
use Rattle.wp_make.proofs.desks.made_desks_text.Given as goal

-- the heading was written, and the commands of so many waves
abbrev pub invariant-loop-waves : goal.invariant-loop-waves
invariant-loop-waves l = string_bytes l.text ≡ record_line desks_heading
    ++ flat_map (λ waves. flat_map record_line (wave_records l.size waves)) (range_with_len 0 l.waves)
