use Rattle.std.proofs.Common.{ap, arith, length}
use Rattle.std.proofs.lemmas.List.{length-map}
use Rattle.wp_planner.proofs.ListedBatches.{count_lengths}
use Rattle.wp_planner.specs.Crews.{DayBatch}
use Rattle.wp_top.proofs.sections.print_dealt.Goals as goal

pub append_crew-requires-clause-names : goal.append_crew-requires-clause-names
append_crew-requires-clause-names c =
    let batches = c.requires.1 in
    let dealt = c.requires.2 in
    omega (
      arith,
      ap length c.deref.ensures.value,
      ap length dealt.listed.waves,
      length-map batches (λ (batch : DayBatch). batch.wave),
      count_lengths batches c.args.dealt.now.batches.lengths.items dealt.listed.lengths,
      dealt.crew.assigned.each,
    )

pub append_crew-requires-clause-numbers : goal.append_crew-requires-clause-numbers
append_crew-requires-clause-numbers c =
    let batches = c.requires.1 in
    let dealt = c.requires.2 in
    omega (
      arith,
      ap length c.deref-2.ensures.value,
      ap length dealt.listed.numbers,
      length-map batches (λ (batch : DayBatch). batch.number),
      count_lengths batches c.args.dealt.now.batches.lengths.items dealt.listed.lengths,
      dealt.crew.assigned.each,
    )
