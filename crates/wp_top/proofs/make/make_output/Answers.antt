use Rattle.std.proofs.Common.{refl, Some}
use Rattle.std.proofs.lemmas.Result.{IfErr-weaker}
use Rattle.wp_outside.specs.InMemory.{bytes_or_empty}
use Rattle.wp_outside.specs.Outside.{FilesTold}
use Rattle.wp_top.proofs.MadeFiles.{wants_memory_alone}
use Rattle.wp_top.proofs.make.make_output.Goals as goal
use Rattle.wp_top.specs.Stops.{day_files}

pub returns-clause-stops : goal.returns-clause-stops
returns-clause-stops g c =
    let held = c.in_ok-files.ensures in
    let old : FilesTold = record {
      holds = λ name. Some
          (bytes_or_empty c.in_ok-files.files.files name);
      faults = λ name. 0;
      reads = c.in_ok-files.files.reads;
    } in
    let after = c.summary_of_files.new.files in
    let new : FilesTold = record { holds = λ name. Some (bytes_or_empty after.files name); faults = λ name. 0; reads = after.reads } in
    IfErr-weaker c.summary_of_files.result _ _
    (λ why stops. wants_memory_alone old new day_files held.day why held.told (λ name. refl) stops)
    c.summary_of_files.ensures.stops
