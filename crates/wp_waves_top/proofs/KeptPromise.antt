-- A run of `waves` keeps its promise, however it ended.
use Rattle.std.proofs.Common.{◌≡◌, ◌∙◌, refl, sym, ap, subst, ℕ, false, inl, inr, List, [], Option, Some, None, arith}
use Rattle.std.proofs.lemmas.List.{append-nil}
use Rattle.wp_outside.specs.Outside.{Grows, NoneFalls, SameBytes, SinkTold}
use Rattle.wp_top.specs.Ends.{ReadsWithin}
use Rattle.wp_top.specs.Stops.{status_number}
use Rattle.wp_top.specs.declared.status.Status.{Status}
use Rattle.wp_waves_top.proofs.DueEndings.{ends_for_bad_input, ends_for_false, ends_for_good, ends_for_words}
use Rattle.wp_waves_top.proofs.Statuses.{due, few_statuses, part_taken, sink_rose, sink_sound, sink_stands, stands, when_done, when_fault, when_refused, when_words}
use Rattle.wp_waves_top.proofs.Statuses.{when_wrong, whole}
use Rattle.wp_waves_top.specs.Ends.{Asked, End, Finishes, HasEnded, IsEnding, most_reads, text_of}
use Rattle.wp_waves_top.specs.Promise.{Course, Keeps}

-- what a run keeps whatever its ending
pub record IsFrame (asked : Asked) (run : Course) : Type 0 where
  pub same : SameBytes run.files.holds run.files'.holds
  pub counts : NoneFalls run.files.faults run.files'.faults
  pub reads : ReadsWithin run.files run.files' (most_reads asked)
  pub no_more : run.sink.stopped ≡ false → run.sink'.late ≡ run.sink.late

-- a run that ended with an end keeps its promise
keeps : (asked : Asked) (run : Course) (ended : Status) (e : End) → IsFrame asked run → IsEnding asked run.files run.files' e
    → Finishes e run.sink run.sink' ended → Keeps asked run (status_number ended)
keeps asked run ended e frame cause finishes = record {
  done = λ status.
      let w = whole asked run ended 0 e finishes status (inl (omega arith)) in
      when_done asked run e cause w.is w.took;
  words = λ status.
      let w = whole asked run ended 1 e finishes status (inl (omega arith)) in
      when_words asked run e cause w.is w.took;
  refused = λ status.
      let w = whole asked run ended 2 e finishes status (inl (omega arith)) in
      when_refused asked run e cause w.is w.took;
  fault = λ status.
      let w = whole asked run ended 3 e finishes status (inl (omega arith)) in
      when_fault asked run e cause w.is w.took;
  sink = λ status. (sink_rose asked run ended e cause finishes status).0;
  cut = λ status. (text_of e, due asked run e cause, (sink_rose asked run ended e cause finishes status).1);
  partial = λ status. inr (text_of e, due asked run e cause, part_taken asked run ended e cause finishes status);
  wrong = λ status.
      let w = whole asked run ended 6 e finishes status (inr refl) in
      when_wrong asked run e cause w.is w.took;
  most = few_statuses asked run ended e cause finishes;
  bad_words = λ why bad same. stands run ended 1 e finishes same (ends_for_words asked run e why cause bad);
  bad_file = λ names asks bad same. stands run ended 2 e finishes same (ends_for_bad_input asked run e names cause asks bad);
  bad_content = λ names asks bad same. stands run ended 6 e finishes same (ends_for_false asked run e names cause asks bad);
  complete = λ names asks good same. stands run ended 0 e finishes same (ends_for_good asked run e names cause asks good);
  same = frame.same;
  counts = frame.counts;
  reads = frame.reads;
  sink_count = λ other. sink_stands run ended e finishes other;
  sound = λ other another. sink_sound run ended e finishes other another;
  no_more = frame.no_more;
}

nothing_more : (taken taken' : Option (List ℕ)) → taken' ≡ taken → Grows taken taken' []
nothing_more None taken' same = same
nothing_more (Some bytes) taken' same = same ∙ ap Some (sym (append-nil bytes))

-- so does one that had no memory before it could end
keeps_nothing : (asked : Asked) (run : Course) → IsFrame asked run → run.sink' ≡ run.sink → Keeps asked run 5
keeps_nothing asked run frame same = record {
  done = λ status. absurd (omega (arith, status));
  words = λ status. absurd (omega (arith, status));
  refused = λ status. absurd (omega (arith, status));
  fault = λ status. absurd (omega (arith, status));
  sink = λ status. absurd (omega (arith, status));
  cut = λ status. absurd (omega (arith, status));
  partial = λ status. inl (nothing_more run.sink.taken run.sink'.taken (ap (λ (sink : SinkTold). sink.taken) same));
  wrong = λ status. absurd (omega (arith, status));
  most = omega arith;
  bad_words = λ why bad same. inr refl;
  bad_file = λ names asks bad same. inr refl;
  bad_content = λ names asks bad same. inr refl;
  complete = λ names asks good same. inr refl;
  same = frame.same;
  counts = frame.counts;
  reads = frame.reads;
  sink_count = λ other. ap (λ (sink : SinkTold). sink.faults) same;
  sound = λ other another. ap (λ (sink : SinkTold). sink.stopped) same;
  no_more = frame.no_more;
}

-- a run that ended so, with an end or for want of memory before it had one
pub run_keeps : (asked : Asked) (run : Course) (ended : Status) → IsFrame asked run
    → HasEnded asked run.files run.files' run.sink run.sink' ended → Keeps asked run (status_number ended)
run_keeps asked run ended frame (inl (e, cause, finishes)) = keeps asked run ended e frame cause finishes
run_keeps asked run ended frame (inr (none, same)) = subst (Keeps asked run) (ap status_number (sym none)) (keeps_nothing asked run frame same)
