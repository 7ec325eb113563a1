-- What the status says of a run of `waves`, by the ending that it had.
use Rattle.std.proofs.Common.{◌≡◌, ◌∙◌, refl, sym, ap, subst, ℕ, ◌+◌, ◌<◌, ◌≤◌, ◌⊎◌, inl, inr, List}
use Rattle.std.proofs.Common.{arith}
use Rattle.wp_journal.specs.declared.verdict.AuditFault.{AuditFault}
use Rattle.wp_outside.specs.Outside.{TookPart, TookPrefix}
use Rattle.wp_top.specs.Promise.{EndsWith}
use Rattle.wp_top.specs.Stops.{status_number}
use Rattle.wp_top.specs.declared.complaint.Complaint.TheVariants as shared
use Rattle.wp_top.specs.declared.complaint.Finding.{Finding}
use Rattle.wp_top.specs.declared.complaint.Finding.TheVariants as finding
use Rattle.wp_top.specs.declared.input.Input.{Input}
use Rattle.wp_top.specs.declared.input.Refusal.{Refusal}
use Rattle.wp_top.specs.declared.status.Status.{Status}
use Rattle.wp_waves_top.specs.Ends.{Asked, End, Finishes, IsEnding, IsOutput, complains, gives, status_of, text_of}
use Rattle.wp_waves_top.specs.Promise.{Complains, Course, IsDue, SinkStands, Took}
use Rattle.wp_waves_top.specs.declared.complaint.OpenRefusal.{OpenRefusal}
use Rattle.wp_waves_top.specs.declared.complaint.WavesComplaint.TheVariants as complaint
use Rattle.wp_words.specs.declared.fault.WordsFault.{WordsFault}

-- the status of an ending is its own
own : (asked : Asked) (run : Course) (e : End) → IsEnding asked run.files run.files' e
    → (status_number (status_of e) < 4) ⊎ (status_number (status_of e) ≡ 6)
own asked run (gives text) is = inl (omega arith)
own asked run (complains (complaint.Shared (shared.Words why))) is = inl (omega arith)
own asked run (complains (complaint.Shared (shared.Refused f why))) is = inl (omega arith)
own asked run (complains (complaint.Shared (shared.Fault f))) is = inl (omega arith)
own asked run (complains (complaint.Shared (shared.Wrong found))) is = inr refl
own asked run (complains (complaint.Shared shared.Store)) is = absurd is
own asked run (complains (complaint.OpenRefused why)) is = inl (omega arith)
own asked run (complains complaint.OpenFault) is = inl (omega arith)

neither : (n : ℕ) → (n < 4) ⊎ (n ≡ 6) → (n ≡ 4) ⊎ (n ≡ 5) → ⊥
neither n (inl few) (inl is) = omega (arith, few, is)
neither n (inl few) (inr is) = omega (arith, few, is)
neither n (inr six) (inl is) = omega (arith, six, is)
neither n (inr six) (inr is) = omega (arith, six, is)

-- the whole text of an ending was taken, and no write was answered with an error
pub record IsWhole (run : Course) (e : End) (n : ℕ) : Type 0 where
  pub is : status_number (status_of e) ≡ n
  pub took : Took run (text_of e)
  pub stands : SinkStands run
  pub sound : run.sink'.stopped ≡ run.sink.stopped

-- so it is with another status than 4 and 5
pub whole : (asked : Asked) (run : Course) (ended : Status) (n : ℕ) (e : End) → Finishes e run.sink run.sink' ended
    → status_number ended ≡ n
    → (n < 4) ⊎ (n ≡ 6) → IsWhole run e n
whole asked run ended n e (inl (is, grows, stands, sound)) same other =
    record { is = ap status_number (sym is) ∙ same; took = grows; stands = stands; sound = sound }
whole asked run ended n e (inr (inl (is, rose, took))) same other = absurd (neither n other (inl (sym same ∙ ap status_number is)))
whole asked run ended n e (inr (inr (is, stands, took))) same other = absurd (neither n other (inr (sym same ∙ ap status_number is)))

-- a run that ended with 0 gave its output
pub when_done : (asked : Asked) (run : Course) (e : End) → IsEnding asked run.files run.files' e → status_number (status_of e) ≡ 0
    → Took run (text_of e) → (output : List ℕ) × IsOutput asked run.files run.files' output × Took run output
when_done asked run (gives text) is status took = (text, is, took)
when_done asked run (complains (complaint.Shared (shared.Words why))) is status took = absurd (omega (arith, status))
when_done asked run (complains (complaint.Shared (shared.Refused f why))) is status took = absurd (omega (arith, status))
when_done asked run (complains (complaint.Shared (shared.Fault f))) is status took = absurd (omega (arith, status))
when_done asked run (complains (complaint.Shared (shared.Wrong found))) is status took = absurd (omega (arith, status))
when_done asked run (complains (complaint.Shared shared.Store)) is status took = absurd (omega (arith, status))
when_done asked run (complains (complaint.OpenRefused why)) is status took = absurd (omega (arith, status))
when_done asked run (complains complaint.OpenFault) is status took = absurd (omega (arith, status))

-- one that ended with 1 complained of its words
pub when_words : (asked : Asked) (run : Course) (e : End) → IsEnding asked run.files run.files' e → status_number (status_of e) ≡ 1
    → Took run (text_of e) → (why : WordsFault) × Complains asked run (complaint.Shared (shared.Words why))
when_words asked run (gives text) is status took = absurd (omega (arith, status))
when_words asked run (complains (complaint.Shared (shared.Words why))) is status took = (why, (is, took))
when_words asked run (complains (complaint.Shared (shared.Refused f why))) is status took = absurd (omega (arith, status))
when_words asked run (complains (complaint.Shared (shared.Fault f))) is status took = absurd (omega (arith, status))
when_words asked run (complains (complaint.Shared (shared.Wrong found))) is status took = absurd (omega (arith, status))
when_words asked run (complains (complaint.Shared shared.Store)) is status took = absurd (omega (arith, status))
when_words asked run (complains (complaint.OpenRefused why)) is status took = absurd (omega (arith, status))
when_words asked run (complains complaint.OpenFault) is status took = absurd (omega (arith, status))

-- one that ended with 2 complained of a refused file
pub when_refused : (asked : Asked) (run : Course) (e : End) → IsEnding asked run.files run.files' e → status_number (status_of e) ≡ 2
    → Took run (text_of e) → ((file : Input) × (why : Refusal) × Complains asked run (complaint.Shared (shared.Refused file why)))
    ⊎ ((why : OpenRefusal) × Complains asked run (complaint.OpenRefused why))
when_refused asked run (gives text) is status took = absurd (omega (arith, status))
when_refused asked run (complains (complaint.Shared (shared.Words why))) is status took = absurd (omega (arith, status))
when_refused asked run (complains (complaint.Shared (shared.Refused f why))) is status took = inl (f, why, (is, took))
when_refused asked run (complains (complaint.Shared (shared.Fault f))) is status took = absurd (omega (arith, status))
when_refused asked run (complains (complaint.Shared (shared.Wrong found))) is status took = absurd (omega (arith, status))
when_refused asked run (complains (complaint.Shared shared.Store)) is status took = absurd (omega (arith, status))
when_refused asked run (complains (complaint.OpenRefused why)) is status took = inr (why, (is, took))
when_refused asked run (complains complaint.OpenFault) is status took = absurd (omega (arith, status))

-- one that ended with 3 complained of a file that could not be read
pub when_fault : (asked : Asked) (run : Course) (e : End) → IsEnding asked run.files run.files' e → status_number (status_of e) ≡ 3
    → Took run (text_of e) → ((file : Input) × Complains asked run (complaint.Shared (shared.Fault file)))
    ⊎ Complains asked run complaint.OpenFault
when_fault asked run (gives text) is status took = absurd (omega (arith, status))
when_fault asked run (complains (complaint.Shared (shared.Words why))) is status took = absurd (omega (arith, status))
when_fault asked run (complains (complaint.Shared (shared.Refused f why))) is status took = absurd (omega (arith, status))
when_fault asked run (complains (complaint.Shared (shared.Fault f))) is status took = inl (f, (is, took))
when_fault asked run (complains (complaint.Shared (shared.Wrong found))) is status took = absurd (omega (arith, status))
when_fault asked run (complains (complaint.Shared shared.Store)) is status took = absurd (omega (arith, status))
when_fault asked run (complains (complaint.OpenRefused why)) is status took = absurd (omega (arith, status))
when_fault asked run (complains complaint.OpenFault) is status took = inr (is, took)

-- what is wrong is the journal
of_journal : (asked : Asked) (run : Course) (found : Finding) → Complains asked run (complaint.Shared (shared.Wrong found))
    → (fault : AuditFault) × Complains asked run (complaint.Shared (shared.Wrong (finding.Journal fault)))
of_journal asked run found (is, took) =
    let fault = is.2.0 in
    (fault, subst (λ (f : Finding). Complains asked run (complaint.Shared (shared.Wrong f))) is.2.1 (is, took))

-- one that ended with 6 complained of the journal
pub when_wrong : (asked : Asked) (run : Course) (e : End) → IsEnding asked run.files run.files' e → status_number (status_of e) ≡ 6
    → Took run (text_of e) → (fault : AuditFault) × Complains asked run (complaint.Shared (shared.Wrong (finding.Journal fault)))
when_wrong asked run (gives text) is status took = absurd (omega (arith, status))
when_wrong asked run (complains (complaint.Shared (shared.Words why))) is status took = absurd (omega (arith, status))
when_wrong asked run (complains (complaint.Shared (shared.Refused f why))) is status took = absurd (omega (arith, status))
when_wrong asked run (complains (complaint.Shared (shared.Fault f))) is status took = absurd (omega (arith, status))
when_wrong asked run (complains (complaint.Shared (shared.Wrong found))) is status took = of_journal asked run found (is, took)
when_wrong asked run (complains (complaint.Shared shared.Store)) is status took = absurd (omega (arith, status))
when_wrong asked run (complains (complaint.OpenRefused why)) is status took = absurd (omega (arith, status))
when_wrong asked run (complains complaint.OpenFault) is status took = absurd (omega (arith, status))

-- with 4 the sink failed, once, after a part of the text
pub sink_rose : (asked : Asked) (run : Course) (ended : Status) (e : End) → IsEnding asked run.files run.files' e → Finishes e run.sink run.sink' ended
    → status_number ended ≡ 4
    → (run.sink'.faults ≡ run.sink.faults + 1) × TookPart run.sink.taken run.sink'.taken (text_of e)
sink_rose asked run ended e cause (inl (is, grows, stands, sound)) same
    = absurd (neither (status_number (status_of e)) (own asked run e cause) (inl (ap status_number (sym is) ∙ same)))
sink_rose asked run ended e cause (inr (inl (is, rose, took))) same = (rose, took)
sink_rose asked run ended e cause (inr (inr (is, stands, took))) same = absurd (omega (arith, ap status_number is, same))

-- where the sink's count stands the run ends with the status of its ending, or memory ran out
pub stands : (run : Course) (ended : Status) (n : ℕ) (e : End) → Finishes e run.sink run.sink' ended → SinkStands run → status_number (status_of e) ≡ n
    → EndsWith n (status_number ended)
stands run ended n e (inl (is, grows, stood, sound)) same own = inl (ap status_number is ∙ own)
stands run ended n e (inr (inl (is, rose, took))) same own = absurd (omega (arith, rose, same))
stands run ended n e (inr (inr (is, stood, took))) same own = inr (ap status_number is)

-- and else it didn't
pub sink_stands : (run : Course) (ended : Status) (e : End) → Finishes e run.sink run.sink' ended → (status_number ended ≡ 4 → ⊥) → SinkStands run
sink_stands run ended e (inl (is, grows, stands, sound)) other = stands
sink_stands run ended e (inr (inl (is, rose, took))) other = absurd (other (ap status_number is))
sink_stands run ended e (inr (inr (is, stands, took))) other = stands

-- with another status than 4 and 5 no write was answered with an error
pub sink_sound : (run : Course) (ended : Status) (e : End) → Finishes e run.sink run.sink' ended → (status_number ended ≡ 4 → ⊥)
    → (status_number ended ≡ 5 → ⊥) → run.sink'.stopped ≡ run.sink.stopped
sink_sound run ended e (inl (is, grows, stands, sound)) other another = sound
sink_sound run ended e (inr (inl (is, rose, took))) other another = absurd (other (ap status_number is))
sink_sound run ended e (inr (inr (is, stands, took))) other another = absurd (another (ap status_number is))

-- the text of an ending is one that was due
pub due : (asked : Asked) (run : Course) (e : End) → IsEnding asked run.files run.files' e → IsDue asked run (text_of e)
due asked run (gives text) is = inl is
due asked run (complains why) is = inr (why, is, refl)

-- with 5 a beginning of it was taken
pub part_taken : (asked : Asked) (run : Course) (ended : Status) (e : End) → IsEnding asked run.files run.files' e → Finishes e run.sink run.sink' ended
    → status_number ended ≡ 5
    → TookPrefix run.sink.taken run.sink'.taken (text_of e)
part_taken asked run ended e cause (inl (is, grows, stands, sound)) same =
    absurd (neither (status_number (status_of e)) (own asked run e cause) (inr (ap status_number (sym is) ∙ same)))
part_taken asked run ended e cause (inr (inl (is, rose, took))) same = absurd (omega (arith, ap status_number is, same))
part_taken asked run ended e cause (inr (inr (is, stands, took))) same = took

-- there is no status above 6
own_few : (n : ℕ) → (n < 4) ⊎ (n ≡ 6) → n ≤ 6
own_few n (inl few) = omega (arith, few)
own_few n (inr six) = omega (arith, six)

pub few_statuses : (asked : Asked) (run : Course) (ended : Status) (e : End) → IsEnding asked run.files run.files' e → Finishes e run.sink run.sink' ended
    → status_number ended ≤ 6
few_statuses asked run ended e cause (inl (is, grows, stands, sound)) =
    omega (arith, ap status_number is, own_few (status_number (status_of e)) (own asked run e cause))
few_statuses asked run ended e cause (inr (inl (is, rose, took))) = omega (arith, ap status_number is)
few_statuses asked run ended e cause (inr (inr (is, stands, took))) = omega (arith, ap status_number is)
