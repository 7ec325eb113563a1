-- What the status says of a run, by the ending that it had.
use Rattle.std.proofs.Common.{◌≡◌, ◌∙◌, refl, sym, ap, ℕ, ◌+◌, ◌<◌, ◌≤◌, ◌⊎◌, inl, inr, List}
use Rattle.std.proofs.Common.{arith}
use Rattle.wp_outside.specs.Outside.{TookPart, TookPrefix}
use Rattle.wp_top.specs.Ends.{Asked, IsOutput}
use Rattle.wp_top.specs.Promise.{Complains, Course, EndsWith, IsDue, SinkStands, Took}
use Rattle.wp_top.specs.Stops.{End, Finishes, IsEnding, complains, gives, status_number, status_of, text_of}
use Rattle.wp_top.specs.declared.complaint.Complaint.TheVariants as complaint
use Rattle.wp_top.specs.declared.complaint.Finding.{Finding}
use Rattle.wp_top.specs.declared.input.Input.{Input}
use Rattle.wp_top.specs.declared.input.Refusal.{Refusal}
use Rattle.wp_top.specs.declared.status.Status.{Status}
use Rattle.wp_top.specs.declared.status.Status.TheVariants as status
use Rattle.wp_words.specs.declared.fault.WordsFault.{WordsFault}

-- the status of an ending is its own
own : (e : End) → (status_number (status_of e) < 4) ⊎ (5 < status_number (status_of e))
own (gives text) = inl (omega arith)
own (complains (complaint.Words why)) = inl (omega arith)
own (complains (complaint.Refused f why)) = inl (omega arith)
own (complains (complaint.Fault f)) = inl (omega arith)
own (complains (complaint.Wrong found)) = inr (omega arith)
own (complains complaint.Store) = inr (omega arith)

neither : (n : ℕ) → (n < 4) ⊎ (5 < n) → (n ≡ 4) ⊎ (n ≡ 5) → ⊥
neither n (inl few) (inl is) = omega (arith, few, is)
neither n (inl few) (inr is) = omega (arith, few, is)
neither n (inr more) (inl is) = omega (arith, more, is)
neither n (inr more) (inr is) = omega (arith, more, is)

-- the whole text of an ending was taken, and no write was answered with an error
pub record IsWhole (run : Course) (e : End) (n : ℕ) : Type 0 where
  pub is : status_number (status_of e) ≡ n
  pub took : Took run (text_of e)
  pub stands : SinkStands run
  pub sound : run.sink'.stopped ≡ run.sink.stopped

-- so it is with another status than 4 and 5
pub whole : (asked : Asked) (run : Course) (ended : Status) (n : ℕ) (e : End) → Finishes e run.sink run.sink' ended
    → status_number ended ≡ n
    → (n < 4) ⊎ (5 < n) → IsWhole run e n
whole asked run ended n e (inl (is, grows, stands, sound)) same other =
    record { is = ap status_number (sym is) ∙ same; took = grows; stands = stands; sound = sound }
whole asked run ended n e (inr (inl (is, rose, took))) same other = absurd (neither n other (inl (sym same ∙ ap status_number is)))
whole asked run ended n e (inr (inr (is, stands, took))) same other = absurd (neither n other (inr (sym same ∙ ap status_number is)))

-- a run that ended with 0 gave its output
pub when_done : (asked : Asked) (run : Course) (e : End) → IsEnding asked run.disk run.files run.files' e → status_number (status_of e) ≡ 0
    → Took run (text_of e) → (output : List ℕ) × IsOutput asked run.disk run.files run.files' output × Took run output
when_done asked run (gives text) is status took = (text, is, took)
when_done asked run (complains (complaint.Words why)) is status took = absurd (omega (arith, status))
when_done asked run (complains (complaint.Refused f why)) is status took = absurd (omega (arith, status))
when_done asked run (complains (complaint.Fault f)) is status took = absurd (omega (arith, status))
when_done asked run (complains (complaint.Wrong found)) is status took = absurd (omega (arith, status))
when_done asked run (complains complaint.Store) is status took = absurd (omega (arith, status))

-- one that ended with 1 complained of its words
pub when_words : (asked : Asked) (run : Course) (e : End) → IsEnding asked run.disk run.files run.files' e → status_number (status_of e) ≡ 1
    → Took run (text_of e) → (why : WordsFault) × Complains asked run (complaint.Words why)
when_words asked run (gives text) is status took = absurd (omega (arith, status))
when_words asked run (complains (complaint.Words why)) is status took = (why, (is, took))
when_words asked run (complains (complaint.Refused f why)) is status took = absurd (omega (arith, status))
when_words asked run (complains (complaint.Fault f)) is status took = absurd (omega (arith, status))
when_words asked run (complains (complaint.Wrong found)) is status took = absurd (omega (arith, status))
when_words asked run (complains complaint.Store) is status took = absurd (omega (arith, status))

-- one that ended with 2 complained of a refused file
pub when_refused : (asked : Asked) (run : Course) (e : End) → IsEnding asked run.disk run.files run.files' e → status_number (status_of e) ≡ 2
    → Took run (text_of e) → (file : Input) × (why : Refusal) × Complains asked run (complaint.Refused file why)
when_refused asked run (gives text) is status took = absurd (omega (arith, status))
when_refused asked run (complains (complaint.Words why)) is status took = absurd (omega (arith, status))
when_refused asked run (complains (complaint.Refused f why)) is status took = (f, why, (is, took))
when_refused asked run (complains (complaint.Fault f)) is status took = absurd (omega (arith, status))
when_refused asked run (complains (complaint.Wrong found)) is status took = absurd (omega (arith, status))
when_refused asked run (complains complaint.Store) is status took = absurd (omega (arith, status))

-- one that ended with 3 complained of a file that could not be read
pub when_fault : (asked : Asked) (run : Course) (e : End) → IsEnding asked run.disk run.files run.files' e → status_number (status_of e) ≡ 3
    → Took run (text_of e) → (file : Input) × Complains asked run (complaint.Fault file)
when_fault asked run (gives text) is status took = absurd (omega (arith, status))
when_fault asked run (complains (complaint.Words why)) is status took = absurd (omega (arith, status))
when_fault asked run (complains (complaint.Refused f why)) is status took = absurd (omega (arith, status))
when_fault asked run (complains (complaint.Fault f)) is status took = (f, (is, took))
when_fault asked run (complains (complaint.Wrong found)) is status took = absurd (omega (arith, status))
when_fault asked run (complains complaint.Store) is status took = absurd (omega (arith, status))

-- one that ended with 6 complained of what it found
pub when_wrong : (asked : Asked) (run : Course) (e : End) → IsEnding asked run.disk run.files run.files' e → status_number (status_of e) ≡ 6
    → Took run (text_of e) → (found : Finding) × Complains asked run (complaint.Wrong found)
when_wrong asked run (gives text) is status took = absurd (omega (arith, status))
when_wrong asked run (complains (complaint.Words why)) is status took = absurd (omega (arith, status))
when_wrong asked run (complains (complaint.Refused f why)) is status took = absurd (omega (arith, status))
when_wrong asked run (complains (complaint.Fault f)) is status took = absurd (omega (arith, status))
when_wrong asked run (complains (complaint.Wrong found)) is status took = (found, (is, took))
when_wrong asked run (complains complaint.Store) is status took = absurd (omega (arith, status))

-- one that ended with 7 complained of its disk
pub when_store : (asked : Asked) (run : Course) (e : End) → IsEnding asked run.disk run.files run.files' e → status_number (status_of e) ≡ 7
    → Took run (text_of e) → Complains asked run complaint.Store
when_store asked run (gives text) is status took = absurd (omega (arith, status))
when_store asked run (complains (complaint.Words why)) is status took = absurd (omega (arith, status))
when_store asked run (complains (complaint.Refused f why)) is status took = absurd (omega (arith, status))
when_store asked run (complains (complaint.Fault f)) is status took = absurd (omega (arith, status))
when_store asked run (complains (complaint.Wrong found)) is status took = absurd (omega (arith, status))
when_store asked run (complains complaint.Store) is status took = (is, took)

-- with 4 the sink failed, once, after a part of the text
pub sink_rose : (asked : Asked) (run : Course) (ended : Status) (e : End) → Finishes e run.sink run.sink' ended → status_number ended ≡ 4
    → (run.sink'.faults ≡ run.sink.faults + 1) × TookPart run.sink.taken run.sink'.taken (text_of e)
sink_rose asked run ended e (inl (is, grows, stands, sound)) same
    = absurd (neither (status_number (status_of e)) (own e) (inl (ap status_number (sym is) ∙ same)))
sink_rose asked run ended e (inr (inl (is, rose, took))) same = (rose, took)
sink_rose asked run ended e (inr (inr (is, stands, took))) same = absurd (omega (arith, ap status_number is, same))

-- and else it didn't
pub sink_stands : (run : Course) (ended : Status) (e : End) → Finishes e run.sink run.sink' ended → (status_number ended ≡ 4 → ⊥) → SinkStands run
sink_stands run ended e (inl (is, grows, stands, sound)) other = stands
sink_stands run ended e (inr (inl (is, rose, took))) other = absurd (other (ap status_number is))
sink_stands run ended e (inr (inr (is, stands, took))) other = stands

-- with another status than 4 and 5 no write was answered with an error
pub sink_sound : (run : Course) (ended : Status) (e : End) → Finishes e run.sink run.sink' ended → (status_number ended ≡ 4 → ⊥)
    → (status_number ended ≡ 5 → ⊥) → run.sink'.stopped ≡ run.sink.stopped
sink_sound run ended e (inl (is, grows, stands, sound)) other another = sound
sink_sound run ended e (inr (inl (is, rose, took))) other another = absurd (other (ap status_number is))
sink_sound run ended e (inr (inr (is, stands, took))) other another = absurd (another (ap status_number is))

-- the text of an ending is one that was due
pub due : (asked : Asked) (run : Course) (e : End) → IsEnding asked run.disk run.files run.files' e → IsDue asked run (text_of e)
due asked run (gives text) is = inl is
due asked run (complains why) is = inr (why, is, refl)

-- with 5 a beginning of it was taken
pub part_taken : (run : Course) (ended : Status) (e : End) → Finishes e run.sink run.sink' ended → status_number ended ≡ 5
    → TookPrefix run.sink.taken run.sink'.taken (text_of e)
part_taken run ended e (inl (is, grows, stands, sound)) same = absurd (neither (status_number (status_of e)) (own e) (inr (ap status_number (sym is) ∙ same)))
part_taken run ended e (inr (inl (is, rose, took))) same = absurd (omega (arith, ap status_number is, same))
part_taken run ended e (inr (inr (is, stands, took))) same = took

-- there is no status above 7
pub few_statuses : (s : Status) → status_number s ≤ 7
few_statuses status.Done = omega arith
few_statuses status.BadWords = omega arith
few_statuses status.Refused = omega arith
few_statuses status.ReadFault = omega arith
few_statuses status.WriteFault = omega arith
few_statuses status.OutOfMemory = omega arith
few_statuses status.Wrong = omega arith
few_statuses status.StoreFault = omega arith

-- while the sink's count stands the status is the ending's, or memory ran out
pub stands : (run : Course) (ended : Status) (n : ℕ) (e : End) → Finishes e run.sink run.sink' ended → SinkStands run
    → status_number (status_of e) ≡ n → EndsWith n (status_number ended)
stands run ended n e (inl (is, grows, same_count, sound)) same ends = inl (ap status_number is ∙ ends)
stands run ended n e (inr (inl (is, rose, took))) same ends = absurd (omega (arith, rose, same))
stands run ended n e (inr (inr (is, same_count, took))) same ends = inr (ap status_number is)
