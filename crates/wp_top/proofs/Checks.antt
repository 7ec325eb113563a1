-- What the check of a certificate comes to.
use Rattle.std.proofs.Common.{◌≡◌, ◌∙◌, refl, sym, ap, subst, ℕ, inl, inr, Bool, true, false, List, [], ◌∷◌, Ok, Err, Result, true≢false, if◌then◌else◌}
use Rattle.std.specs.Prelude.{IfOk}
use Rattle.wp_lengths.specs.Waves.{WavePicks}
use Rattle.wp_cert.proofs.OneVerdict.{told_not_refused, told_right}
use Rattle.wp_cert.proofs.Walked.{no_walks_are_shorter}
use Rattle.wp_cert.specs.Bounds.{NoBatchingCostsLess, TellsBound}
use Rattle.wp_cert.specs.Text.{Tells}
use Rattle.wp_cert.specs.Trees.{IsBoundOf}
use Rattle.wp_cert.specs.declared.tree.Tree.{Tree}
use Rattle.wp_cert.specs.declared.tree.CertFault.{CertFault}
use Rattle.wp_cert.specs.declared.tree.CertWhy.{CertWhy}
use Rattle.wp_cert.specs.declared.tree.CertWhy.TheVariants as cert_why
use Rattle.wp_model.specs.Warehouse.{Layout}
use Rattle.wp_outside.specs.Outside.{FilesTold, NoneFalls, SameBytes}
use Rattle.wp_top.proofs.FilesRead.{HaveRead, WasRead, after_layout, layout_file, nothing_read, read_next, stops_there}
use Rattle.wp_top.proofs.Jobs.{has_read, stop_at_last, stop_of}
use Rattle.wp_top.specs.Ends.{IsOutput, of_run}
use Rattle.wp_top.specs.Stores.{DiskCourse}
use Rattle.wp_top.specs.Runs.{IsRefusedCertificate, IsWrong, ShowsBound, bound_line}
use Rattle.wp_top.specs.Stops.{HasRightText, IsRead, IsSaid, StopsAt, StopsFor, is_memory, of_certificate, of_file, stop_at_certificate}
use Rattle.wp_top.specs.Texts.{Said, file_of, files_of, layout_in, nothing_said, text_in}
use Rattle.wp_top.specs.declared.complaint.Complaint.TheVariants as complaint
use Rattle.wp_top.specs.declared.complaint.Finding.TheVariants as finding
use Rattle.wp_top.specs.declared.complaint.Stop.{Stop}
use Rattle.wp_top.specs.declared.complaint.Stop.TheVariants as stop
use Rattle.wp_top.specs.declared.input.Input.TheVariants as input
use Rattle.wp_words.specs.Words.{CheckNames, check}

-- what a certificate shows
pub shows_bound : (layout : Layout) (text : List ℕ) (wave : WavePicks) (capacity : ℕ) (tree : Tree) (result : Result ℕ CertFault)
    → Tells layout text wave capacity tree → IfOk result (IsBoundOf wave capacity tree) → IfOk result (NoBatchingCostsLess wave capacity)
    → IfOk result (ShowsBound layout text)
shows_bound layout text wave capacity tree (Ok bound) told right least = record {
  tree = record { wave = wave; capacity = capacity; tree = tree; told = told; right = right };
  least = no_walks_are_shorter wave capacity bound least;
}
shows_bound layout text wave capacity tree (Err fault) told right least = tt

-- a text that tells a tree with a bound is not refused
pub bound_no_fault : (layout : Layout) (text : List ℕ) (bound : ℕ) (fault : CertFault) → TellsBound layout text bound
    → IsRefusedCertificate layout text fault → ⊥
bound_no_fault layout text bound fault tree (inl none) =
    told_not_refused layout text tree.wave tree.capacity tree.tree fault.why tree.told none.refused
bound_no_fault layout text bound fault tree (inr tells) =
    told_right layout text tree.wave tells.wave tree.capacity tells.capacity tree.tree tells.tree bound fault tree.told tells.told tree.right tells.broken

no_memory : (why : CertWhy) → is_memory why ≡ false → why ≡ cert_why.Memory → ⊥
no_memory why other is = true≢false (sym (ap is_memory is) ∙ other)

stops_by : (layout : Layout) (text : List ℕ) (fault : CertFault) (memory : Bool) → is_memory fault.why ≡ memory
    → ((fault.why ≡ cert_why.Memory → ⊥) → IsRefusedCertificate layout text fault)
    → StopsFor (of_certificate layout text) (if memory then stop.Memory else stop.Complaint (complaint.Wrong (finding.Certificate fault)))
stops_by layout text fault true is refused = tt
stops_by layout text fault false is refused = (fault, refl, refused (no_memory fault.why is))

-- the fault of a certificate stops a run
pub stops_check : (layout : Layout) (text : List ℕ) (fault : CertFault)
    → ((fault.why ≡ cert_why.Memory → ⊥) → IsRefusedCertificate layout text fault) → StopsFor (of_certificate layout text) (stop_at_certificate fault)
stops_check layout text fault refused = stops_by layout text fault (is_memory fault.why) refl refused

-- what is said once the layout file was read
abbrev of_layout : Layout → Said
of_layout layout = record nothing_said { layout = layout }

-- and the certificate
abbrev with_certificate : Layout → List ℕ → Said
with_certificate layout text = record (of_layout layout) { certificate = text }

-- nothing came of the layout file
pub stop_at_layout : (disk : DiskCourse) (old new : FilesTold) (names : CheckNames) (s : Stop)
    → StopsFor (of_file layout_in old new names.layout input.Layout) s
    → StopsFor (of_run (Ok (check names)) disk old new) s
stop_at_layout disk old new names s nothing =
    stop_of disk old new (check names) s
    (stops_there layout_in old old new [] (file_of input.Certificate names.certificate ∷ []) nothing_said input.Layout names.layout s
    (λ text why none. rw none refl) (nothing_read old) nothing)

check_files : (old mid new : FilesTold) (names : CheckNames) (layout : Layout) (text : List ℕ) → WasRead old mid
    → IsSaid layout_in old.holds names.layout layout → WasRead mid new → IsRead mid.holds names.certificate text
    → HaveRead old new (files_of (check names)) (with_certificate layout text)
check_files old mid new names layout text first said was read =
    read_next old mid new (layout_file names.layout) (of_layout layout) (with_certificate layout text) input.Certificate names.certificate text
    (after_layout old mid names.layout layout first said) was read.held (rw read.short refl)

-- the certificate isn't right
stop_at_fault : (disk : DiskCourse) (old mid new : FilesTold) (names : CheckNames) (layout : Layout) (text : List ℕ) (s : Stop) → WasRead old mid
    → IsSaid layout_in old.holds names.layout layout → WasRead mid new → IsRead mid.holds names.certificate text
    → StopsFor (of_certificate layout text) s → StopsFor (of_run (Ok (check names)) disk old new) s
stop_at_fault disk old mid new names layout text (stop.Complaint (complaint.Words why)) first said was read wrong = absurd wrong
stop_at_fault disk old mid new names layout text (stop.Complaint (complaint.Refused f why)) first said was read wrong = absurd wrong
stop_at_fault disk old mid new names layout text (stop.Complaint (complaint.Fault f)) first said was read wrong = absurd wrong
stop_at_fault disk old mid new names layout text (stop.Complaint (complaint.Wrong found)) first said was read (fault, is, refused) =
    has_read old new (check names) (with_certificate layout text) _ (check_files old mid new names layout text first said was read)
    (subst (IsWrong disk.old.holds (check names) (with_certificate layout text)) (sym is) refused)
stop_at_fault disk old mid new names layout text (stop.Complaint complaint.Store) first said was read wrong = absurd wrong
stop_at_fault disk old mid new names layout text stop.Memory first said was read wrong = tt

-- the certificate shows no bound
pub stop_at_showing : (disk : DiskCourse) (old mid new : FilesTold) (names : CheckNames) (layout : Layout) (s : Stop) → WasRead old mid
    → IsSaid layout_in old.holds names.layout layout → SameBytes mid.holds new.holds → NoneFalls mid.faults new.faults
    → StopsAt (of_certificate layout) mid new names.certificate input.Certificate s → StopsFor (of_run (Ok (check names)) disk old new) s
stop_at_showing disk old mid new names layout s first said same counts (inl nothing) =
    stop_at_last disk text_in old mid new (check names) (layout_file names.layout) (of_layout layout) input.Certificate names.certificate s refl
    (λ text why none. rw none refl) (after_layout old mid names.layout layout first said) nothing
stop_at_showing disk old mid new names layout s first said same counts (inr (text, read, next, wrong)) =
    stop_at_fault disk old mid new names layout text s first said (record { same = same; counts = counts; reads = next }) read wrong

-- the output of a check
pub check_is : (disk : DiskCourse) (old mid new : FilesTold) (names : CheckNames) (layout : Layout) (bound : ℕ) (output : List ℕ) → WasRead old mid
    → IsSaid layout_in old.holds names.layout layout → WasRead mid new → HasRightText mid.holds names.certificate (λ text. ShowsBound layout text bound)
    → output ≡ bound_line bound → IsOutput (Ok (check names)) disk old new output
check_is disk old mid new names layout bound output first said was right is =
    has_read old new (check names) (with_certificate layout right.text) _ (check_files old mid new names layout right.text first said was right.read)
    (record { bound = bound; shows = right.shows; is = is })
