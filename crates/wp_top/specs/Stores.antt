-- The store of a run: what its records say, the history with which a day begins, and what a crash leaves of the store
-- at each moment.
use Rattle.std.specs.Prelude.{◌≡◌, ◌⊎◌, ℕ, ◌+◌, ◌*◌, ◌<◌, ◌≤◌, List, [], ◌∷◌, ◌++◌, length, map, take, Option, Some}
use Rattle.wp_desk.specs.GoingOn.{new_entries}
use Rattle.wp_journal.specs.Journals.{IsMisanswered, IsNotNext}
use Rattle.wp_journal.specs.Replays.{LinesBegin}
use Rattle.wp_model.specs.History.{History, opened}
use Rattle.wp_model.specs.Journal.{entry_line}
use Rattle.wp_model.specs.Limits.{most_entries}
use Rattle.wp_model.specs.Opening.{Opening}
use Rattle.wp_model.specs.declared.entry.Entry.{Entry}
use Rattle.wp_model.specs.declared.reply.Reply.{Reply}
use Rattle.wp_store.specs.Disk.{DiskTold, IsTooLong, LeavesOnly, Rose, SinceSync, SinceSyncs, WhereTold}
use Rattle.wp_store.specs.Records.{records_of}
use Rattle.wp_store.specs.Store.{StandsFor}
use Rattle.wp_store.specs.Untold.{untold}
use Rattle.wp_top.specs.declared.complaint.StoreFinding.{StoreFinding}
use Rattle.wp_top.specs.declared.complaint.StoreFinding.TheVariants as finding

-- what a disk tells of a run: as it begins, and as it ends
pub record DiskCourse : Type 1 where
  pub old : DiskTold
  pub new : DiskTold

abbrev pub disk_course : DiskTold → DiskTold → DiskCourse
disk_course old new = record { old = old; new = new }

-- a run that is given no disk
abbrev pub no_disk : DiskCourse
no_disk = disk_course (untold (record { faults = 0; calls = 0 })) (untold (record { faults = 0; calls = 0 }))

-- what such a run has in the place of a disk
abbrev pub nothing : Unit {0}
nothing = tt

-- the disk's count of faults rose in the run
abbrev pub HasFailed : DiskCourse → Type 0
HasFailed disk = Rose disk.old.faults disk.new.faults

-- it stands
abbrev pub DiskStands : DiskCourse → Type 0
DiskStands disk = disk.new.faults ≡ disk.old.faults

-- the disk told its bytes as the run began
abbrev pub IsToldOn : DiskCourse → List ℕ → Type 0
IsToldOn disk told = disk.old.holds ≡ Some told

-- What the records of a store say.

-- what a store holds as a run begins, where its disk tells that: a day asks no more of the disk to go on from it, nor a
-- refusal
abbrev pub Held : Type 0
Held = Option (List ℕ)

-- these are the records of a store that holds this. A sync that succeeds doesn't change what a read gives, so they are
-- those of what a read gives right after the first sync of the run
abbrev pub AreRecordsIn : Held → List (List ℕ) → Type 0
AreRecordsIn held bodies = WhereTold held (λ told. bodies ≡ records_of told)

-- the record of this number is the first that isn't the line of the next entry: those before it are the lines of a
-- legal history
pub record IsBadRecord (opening : Opening) (bodies : List (List ℕ)) (number : ℕ) : Type 0 where
  pub history : History
  pub next : List ℕ
  pub others : List (List ℕ)
  pub begins : LinesBegin opening bodies history (next ∷ others)
  pub bad : IsNotNext history next
  pub numbered : number ≡ length history.entries

-- the entry of this number is the first with another reply than the machine's: the records before it are the lines of a
-- legal history
pub record IsWrongEntry (opening : Opening) (bodies : List (List ℕ)) (number : ℕ) (printed right : Reply) : Type 0 where
  pub history : History
  pub next : List ℕ
  pub others : List (List ℕ)
  pub begins : LinesBegin opening bodies history (next ∷ others)
  pub misanswered : IsMisanswered history next number printed right

-- all records are the lines of a legal history, but with the commands of the desks there are so many entries, more than
-- a journal may have
pub record AreTooMany (opening : Opening) (bodies : List (List ℕ)) (commands number : ℕ) : Type 0 where
  pub history : History
  pub begins : LinesBegin opening bodies history []
  pub counted : number ≡ length bodies + commands
  pub many : most_entries < number

-- records are refused with this
abbrev pub AreRefused : Opening → List (List ℕ) → ℕ → StoreFinding → Type 0
AreRefused opening bodies commands finding.TooLong = ⊥
AreRefused opening bodies commands (finding.Record number) = IsBadRecord opening bodies number
AreRefused opening bodies commands (finding.Entry number printed right)
    = IsWrongEntry opening bodies number printed right
AreRefused opening bodies commands (finding.Entries number) = AreTooMany opening bodies commands number

-- a store is refused with this, before desks that have so many commands: its file is too long, or its records are
-- refused
abbrev pub IsRefusedStore : Held → Opening → ℕ → StoreFinding → Type 0
IsRefusedStore held opening commands finding.TooLong = WhereTold held IsTooLong
IsRefusedStore held opening commands other
    = (bodies : List (List ℕ)) × AreRecordsIn held bodies × AreRefused opening bodies commands other

-- The history with which a day begins.

-- a day goes on from a store with this history, before desks that have so many commands: its records are the lines of
-- the history's entries, which is a legal one of the opening, and with the commands they are no more than a journal may
-- have. Nor is its file too long
pub record GoesOnFromStore (held : Held) (opening : Opening) (commands : ℕ) (start : History) : Type 0 where
  pub bodies : List (List ℕ)
  pub records : AreRecordsIn held bodies
  pub begins : LinesBegin opening bodies start []
  pub few : length bodies + commands ≤ most_entries
  pub short : WhereTold held (λ told. IsTooLong told → ⊥)

-- a day begins with this history: that of the store where the words say so, and else nothing was answered before
pub record IsBegun (held : Held) (store : ℕ) (opening : Opening) (commands : ℕ) (start : History) : Type 0 where
  pub stored : store ≡ 1 → GoesOnFromStore held opening commands start
  pub without : (store ≡ 1 → ⊥) → start ≡ opened opening

-- What a crash leaves of a store to which entries are added.

-- a file stands for these records and then for a beginning of the new entries, of which it has so many or more
pub record HasNew (bodies : List (List ℕ)) (entries : List Entry) (least : ℕ) (image : List ℕ) : Type 0 where
  pub count : ℕ
  pub no_fewer : least ≤ count
  pub no_more : count ≤ length entries
  pub stands : StandsFor (bodies ++ map entry_line (take count entries)) image

-- each image of a disk stands for the records of what a read gives, where it tells its bytes
abbrev pub AreImagesOfRecords : DiskTold → Type 0
AreImagesOfRecords disk = WhereTold disk.holds
    (λ told. (image : List ℕ) → disk.images image → StandsFor (records_of told) image)

-- how many calls a run makes on its disk at most to open a store, and how many of them are syncs; and then to add an
-- entry
abbrev pub opening_calls : ℕ
opening_calls = 6

abbrev pub opening_syncs : ℕ
opening_syncs = 3

abbrev pub entry_calls : ℕ
entry_calls = 4

abbrev pub entry_syncs : ℕ
entry_syncs = 2

-- the number of the sync that acknowledges an entry, where so many syncs were made before; entries are counted from 1
abbrev pub sync_of : ℕ → ℕ → ℕ
sync_of before n = before + entry_syncs * n

-- In these calls new entries were added, one after the other. At each moment each image has the records from before and
-- a beginning of the new entries, and since an entry was acknowledged each has it. So many were acknowledged, and
-- perhaps one more begun.
pub record Appends (old new : DiskTold) (bodies : List (List ℕ)) (entries : List Entry)
    (acknowledged : ℕ) : Type 0 where
  pub any_moment : LeavesOnly old new (HasNew bodies entries 0)
  pub since : (n : ℕ) → 1 ≤ n → n ≤ acknowledged → SinceSync new (sync_of old.syncs n) (HasNew bodies entries n)
  pub few : acknowledged ≤ length entries
  pub all : old.syncs + entry_syncs * acknowledged ≤ new.syncs
  pub most : new.syncs ≤ old.syncs + entry_syncs * acknowledged + 1

-- all of them were, and each image has them
pub record HasAdded (old new : DiskTold) (entries : List Entry) : Type 0 where
  pub appends : WhereTold old.holds (λ told. Appends old new (records_of told) entries (length entries))
  pub synced : WhereTold old.holds (λ told. new.syncs ≡ old.syncs + entry_syncs * length entries)
  pub now : WhereTold old.holds (λ told. (image : List ℕ) → new.images image
      → StandsFor (records_of told ++ map entry_line entries) image)

-- Entries are kept after the records of a store. At each moment of the run each image is one that there was as it
-- began, or has the records and then a beginning of the new entries; since the run's first sync each has these. Entry n
-- is acknowledged by the sync 3 + 2n of the run: since that, each has it.
pub record AreKept (disk : DiskCourse) (bodies : List (List ℕ)) (entries : List Entry) : Type 0 where
  pub any_moment : (image : List ℕ) → disk.new.images_since disk.old.moment image
      → disk.old.images image ⊎ HasNew bodies entries 0 image
  pub since_first : SinceSyncs disk.old disk.new (HasNew bodies entries 0)
  pub acknowledged : (n : ℕ) → 1 ≤ n → sync_of (disk.old.syncs + opening_syncs) n ≤ disk.new.syncs
      → SinceSync disk.new (sync_of (disk.old.syncs + opening_syncs) n) (HasNew bodies entries n)

-- so many entries were added in no more calls than that takes
abbrev pub HasFewCalls : DiskCourse → List Entry → Type 0
HasFewCalls disk entries = disk.new.calls ≤ disk.old.calls + opening_calls + entry_calls * length entries

-- new entries are kept so, after the records of what a read gave as the run began: none, or those of which this holds
pub record AreSomeKept (disk : DiskCourse) (AreNew : List Entry → Type 0) : Type 0 where
  pub entries : List Entry
  pub new : (entries ≡ []) ⊎ AreNew entries
  pub kept : WhereTold disk.old.holds (λ told. AreKept disk (records_of told) entries)
  pub calls : HasFewCalls disk entries

-- all are kept and acknowledged, and as the run ends each image has all
pub record AreAllKept (disk : DiskCourse) (entries : List Entry) : Type 0 where
  pub kept : WhereTold disk.old.holds (λ told. AreKept disk (records_of told) entries)
  pub acknowledged : WhereTold disk.old.holds
      (λ told. disk.new.syncs ≡ sync_of (disk.old.syncs + opening_syncs) (length entries))
  pub now : WhereTold disk.old.holds (λ told. (image : List ℕ) → disk.new.images image
      → StandsFor (records_of told ++ map entry_line entries) image)
  pub calls : HasFewCalls disk entries
  pub sound : DiskStands disk

-- a day that began with this history goes on from the store where the words say so; and then its new entries are all
-- acknowledged, and whatever a crash leaves of the store has them
pub record IsStored (disk : DiskCourse) (store : ℕ) (opening : Opening) (commands : ℕ)
    (start history : History) : Type 0 where
  pub begun : IsBegun disk.old.holds store opening commands start
  pub kept : store ≡ 1 → AreAllKept disk (new_entries start history)
