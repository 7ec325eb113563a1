-- The files of a made day, in memory: none is refused, and a read of them stops for want of memory alone.
use Rattle.std.proofs.Common.{◌≡◌, ◌∙◌, refl, sym, ap, subst, ℕ, ◌≤◌, false, List, [], ◌∷◌, length, Some, Result, Ok, arith}
use Rattle.std.specs.Prelude.{codes, nat_lt}
use Rattle.std.specs.List.{All}
use Rattle.std.proofs.lemmas.Bool.Decides.{nat_tests}
use Rattle.std.proofs.lemmas.List.Elements.{All-cons, All-nil}
use Rattle.wp_floor.specs.Opening.{opening_of}
use Rattle.wp_layout.specs.LayoutFile.{layout_said}
use Rattle.wp_make.specs.Accepted.{AreAccepted, Day, Say as Accept}
use Rattle.wp_make.specs.Texts.{AreShort, Texts, made_texts}
use Rattle.wp_model.specs.History.{Script}
use Rattle.wp_model.specs.Limits.{most_file_bytes}
use Rattle.wp_model.specs.Opening.{Opening}
use Rattle.wp_model.specs.Outcomes.{and_then}
use Rattle.wp_model.specs.Warehouse.{Layout}
use Rattle.wp_outside.specs.InMemory.{bytes_or_empty}
use Rattle.wp_outside.specs.Outside.{FilesTold}
use Rattle.wp_tables.specs.DeskFile.{scripts_said}
use Rattle.wp_tables.specs.OrderFile.{orders_said}
use Rattle.wp_tables.specs.StockFile.{stock_said}
use Rattle.wp_top.proofs.FilesRead.{HaveRead, WasRead, say_next}
use Rattle.wp_top.proofs.ToldFiles.{none_refused, one_said}
use Rattle.wp_top.specs.Ends.{EndsAt, HasRisen, among}
use Rattle.wp_top.specs.Stops.{HoldMadeDay, IsMadeDay, IsSaid, StopsFor, beside_names, day_files, day_said, opening_files, opening_said}
use Rattle.wp_top.specs.Summaries.{made_file, made_files, size_of}
use Rattle.wp_top.specs.Texts.{File, HaveSaid, IsTold, ReadFile, Said, Say, nothing_said, refused_by, said_after, said_in, said_with, scripts_in, text_in}
use Rattle.wp_top.specs.declared.complaint.Complaint.TheVariants as complaint
use Rattle.wp_top.specs.declared.complaint.Stop.{Stop}
use Rattle.wp_top.specs.declared.complaint.Stop.TheVariants as stop
use Rattle.wp_top.specs.declared.input.Input.{Input}
use Rattle.wp_top.specs.declared.input.Input.TheVariants as input
use Rattle.wp_top.specs.declared.input.Refusal.{Refusal}
use Rattle.wp_top.specs.declared.input.Refusal.TheVariants as refusal
use Rattle.wp_words.specs.Words.{MakeNumbers}

not_above : (n m : ℕ) → m ≤ n → nat_lt n m ≡ false
not_above n m few = grind (arith, nat_tests)

short_text : (text : List ℕ) → length text ≤ most_file_bytes → text_in text ≡ Ok text
short_text text short = rw (not_above most_file_bytes (length text) short) refl

-- a file of a short text says what the text says
short_said : {A F : Type 0} (refuse : F → Refusal) (says : List ℕ → Result A F) (text : List ℕ) (said : A) → length text ≤ most_file_bytes
    → says text ≡ Ok said → said_in refuse says text ≡ Ok said
short_said refuse says text said short is =
    ap (λ (r : Result (List ℕ) Refusal). and_then r (λ t. refused_by refuse (says t))) (short_text text short) ∙ ap (refused_by refuse) is

-- what is said with a file and those after it
say_with : (said more all : Said) (kind : Input) (name text : List ℕ) (later : List ReadFile) → said_with said kind text ≡ Ok more
    → said_after more later ≡ Ok all → said_after said (made_file kind name text ∷ later) ≡ Ok all
say_with said more all kind name text later one rest = ap (λ (r : Result Said Refusal). and_then r (λ s. said_after s later)) one ∙ rest

-- the files of short texts that the readers accept say the day of the texts
files_say : (texts : Texts) (day : Day) → Accept texts day → AreShort texts
    → Say (made_files texts) (day_said day.layout (opening_of day.stock day.orders) day.scripts)
files_say texts day says short =
    let all = day_said day.layout (opening_of day.stock day.orders) day.scripts in
    let desks = made_file input.Desks (codes "desks") texts.desks in
    let orders = made_file input.Orders (codes "orders") texts.orders in
    let stock = made_file input.Stock (codes "stock") texts.stock in
    let with_layout : Said = record nothing_said { layout = day.layout } in
    let with_stock : Said = opening_said day.layout (opening_of day.stock []) in
    let with_orders : Said = opening_said day.layout (opening_of day.stock day.orders) in
    say_with nothing_said with_layout all input.Layout (codes "layout") texts.layout (stock ∷ orders ∷ desks ∷ [])
    (rw (short_said refusal.Layout layout_said texts.layout day.layout short.layout says.layout) refl)
    (say_with with_layout with_stock all input.Stock (codes "stock") texts.stock (orders ∷ desks ∷ [])
    (rw (short_said refusal.Row (stock_said day.layout) texts.stock day.stock short.stock says.stock) refl)
    (say_with with_stock with_orders all input.Orders (codes "orders") texts.orders (desks ∷ [])
    (rw (short_said refusal.Row (orders_said day.stock) texts.orders day.orders short.orders says.orders) refl)
    (say_with with_orders all all input.Desks (codes "desks") texts.desks []
    (rw (short_said refusal.Row scripts_said texts.desks day.scripts short.desks says.desks) refl) refl)))

-- what texts beside names hold is told
abbrev IsHeldBeside : List (List ℕ × List ℕ) → ReadFile → Type 0
IsHeldBeside shelf read = IsTold (λ name. Some (bytes_or_empty shelf name)) read.file.name read.text

-- made files that lie in memory are told
all_told : (texts : Texts) → All (IsHeldBeside (beside_names (made_files texts))) (made_files texts)
all_told texts =
    let P : ReadFile → Type 0 = IsHeldBeside (beside_names (made_files texts)) in
    let layout = made_file input.Layout (codes "layout") texts.layout in
    let stock = made_file input.Stock (codes "stock") texts.stock in
    let orders = made_file input.Orders (codes "orders") texts.orders in
    let desks = made_file input.Desks (codes "desks") texts.desks in
    All-cons P layout (stock ∷ orders ∷ desks ∷ []) refl
    (All-cons P stock (orders ∷ desks ∷ []) refl (All-cons P orders (desks ∷ []) refl (All-cons P desks [] refl (All-nil P))))

-- where the made texts lie in memory beside their names, the made day is held
pub made_day_held : (shelf : List (List ℕ × List ℕ)) (texts : Texts) (numbers : MakeNumbers) → shelf ≡ beside_names (made_files texts)
    → texts ≡ made_texts numbers.number (size_of numbers) → AreAccepted texts → AreShort texts
    → HoldMadeDay (λ name. Some (bytes_or_empty shelf name)) numbers
made_day_held shelf texts numbers held made (day, says) short =
    let say = files_say texts day says short in
    record {
      day = day_said day.layout (opening_of day.stock day.orders) day.scripts;
      made = subst (λ (t : Texts). Say (made_files t) (day_said day.layout (opening_of day.stock day.orders) day.scripts)) made say;
      told = record {
        read = made_files texts;
        are = refl;
        texts = subst (λ (s : List (List ℕ × List ℕ)). All (IsHeldBeside s) (made_files texts)) (sym held) (all_told texts);
        say = say;
      };
    }

-- what is read of such files is the made day
pub made_day_read : (old mid new : FilesTold) (numbers : MakeNumbers) (layout : Layout) (opening : Opening) (scripts : List Script)
    → HoldMadeDay old.holds numbers
    → HaveRead old mid (opening_files (codes "layout") (codes "stock") (codes "orders")) (opening_said layout opening) → WasRead mid new
    → IsSaid scripts_in mid.holds (codes "desks") scripts → IsMadeDay numbers (day_said layout opening scripts)
made_day_read old mid new numbers layout opening scripts held so_far was is =
    let day = day_said layout opening scripts in
    let read = say_next scripts_in old mid new (opening_files (codes "layout") (codes "stock") (codes "orders")) (opening_said layout opening) day
    input.Desks (codes "desks") scripts (λ text is. rw is refl) so_far was is in
    subst (IsMadeDay numbers) (sym (one_said old.holds day_files day held.day read.accepted held.told)) held.made

-- where files are told to say something and no count rises, want of memory alone stops a job among them
pub wants_memory_alone : (old new : FilesTold) (files : List File) (all : Said) (s : Stop) → HaveSaid (IsTold old.holds) files all
    → ((name : List ℕ) → new.faults name ≡ old.faults name) → StopsFor (among old new files) s → s ≡ stop.Memory
wants_memory_alone old new files all (stop.Complaint (complaint.Words why)) told stand stops = absurd stops
wants_memory_alone old new files all (stop.Complaint (complaint.Refused kind why)) told stand stops =
    absurd (none_refused old new files all kind why told stops)
wants_memory_alone old new files all (stop.Complaint (complaint.Fault kind)) told stand stops =
    let ends : EndsAt old new files kind (HasRisen old new) = stops in absurd (omega (arith, ends.why, stand ends.name))
wants_memory_alone old new files all (stop.Complaint (complaint.Wrong found)) told stand stops = absurd stops
wants_memory_alone old new files all (stop.Complaint complaint.Store) told stand stops = absurd stops
wants_memory_alone old new files all stop.Memory told stand stops = refl
