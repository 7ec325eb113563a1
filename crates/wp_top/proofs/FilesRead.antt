-- Files that were read, one after the other.
use Rattle.std.proofs.Common.{◌≡◌, ◌∙◌, refl, sym, ap, subst, ℕ, ◌+◌, List, [], ◌∷◌, ◌++◌, length, Option, Result, Ok, Err, append_assoc, length-append, arith}
use Rattle.std.specs.Prelude.{IfSome}
use Rattle.std.proofs.lemmas.List.{map-append}
use Rattle.std.proofs.lemmas.List.Elements.{All-nil, All-push}
use Rattle.wp_floor.specs.Opening.{opening_of}
use Rattle.wp_model.specs.Outcomes.{and_then}
use Rattle.wp_outside.specs.Outside.{FilesTold, NoneFalls, SameBytes}
use Rattle.wp_top.specs.Ends.{EndsAt, among}
use Rattle.wp_model.specs.Opening.{Order, Stock}
use Rattle.wp_model.specs.Warehouse.{Layout}
use Rattle.wp_top.specs.Stops.{IsSaid, StopsFor, of_file, opening_files, opening_said}
use Rattle.wp_top.specs.Texts.{File, HaveSaid, IsHeld, ReadFile, Said, Say, file_of, layout_in, nothing_said, orders_in, said_after, said_with, stock_in}
use Rattle.wp_top.specs.declared.complaint.Complaint.TheVariants as complaint
use Rattle.wp_top.specs.declared.complaint.Stop.{Stop}
use Rattle.wp_top.specs.declared.complaint.Stop.TheVariants as stop
use Rattle.wp_top.specs.declared.input.Input.{Input}
use Rattle.wp_top.specs.declared.input.Input.TheVariants as input
use Rattle.wp_top.specs.declared.input.Refusal.{Refusal}

-- what each name holds, where that is told
abbrev pub Holding : Type 0
Holding = List ℕ → Option (List ℕ)

-- what is held before a read is held after it
pub held_before : (old new : Holding) (name text : List ℕ) → new name ≡ old name → IsHeld new name text → IsHeld old name text
held_before old new name text same held = let P : Option (List ℕ) → Type 0 = λ o. IfSome o (λ told. text ≡ told) in subst P same held

first_of : (first : Result Said Refusal) (xs ys : List ReadFile)
    → ((said : Said) → said_after said (xs ++ ys) ≡ and_then (said_after said xs) (λ more. said_after more ys))
    → and_then first (λ m. said_after m (xs ++ ys)) ≡ and_then (and_then first (λ m. said_after m xs)) (λ more. said_after more ys)
first_of (Ok m) xs ys more = more m
first_of (Err why) xs ys more = refl

-- what files say and then more of them
pub after_more : (said : Said) (xs ys : List ReadFile) → said_after said (xs ++ ys) ≡ and_then (said_after said xs) (λ more. said_after more ys)
after_more said [] ys = refl
after_more said (x ∷ xs) ys = first_of (said_with said x.file.kind x.text) xs ys (λ m. after_more m xs ys)

-- what was said, and then a further file
pub say_further : (read : List ReadFile) (more : List ReadFile) (said : Said) → Say read said → said_after nothing_said (read ++ more) ≡ said_after said more
say_further read more said say = after_more nothing_said read more ∙ ap (λ r. and_then r (λ s. said_after s more)) say

-- so many files were read, one after the other, and this is what they said
pub record HaveRead (old new : FilesTold) (files : List File) (said : Said) : Type 0 where
  pub accepted : HaveSaid (IsHeld old.holds) files said
  pub same : SameBytes old.holds new.holds
  pub counts : NoneFalls old.faults new.faults
  pub reads : new.reads ≡ old.reads + length files

-- one file was read
pub record WasRead (old new : FilesTold) : Type 0 where
  pub same : SameBytes old.holds new.holds
  pub counts : NoneFalls old.faults new.faults
  pub reads : new.reads ≡ old.reads + 1

-- no file was read yet
pub nothing_said_yet : (holds : Holding) → HaveSaid (IsHeld holds) [] nothing_said
nothing_said_yet holds = record { read = []; are = refl; texts = All-nil (λ (r : ReadFile). IsHeld holds r.file.name r.text); say = refl }

pub nothing_read : (old : FilesTold) → HaveRead old old [] nothing_said
nothing_read old = record { accepted = nothing_said_yet old.holds; same = λ name. refl; counts = λ name. omega arith; reads = omega arith }

-- one file more
have_next : (holds : Holding) (files : List File) (said more : Said) (kind : Input) (name text : List ℕ) → HaveSaid (IsHeld holds) files said
    → IsHeld holds name text → said_with said kind text ≡ Ok more
    → HaveSaid (IsHeld holds) (files ++ file_of kind name ∷ []) more
have_next holds files said more kind name text so_far held is =
    let next : ReadFile = record { file = file_of kind name; text = text } in
    record {
      read = so_far.read ++ next ∷ [];
      are = map-append (λ (r : ReadFile). r.file) so_far.read (next ∷ []) ∙ ap (λ fs. fs ++ file_of kind name ∷ []) so_far.are;
      texts = All-push (λ (r : ReadFile). IsHeld holds r.file.name r.text) so_far.read next so_far.texts held;
      say = say_further so_far.read (next ∷ []) said so_far.say ∙ ap (λ r. and_then r (λ s. Ok s)) is;
    }

one_more : (old mid new : ℕ) (files : List File) (file : File) → mid ≡ old + length files → new ≡ mid + 1 → new ≡ old + length (files ++ file ∷ [])
one_more old mid new files file so_far next = omega (arith, length-append files (file ∷ []), so_far, next)

-- what a further file holds
pub read_next : (old mid new : FilesTold) (files : List File) (said more : Said) (kind : Input) (name text : List ℕ) → HaveRead old mid files said
    → WasRead mid new → IsHeld mid.holds name text → said_with said kind text ≡ Ok more → HaveRead old new (files ++ file_of kind name ∷ []) more
read_next old mid new files said more kind name text so_far was held is = record {
  accepted = have_next old.holds files said more kind name text so_far.accepted (held_before old.holds mid.holds name text (so_far.same name) held) is;
  same = λ name. was.same name ∙ so_far.same name;
  counts = λ name. omega (arith, so_far.counts name, was.counts name);
  reads = one_more old.reads mid.reads new.reads files (file_of kind name) so_far.reads was.reads;
}

-- where something came of it, the files say more
pub say_next : {A : Type 0} (says : List ℕ → Result A Refusal) (old mid new : FilesTold) (files : List File) (said more : Said) (kind : Input)
    (name : List ℕ) (x : A)
    → ((text : List ℕ) → says text ≡ Ok x → said_with said kind text ≡ Ok more) → HaveRead old mid files said → WasRead mid new
    → IsSaid says mid.holds name x
    → HaveRead old new (files ++ file_of kind name ∷ []) more
say_next says old mid new files said more kind name x takes so_far was (text, here, is) =
    read_next old mid new files said more kind name text so_far was here (takes text is)

ends_at_more : (old new : FilesTold) (files more : List File) (kind : Input) (Why : Said → List ℕ → Type 0) → EndsAt old new files kind Why
    → EndsAt old new (files ++ more) kind Why
ends_at_more old new files more kind Why ends = record {
  before = ends.before;
  name = ends.name;
  later = ends.later ++ more;
  place = ap (λ fs. fs ++ more) ends.place ∙ append_assoc ends.before (file_of kind ends.name ∷ ends.later) more;
  said = ends.said;
  accepted = ends.accepted;
  reads = ends.reads;
  why = ends.why;
}

-- a stop among the first files is one among all
pub stops_among_more : (old new : FilesTold) (files more : List File) (s : Stop) → StopsFor (among old new files) s
    → StopsFor (among old new (files ++ more)) s
stops_among_more old new files more (stop.Complaint (complaint.Words why)) stops = absurd stops
stops_among_more old new files more (stop.Complaint (complaint.Refused kind why)) stops = ends_at_more old new files more kind _ stops
stops_among_more old new files more (stop.Complaint (complaint.Fault kind)) stops = ends_at_more old new files more kind _ stops
stops_among_more old new files more (stop.Complaint (complaint.Wrong found)) stops = absurd stops
stops_among_more old new files more (stop.Complaint complaint.Store) stops = absurd stops
stops_among_more old new files more stop.Memory stops = tt

last_of : (old mid new : ℕ) (files : List File) → mid ≡ old + length files → new ≡ mid + 1 → new ≡ old + (length files + 1)
last_of old mid new files so_far next = omega (arith, so_far, next)

-- where nothing came of a file, a job stops at it
pub stops_there : {A : Type 0} (says : List ℕ → Result A Refusal) (old mid new : FilesTold) (files later : List File) (said : Said) (kind : Input)
    (name : List ℕ) (s : Stop)
    → ((text : List ℕ) (why : Refusal) → says text ≡ Err why → said_with said kind text ≡ Err why) → HaveRead old mid files said
    → StopsFor (of_file says mid new name kind) s → StopsFor (among old new (files ++ file_of kind name ∷ later)) s
stops_there says old mid new files later said kind name (stop.Complaint (complaint.Words why)) refuses so_far nothing = absurd nothing
stops_there says old mid new files later said kind name (stop.Complaint (complaint.Refused f why)) refuses so_far (is, next, text, here, none) = record {
  before = files;
  name = name;
  later = later;
  place = ap (λ k. files ++ file_of k name ∷ later) (sym is);
  said = said;
  accepted = so_far.accepted;
  reads = last_of old.reads mid.reads new.reads files so_far.reads next;
  why = (text, held_before old.holds mid.holds name text (so_far.same name) here, ap (λ k. said_with said k text) is ∙ refuses text why none);
}
stops_there says old mid new files later said kind name (stop.Complaint (complaint.Fault f)) refuses so_far (is, next, less) = record {
  before = files;
  name = name;
  later = later;
  place = ap (λ k. files ++ file_of k name ∷ later) (sym is);
  said = said;
  accepted = so_far.accepted;
  reads = last_of old.reads mid.reads new.reads files so_far.reads next;
  why = omega (arith, less, so_far.counts name);
}
stops_there says old mid new files later said kind name (stop.Complaint (complaint.Wrong found)) refuses so_far nothing = absurd nothing
stops_there says old mid new files later said kind name (stop.Complaint complaint.Store) refuses so_far nothing = absurd nothing
stops_there says old mid new files later said kind name stop.Memory refuses so_far nothing = tt

-- the layout file was read
abbrev pub layout_file : List ℕ → List File
layout_file layout = file_of input.Layout layout ∷ []

-- what is said once the layout file was read
pub after_layout : (old new : FilesTold) (layout : List ℕ) (space : Layout) → WasRead old new → IsSaid layout_in old.holds layout space
    → HaveRead old new (layout_file layout) (record nothing_said { layout = space })
after_layout old new layout space was is =
    say_next layout_in old old new [] nothing_said (record nothing_said { layout = space }) input.Layout layout space (λ text said. rw said refl)
    (nothing_read old) was is

-- and the stock file
abbrev pub stock_files : List ℕ → List ℕ → List File
stock_files layout stock = file_of input.Layout layout ∷ file_of input.Stock stock ∷ []

-- and what is said once the stock file was read too
pub after_stock : (old mid new : FilesTold) (layout stock : List ℕ) (space : Layout) (rows : Stock)
    → HaveRead old mid (layout_file layout) (record nothing_said { layout = space }) → WasRead mid new → IsSaid (stock_in space) mid.holds stock rows
    → HaveRead old new (stock_files layout stock) (opening_said space (opening_of rows []))
after_stock old mid new layout stock space rows so_far was is =
    say_next (stock_in space) old mid new (layout_file layout) (record nothing_said { layout = space })
    (opening_said space (opening_of rows [])) input.Stock stock rows (λ text said. rw said refl) so_far was is

-- and the order file
pub after_orders : (old mid new : FilesTold) (layout stock orders : List ℕ) (space : Layout) (rows : Stock) (wanted : List Order)
    → HaveRead old mid (stock_files layout stock) (opening_said space (opening_of rows [])) → WasRead mid new
    → IsSaid (orders_in rows) mid.holds orders wanted
    → HaveRead old new (opening_files layout stock orders) (opening_said space (opening_of rows wanted))
after_orders old mid new layout stock orders space rows wanted so_far was is =
    say_next (orders_in rows) old mid new (stock_files layout stock) (opening_said space (opening_of rows []))
    (opening_said space (opening_of rows wanted)) input.Orders orders wanted (λ text said. rw said refl) so_far was is
