-- The records of waves are read as the commands that send them out.
use Rattle.std.proofs.Common.{◌≡◌, ◌∙◌, refl, sym, ap, subst, ℕ, ◌+◌, ◌*◌, ◌<◌, ◌≤◌, Bool, true, List, [], ◌∷◌, ◌++◌, All, length, map, arith}
use Rattle.std.proofs.Common.{append_assoc, append-nil, le-leb, length-append, lit≤, lt-ltb}
use Rattle.std.specs.Prelude.{if◌then◌else◌, Result, Ok, Err}
use Rattle.std.specs.List.{count_by, list_all}
use Rattle.std.proofs.lemmas.List.{length-map}
use Rattle.std.proofs.lemmas.List.Elements.{All-head, All-tail}
use Rattle.std.proofs.lemmas.List.Sums.{fold-append}
use Rattle.wp_dispatch.specs.DeskText.{MayBePrinted, commands_out}
use Rattle.wp_dispatch.proofs.DeskRecords.{release_record, submit_record, wave_records, waves_records}
use Rattle.wp_make.proofs.DesksRead.{Asked}
use Rattle.wp_make.proofs.Lines.{both, named_texts}
use Rattle.wp_make.proofs.Making.{Makes, makes_nothing, makes_on, makes_one}
use Rattle.wp_make.proofs.ReadBack.{small_back}
use Rattle.wp_make.proofs.Words.{IsSmall, and_true, number_named}
use Rattle.wp_model.specs.Limits.{greatest_desk, most_commands, most_submissions}
use Rattle.wp_model.specs.Name.{is_name}
use Rattle.wp_model.specs.declared.command.Command.{Command}
use Rattle.wp_model.specs.declared.command.Command.TheVariants as command
use Rattle.wp_outgoing.specs.declared.lines.WaveOut.{WaveOut}
use Rattle.wp_tables.specs.DeskFile.{asked_by, command_after, is_submission, names_read, script_after, submissions}
use Rattle.wp_tables.specs.declared.fault.Why.{Why}
use Rattle.wp_waves.specs.OpenOrders.{order_of}
use Rattle.wp_waves.specs.declared.open_orders.OpenOrder.{OpenOrder}

-- the number of a desk
pub record IsDesk (desk : ℕ) : Type 0 where
  pub some : 1 ≤ desk
  pub few : desk ≤ greatest_desk

-- what a result has
abbrev got : {A : Type 0} → Result A Why → List A
got (Ok x) = x ∷ []
got (Err why) = []

-- commands, each as that of a desk
abbrev pub asked : ℕ → Command → Result Asked Why
asked desk command = asked_by desk (Ok command)

abbrev pub all_asked : ℕ → List Command → List Asked
all_asked desk [] = []
all_asked desk (c ∷ commands) = got (asked desk c) ++ all_asked desk commands

all_append : (desk : ℕ) (xs ys : List Command) → all_asked desk (xs ++ ys) ≡ all_asked desk xs ++ all_asked desk ys
all_append desk [] ys = refl
all_append desk (c ∷ xs) ys = ap (λ (rest : List Asked). got (asked desk c) ++ rest) (all_append desk xs ys)

-- a desk's commands were read, so many, of which so many submit a wave
pub record HaveRead (desk : ℕ) (commands : List Command) (count submitted : ℕ) (read : List Asked) : Type 0 where
  pub is : read ≡ all_asked desk commands
  pub many : length read ≡ count
  pub waves : submissions read ≡ submitted

counted : {A : Type 0} (p : A → Bool) (xs : List A) (x : A) → count_by p (xs ++ x ∷ []) ≡ count_by p xs + (if p x then 1 else 0)
counted p xs x = fold-append (λ (n : ℕ) y. n + (if p y then 1 else 0)) 0 xs (x ∷ [])

-- and one more
read_more : (desk : ℕ) (commands : List Command) (count submitted more : ℕ) (read : List Asked) (c : Command)
    → HaveRead desk commands count submitted read → more ≡ submitted + (if is_submission c then 1 else 0)
    → HaveRead desk (commands ++ c ∷ []) (count + 1) more (read ++ got (asked desk c))
read_more desk commands count submitted more read c have is = record {
  is = ap (λ (r : List Asked). r ++ got (asked desk c)) have.is ∙ sym (all_append desk commands (c ∷ []));
  many = omega (arith, length-append read (got (asked desk c)), have.many);
  waves = counted (λ asked. is_submission asked.command) read _ ∙ omega (arith, have.waves, is);
}

small_desk : (desk : ℕ) → IsDesk desk → IsSmall desk
small_desk desk is = record { below = omega (arith, is.few) }

orders_named : (orders : List OpenOrder) → All (λ (one : OpenOrder). is_name one.order ≡ true) orders → list_all is_name (map order_of orders) ≡ true
orders_named [] named = refl
orders_named (one ∷ orders) named =
    and_true _ _ (All-head (λ (o : OpenOrder). is_name o.order ≡ true) one orders named)
    (orders_named orders (All-tail (λ (o : OpenOrder). is_name o.order ≡ true) one orders named))

submit_named : (desk : ℕ) (wave : WaveOut) → IsDesk desk → MayBePrinted wave → list_all is_name (submit_record desk wave) ≡ true
submit_named desk wave is may =
    and_true _ _ (number_named desk (small_desk desk is)) (and_true _ _ may.named (orders_named wave.orders.items may.orders))

release_named : (desk : ℕ) (wave : WaveOut) → IsDesk desk → MayBePrinted wave → list_all is_name (release_record desk wave) ≡ true
release_named desk wave is may = and_true _ _ (number_named desk (small_desk desk is)) (and_true _ _ may.named refl)

names_all : (names : List (List ℕ)) → list_all is_name names ≡ true → names_read names ≡ Ok names
names_all [] named = refl
names_all (name ∷ names) named = let parts = both (is_name name) (list_all is_name names) named in rw (parts.0, names_all names parts.1) refl

-- the two commands of a wave
abbrev submit_of : WaveOut → Command
submit_of wave = command.Submit wave.name (map order_of wave.orders.items)

abbrev release_of : WaveOut → Command
release_of wave = command.Release wave.name

submit_read : (desk : ℕ) (wave : WaveOut) (commands : List Command) (count submitted : ℕ) (read : List Asked) → IsDesk desk → MayBePrinted wave
    → count < most_commands → submitted < most_submissions → HaveRead desk commands count submitted read
    → command_after read (submit_record desk wave) ≡ asked desk (submit_of wave)
submit_read desk wave commands count submitted read is may few room have =
    rw (
      lt-ltb (length read) most_commands (omega (arith, have.many)),
      named_texts (submit_record desk wave) (submit_named desk wave is may),
      small_back 18 desk (lit≤ tt) (small_desk desk is),
      le-leb 1 desk is.some,
      le-leb desk greatest_desk is.few,
      le-leb (length (map order_of wave.orders.items)) 100 (omega (arith, length-map wave.orders.items order_of, may.few)),
      may.named,
      names_all (map order_of wave.orders.items) (orders_named wave.orders.items may.orders),
      lt-ltb (submissions read) most_submissions (omega (arith, have.waves, room)),
    ) refl

release_read : (desk : ℕ) (wave : WaveOut) (commands : List Command) (count submitted : ℕ) (read : List Asked) → IsDesk desk → MayBePrinted wave
    → count < most_commands → HaveRead desk commands count submitted read → command_after read (release_record desk wave) ≡ asked desk (release_of wave)
release_read desk wave commands count submitted read is may few have =
    rw (
      lt-ltb (length read) most_commands (omega (arith, have.many)),
      named_texts (release_record desk wave) (release_named desk wave is may),
      small_back 18 desk (lit≤ tt) (small_desk desk is),
      le-leb 1 desk is.some,
      le-leb desk greatest_desk is.few,
      may.named,
    ) refl

submit_made : (desk : ℕ) (wave : WaveOut) (commands : List Command) (waves : ℕ) (read : List Asked) → IsDesk desk → MayBePrinted wave
    → waves < most_submissions → HaveRead desk commands (2 * waves) waves read
    → Makes script_after read (submit_record desk wave ∷ []) (HaveRead desk (commands ++ submit_of wave ∷ []) (2 * waves + 1) (waves + 1))
submit_made desk wave commands waves read is may room have =
    makes_one script_after read (read ++ got (asked desk (submit_of wave))) (submit_record desk wave)
    (HaveRead desk (commands ++ submit_of wave ∷ []) (2 * waves + 1) (waves + 1))
    (rw (submit_read desk wave commands (2 * waves) waves read is may (omega (arith, room)) room have) refl) (submit_named desk wave is may)
    (read_more desk commands (2 * waves) waves (waves + 1) read (submit_of wave) have refl)

release_made : (desk : ℕ) (wave : WaveOut) (commands : List Command) (waves : ℕ) (read : List Asked) → IsDesk desk → MayBePrinted wave
    → waves < most_submissions → HaveRead desk commands (2 * waves + 1) (waves + 1) read
    → Makes script_after read (release_record desk wave ∷ []) (HaveRead desk (commands ++ release_of wave ∷ []) (2 * (waves + 1)) (waves + 1))
release_made desk wave commands waves read is may room have =
    let both : 2 * waves + 1 + 1 ≡ 2 * (waves + 1) = omega arith in
    makes_one script_after read (read ++ got (asked desk (release_of wave))) (release_record desk wave)
    (HaveRead desk (commands ++ release_of wave ∷ []) (2 * (waves + 1)) (waves + 1))
    (rw (release_read desk wave commands (2 * waves + 1) (waves + 1) read is may (omega (arith, room)) have) refl) (release_named desk wave is may)
    (subst (λ count. HaveRead desk (commands ++ release_of wave ∷ []) count (waves + 1) (read ++ got (asked desk (release_of wave)))) both
    (read_more desk commands (2 * waves + 1) (waves + 1) (waves + 1) read (release_of wave) have (omega arith)))

wave_made : (desk : ℕ) (wave : WaveOut) (commands : List Command) (waves : ℕ) (read : List Asked) → IsDesk desk → MayBePrinted wave
    → waves < most_submissions → HaveRead desk commands (2 * waves) waves read
    → Makes script_after read (wave_records desk wave)
    (HaveRead desk ((commands ++ submit_of wave ∷ []) ++ release_of wave ∷ []) (2 * (waves + 1)) (waves + 1))
wave_made desk wave commands waves read is may room have =
    let submitted = submit_made desk wave commands waves read is may room have in
    makes_on script_after read (submit_record desk wave ∷ []) (release_record desk wave ∷ [])
    (HaveRead desk (commands ++ submit_of wave ∷ []) (2 * waves + 1) (waves + 1))
    (HaveRead desk ((commands ++ submit_of wave ∷ []) ++ release_of wave ∷ []) (2 * (waves + 1)) (waves + 1)) submitted
    (release_made desk wave (commands ++ submit_of wave ∷ []) waves submitted.after is may room submitted.keeps)

-- the commands of one wave, and those of the others
one_then : (commands : List Command) (wave : WaveOut) (waves : List WaveOut)
    → ((commands ++ submit_of wave ∷ []) ++ release_of wave ∷ []) ++ commands_out waves ≡ commands ++ commands_out (wave ∷ waves)
one_then commands wave waves =
    append_assoc (commands ++ submit_of wave ∷ []) (release_of wave ∷ []) (commands_out waves)
    ∙ append_assoc commands (submit_of wave ∷ []) (release_of wave ∷ commands_out waves)

-- the records of all waves
pub waves_made : (desk : ℕ) (waves : List WaveOut) (commands : List Command) (before : ℕ) (read : List Asked) → IsDesk desk → All MayBePrinted waves
    → before + length waves ≤ most_submissions → HaveRead desk commands (2 * before) before read
    → Makes script_after read (waves_records desk waves)
    (HaveRead desk (commands ++ commands_out waves) (2 * (before + length waves)) (before + length waves))
waves_made desk [] commands before read is may room have =
    let e : before ≡ before + 0 = omega arith in
    makes_nothing script_after read (HaveRead desk (commands ++ []) (2 * (before + 0)) (before + 0))
    (subst (λ n. HaveRead desk (commands ++ []) (2 * n) n read) e
    (subst (λ (cs : List Command). HaveRead desk cs (2 * before) before read) (sym (append-nil commands)) have))
waves_made desk (wave ∷ waves) commands before read is may room have =
    let front = wave_made desk wave commands before read is (All-head MayBePrinted wave waves may) (omega arith) have in
    let sent : List Command = (commands ++ submit_of wave ∷ []) ++ release_of wave ∷ [] in
    let rest = waves_made desk waves sent (before + 1) front.after is (All-tail MayBePrinted wave waves may) (omega arith) front.keeps in
    let e : (before + 1) + length waves ≡ before + length (wave ∷ waves) = omega arith in
    subst (λ n. Makes script_after read (waves_records desk (wave ∷ waves)) (HaveRead desk (commands ++ commands_out (wave ∷ waves)) (2 * n) n)) e
    (subst (λ (cs : List Command). Makes script_after read (waves_records desk (wave ∷ waves))
    (HaveRead desk cs (2 * ((before + 1) + length waves)) ((before + 1) + length waves))) (one_then commands wave waves)
    (makes_on script_after read (wave_records desk wave) (waves_records desk waves)
    (HaveRead desk sent (2 * (before + 1)) (before + 1))
    (HaveRead desk (sent ++ commands_out waves) (2 * ((before + 1) + length waves)) ((before + 1) + length waves)) front rest))
