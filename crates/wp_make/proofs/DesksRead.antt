-- The commands of the made waves are read, wave by wave.
use Rattle.std.proofs.Common.{◌≡◌, ◌∙◌, refl, subst, ℕ, zero, suc, ◌+◌, ◌-◌, ◌*◌, ◌%◌, ◌<◌, ◌≤◌, Bool, true, List, [], ◌∷◌, ◌++◌, length, arith, length-append}
use Rattle.std.proofs.Common.{lit≤, lt-ltb, le-leb}
use Rattle.std.specs.Prelude.{min, if◌then◌else◌, Result, Ok, Err, map}
use Rattle.std.specs.List.{count_by, list_all, range_with_len}
use Rattle.std.proofs.lemmas.List.FromFn.{length-map-range_with_len}
use Rattle.std.proofs.lemmas.List.Sums.{fold-append}
use Rattle.wp_model.specs.Limits.{greatest_desk, most_commands, most_submissions}
use Rattle.wp_model.specs.Name.{is_name}
use Rattle.wp_model.specs.declared.command.Command.{Command}
use Rattle.wp_model.specs.declared.command.Command.TheVariants as command
use Rattle.wp_tables.specs.DeskFile.{asked_by, command_after, is_submission, names_read, script_after, submissions}
use Rattle.wp_tables.specs.declared.fault.Why.{Why}
use Rattle.wp_make.specs.Records.{desks_records, order_name, release_record, submit_record, wave_name, wave_records}
use Rattle.wp_make.specs.Sizes.{IsSize, desk_of_wave, orders_of_wave, wave_count}
use Rattle.wp_make.specs.declared.input.Size.{Size}
use Rattle.wp_make.proofs.Lines.{both, named_texts}
use Rattle.wp_make.proofs.Making.{Makes, makes_each, makes_on, makes_one}
use Rattle.wp_make.proofs.ReadBack.{small_back}
use Rattle.wp_make.proofs.Words.{IsSmall, and_true, number_named, order_named, wave_named}

-- what a list is of that a test reads
abbrev item_of : {A B : Type 0} → (List A → B) → Type 0
item_of {A} test = A

-- a desk's command, as it is read
abbrev pub Asked : Type 0
Asked = item_of submissions

-- so many commands were read, of which so many submit a wave
pub record HasCommands (count submitted : ℕ) (commands : List Asked) : Type 0 where
  pub many : length commands ≡ count
  pub waves : submissions commands ≡ submitted

-- the wave after so many
record IsWave (size : Size) (waves : ℕ) : Type 0 where
  within : IsSize size
  few : waves < most_submissions

small_wave : (size : Size) (waves : ℕ) → IsWave size waves → IsSmall (waves + 1)
small_wave size waves wave = record { below = omega (arith, wave.few) }

remainder : (n d : ℕ) → 1 ≤ d → n % d < d
remainder n d some = omega arith

desk_range : (size : Size) (waves : ℕ) → IsSize size → desk_of_wave size waves ≤ greatest_desk
desk_range size waves is = omega (arith, remainder waves size.desks is.some_desks, is.desks)

small_desk : (size : Size) (waves : ℕ) → IsSize size → IsSmall (desk_of_wave size waves)
small_desk size waves is = record { below = omega (arith, desk_range size waves is) }

orders_named : (n first : ℕ) → ((k : ℕ) → first ≤ k → k < first + n → IsSmall k) → list_all is_name (map order_name (range_with_len first n)) ≡ true
orders_named zero first small = refl
orders_named (suc n) first small =
    and_true _ _ (order_named first (small first (omega arith) (omega arith)))
    (orders_named n (first + 1) (λ k low high. small k (omega arith) (omega arith)))

within : (taken wave orders k : ℕ) → orders ≤ 10000 → taken + 1 ≤ k → k < taken + 1 + min wave (orders - taken) → IsSmall k
within taken wave orders k most low high = record { below = omega arith }

wave_orders_named : (size : Size) (waves : ℕ) → IsSize size → list_all is_name (map order_name (orders_of_wave size waves)) ≡ true
wave_orders_named size waves is =
    let taken = waves * size.wave in
    orders_named (min size.wave (size.orders - taken)) (taken + 1) (λ k low high. within taken size.wave size.orders k is.orders low high)

few_named : (size : Size) (waves : ℕ) → IsSize size → length (map order_name (orders_of_wave size waves)) ≤ 64
few_named size waves is =
    let taken = waves * size.wave in
    omega (arith, length-map-range_with_len order_name (taken + 1) (min size.wave (size.orders - taken)), is.wave)

submit_named : (size : Size) (waves : ℕ) → IsWave size waves → list_all is_name (submit_record size waves) ≡ true
submit_named size waves wave =
    and_true _ _ (number_named (desk_of_wave size waves) (small_desk size waves wave.within))
    (and_true _ _ (wave_named (waves + 1) (small_wave size waves wave)) (wave_orders_named size waves wave.within))

release_named : (size : Size) (waves : ℕ) → IsWave size waves → list_all is_name (release_record size waves) ≡ true
release_named size waves wave =
    and_true _ _ (number_named (desk_of_wave size waves) (small_desk size waves wave.within))
    (and_true _ _ (wave_named (waves + 1) (small_wave size waves wave)) refl)

names_all : (names : List (List ℕ)) → list_all is_name names ≡ true → names_read names ≡ Ok names
names_all [] named = refl
names_all (name ∷ names) named = let parts = both (is_name name) (list_all is_name names) named in rw (parts.0, names_all names parts.1) refl

-- the command of a desk, as it is read
abbrev asked : ℕ → Command → Result Asked Why
asked desk command = asked_by desk (Ok command)

-- what a result has
abbrev got : {A : Type 0} → Result A Why → List A
got (Ok x) = x ∷ []
got (Err why) = []

-- the two commands of a wave
abbrev submit_of : Size → ℕ → Result Asked Why
submit_of size waves = asked (desk_of_wave size waves) (command.Submit (wave_name (waves + 1)) (map order_name (orders_of_wave size waves)))

abbrev release_of : Size → ℕ → Result Asked Why
release_of size waves = asked (desk_of_wave size waves) (command.Release (wave_name (waves + 1)))

submit_read : (size : Size) (waves count : ℕ) (commands : List Asked) → IsWave size waves → count < most_commands → HasCommands count waves commands
    → command_after commands (submit_record size waves) ≡ submit_of size waves
submit_read size waves count commands wave few has =
    rw (
      lt-ltb (length commands) most_commands (omega (arith, has.many)),
      named_texts (submit_record size waves) (submit_named size waves wave),
      small_back 18 (desk_of_wave size waves) (lit≤ tt) (small_desk size waves wave.within),
      le-leb 1 (desk_of_wave size waves) (omega arith),
      le-leb (desk_of_wave size waves) greatest_desk (desk_range size waves wave.within),
      le-leb (length (map order_name (orders_of_wave size waves))) 100 (omega (arith, few_named size waves wave.within)),
      wave_named (waves + 1) (small_wave size waves wave),
      names_all (map order_name (orders_of_wave size waves)) (wave_orders_named size waves wave.within),
      lt-ltb (submissions commands) most_submissions (omega (arith, has.waves, wave.few)),
    ) refl

release_read : (size : Size) (waves count submitted : ℕ) (commands : List Asked) → IsWave size waves → count < most_commands
    → HasCommands count submitted commands → command_after commands (release_record size waves) ≡ release_of size waves
release_read size waves count submitted commands wave few has =
    rw (
      lt-ltb (length commands) most_commands (omega (arith, has.many)),
      named_texts (release_record size waves) (release_named size waves wave),
      small_back 18 (desk_of_wave size waves) (lit≤ tt) (small_desk size waves wave.within),
      le-leb 1 (desk_of_wave size waves) (omega arith),
      le-leb (desk_of_wave size waves) greatest_desk (desk_range size waves wave.within),
      wave_named (waves + 1) (small_wave size waves wave),
    ) refl

counted : {A : Type 0} (p : A → Bool) (xs : List A) (x : A) → count_by p (xs ++ x ∷ []) ≡ count_by p xs + (if p x then 1 else 0)
counted p xs x = fold-append (λ (n : ℕ) y. n + (if p y then 1 else 0)) 0 xs (x ∷ [])

-- a further command
command_more : (count submitted more desk : ℕ) (commands : List Asked) (c : Command) → HasCommands count submitted commands
    → more ≡ submitted + (if is_submission c then 1 else 0) → HasCommands (count + 1) more (commands ++ got (asked desk c))
command_more count submitted more desk commands c has is = record {
  many = omega (arith, length-append commands (got (asked desk c)), has.many);
  waves = counted (λ asked. is_submission asked.command) commands _ ∙ omega (arith, has.waves, is);
}

submit_made : (size : Size) (waves : ℕ) (commands : List Asked) → IsWave size waves → HasCommands (2 * waves) waves commands
    → Makes script_after commands (submit_record size waves ∷ []) (HasCommands (2 * waves + 1) (waves + 1))
submit_made size waves commands wave has =
    makes_one script_after commands (commands ++ got (submit_of size waves)) (submit_record size waves) (HasCommands (2 * waves + 1) (waves + 1))
    (rw (submit_read size waves (2 * waves) commands wave (omega (arith, wave.few)) has) refl) (submit_named size waves wave)
    (command_more (2 * waves) waves (waves + 1) (desk_of_wave size waves) commands
    (command.Submit (wave_name (waves + 1)) (map order_name (orders_of_wave size waves))) has refl)

release_made : (size : Size) (waves : ℕ) (commands : List Asked) → IsWave size waves → HasCommands (2 * waves + 1) (waves + 1) commands
    → Makes script_after commands (release_record size waves ∷ []) (HasCommands (2 * (waves + 1)) (waves + 1))
release_made size waves commands wave has =
    let both : 2 * waves + 1 + 1 ≡ 2 * (waves + 1) = omega arith in
    makes_one script_after commands (commands ++ got (release_of size waves)) (release_record size waves) (HasCommands (2 * (waves + 1)) (waves + 1))
    (rw (release_read size waves (2 * waves + 1) (waves + 1) commands wave (omega (arith, wave.few)) has) refl) (release_named size waves wave)
    (subst (λ count. HasCommands count (waves + 1) (commands ++ got (release_of size waves))) both
    (command_more (2 * waves + 1) (waves + 1) (waves + 1) (desk_of_wave size waves) commands (command.Release (wave_name (waves + 1))) has (omega arith)))

wave_made : (size : Size) (waves : ℕ) (commands : List Asked) → IsWave size waves → HasCommands (2 * waves) waves commands
    → Makes script_after commands (wave_records size waves) (HasCommands (2 * (waves + 1)) (waves + 1))
wave_made size waves commands wave has =
    let submitted = submit_made size waves commands wave has in
    makes_on script_after commands (submit_record size waves ∷ []) (release_record size waves ∷ []) (HasCommands (2 * waves + 1) (waves + 1))
    (HasCommands (2 * (waves + 1)) (waves + 1)) submitted (release_made size waves submitted.after wave submitted.keeps)

-- the records of all waves
pub desks_made : (size : Size) → IsSize size
    → Makes script_after [] (desks_records size) (HasCommands (2 * (0 + wave_count size)) (0 + wave_count size))
desks_made size is =
    makes_each script_after (wave_records size) (λ waves. HasCommands (2 * waves) waves) (wave_count size) 0
    (λ waves commands low high has. wave_made size waves commands (record { within = is; few = omega (arith, high, is.waves) }) has) []
    (record { many = refl; waves = refl })
