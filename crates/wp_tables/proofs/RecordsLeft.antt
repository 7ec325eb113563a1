-- The records that are left, after one more was read.
use Rattle.std.proofs.Common.{◌≡◌, ◌∙◌, refl, sym, ap, ℕ, zero, suc, ◌+◌, ◌<◌, ◌≤◌, Bool, true, false, List, [], ◌∷◌, length, Option, Some, None, Bor, inl}
use Rattle.std.proofs.Common.{arith}
use Rattle.std.specs.Prelude.{if◌then◌else◌}
use Rattle.std.specs.Option.{option_map_or}
use Rattle.csv.specs.Machine.{Read, ends_at_end, next_record}
use Rattle.csv.specs.Reading.{ReadRecord, Reached, default_config, is_bom, is_flexible, reader_state, records_from, records_next, strip_bom, took_first}
use Rattle.wp_tables.specs.RecordsLeft.{IsReading, TakesRecord, bytes_left, records_left}
use Rattle.wp_tables.specs.declared.records.Records.{Records}
use Rattle.csv.specs.declared.parser.State.{State}
use Rattle.csv.proofs.ReadFacts.{rows-end, rows-more}
use Rattle.wp_tables.proofs.TakenBytes.{no_record_at_end, record_takes}

-- a record takes bytes of those that are left
pub takes : (s : State) (xs : List ℕ) (p : Read) → ends_at_end s ≡ false → next_record default_config s [] [] xs ≡ Some p → (length p.2 < length xs)
    × (ends_at_end p.1 ≡ false)
takes s [] p between found = absurd (cc (found, no_record_at_end s between))
takes s (c ∷ xs) p between found = record_takes s [] [] c xs p found

enough_at : (n m : ℕ) (s : State) (xs : List ℕ) (o : Option Read) → next_record default_config s [] [] xs ≡ o
    → ((p : Read) → o ≡ Some p → records_from default_config n p.1 p.2 ≡ records_from default_config m p.1 p.2)
    → records_next (records_from default_config n) o ≡ records_next (records_from default_config m) o
enough_at n m s xs None is rest = refl
enough_at n m s xs (Some p) is rest = ap (λ more. p.0 ∷ more) (rest p refl)

-- as many records as there are bytes are all records
pub enough : (n m : ℕ) (s : State) (xs : List ℕ) → length xs < n → length xs < m → ends_at_end s ≡ false
    → records_from default_config n s xs ≡ records_from default_config m s xs
unfolding records_from
enough zero m s xs below below' between = absurd (omega arith)
enough (suc n) zero s xs below below' between = absurd (omega arith)
enough (suc n) (suc m) s xs below below' between =
    enough_at n m s xs (next_record default_config s [] [] xs) refl
    (λ p found.
    let (shorter, between_then) = takes s xs p between found in
    enough n m p.1 p.2 (omega arith) (omega arith) between_then)

-- all records, where there is one
first_record : (s : State) (xs : List ℕ) (p : Read) → ends_at_end s ≡ false → next_record default_config s [] [] xs ≡ Some p
    → records_from default_config (length xs + 1) s xs ≡ p.0 ∷ records_from default_config (length p.2 + 1) p.1 p.2
unfolding records_from
first_record s xs p between found =
    let (shorter, between_then) = takes s xs p between found in
    let fuel : length xs + 1 ≡ suc (length xs) = omega arith in
    rw (fuel, found) (ap (λ more. p.0 ∷ more) (enough (length xs) (length p.2 + 1) p.1 p.2 shorter (omega arith) between_then))

-- all records, where there is none
no_record : (s : State) (xs : List ℕ) → next_record default_config s [] [] xs ≡ None → records_from default_config (length xs + 1) s xs ≡ []
unfolding records_from
no_record s xs none =
    let fuel : length xs + 1 ≡ suc (length xs) = omega arith in
    rw (fuel, none) refl

-- no mark makes a text longer
pub no_longer : (text : List ℕ) → length (strip_bom text) ≤ length text
unfolding strip_bom
no_longer [] = omega arith
no_longer (a ∷ []) = omega arith
no_longer (a ∷ b ∷ []) = omega arith
no_longer (a ∷ b ∷ c ∷ rest) = no_longer_if (is_bom a b c) a b c rest
  where
    no_longer_if : (mark : Bool) (a b c : ℕ) (rest : List ℕ) → length (if mark then rest else a ∷ b ∷ c ∷ rest) ≤ length (a ∷ b ∷ c ∷ rest)
    no_longer_if true a b c rest = omega arith
    no_longer_if false a b c rest = omega arith

-- a reader that took a record
pub took : (before after : Records) (fields : List (List ℕ)) → IsReading before
    → ReadRecord (λ (text : Bor (List ℕ)). Some text.now) before.reader after.reader true fields → is_flexible after.reader ≡ is_flexible before.reader
    → took_first after.reader ≡ true → after.number ≡ before.number + 1
    → TakesRecord before fields after
unfolding Reached
took before after fields reading read flexible first number =
    let rem = λ (text : Bor (List ℕ)). Some text.now in
    let xs = bytes_left before in
    let s = reader_state before.reader in
    let more = rows-more rem before.reader after.reader fields default_config s xs xs [] reading.config reading.known (refl, refl) read in
    let z = more.0 in
    let reached = more.2 in
    let p = reached.0 in
    let shorter = takes s xs p reading.between reached.1 in
    let left : bytes_left after ≡ z = ap (λ o. option_map_or (λ bytes. bytes) o []) more.1 in
    let end = reached.3 in
    let bytes : p.2 ≡ bytes_left after = end.1 ∙ sym left in
    let state : p.1 ≡ reader_state after.reader = end.0 in
    let same : p.0 ∷ records_from default_config (length p.2 + 1) p.1 p.2 ≡ fields ∷ records_left after = cc (reached.2, state, bytes) in
    record {
      left = first_record s xs p reading.between reached.1 ∙ same;
      number = number;
      shorter = omega (arith, shorter.0, ap length bytes);
      reading = record {
        ready = inl first;
        trim = read.3 ∙ reading.trim;
        config = read.2 ∙ reading.config;
        flexible = flexible ∙ reading.flexible;
        between = ap ends_at_end (sym state) ∙ shorter.1;
        known = more.1 ∙ ap Some (sym left);
        few = omega (arith, shorter.0, ap length bytes, reading.few);
      };
    }

-- one that found none
pub nothing_left : (before after : Records) (fields : List (List ℕ)) → IsReading before
    → ReadRecord (λ (text : Bor (List ℕ)). Some text.now) before.reader after.reader false fields → records_left before ≡ []
nothing_left before after fields reading read =
    no_record (reader_state before.reader) (bytes_left before)
    (rows-end (λ (text : Bor (List ℕ)). Some text.now) before.reader after.reader fields default_config (bytes_left before) reading.config reading.known read)
