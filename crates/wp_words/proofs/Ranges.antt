-- The numbers of a plan, of an audit and of a made day lie in their ranges.
use Rattle.std.proofs.Common.{◌≡◌, ◌∙◌, ◌<◌, ◌≤◌, ℕ, Bool, true, false, cond, refl, sym, ap, subst, arith}
use Rattle.std.proofs.Common.{[], ◌∷◌, Option, Some, None, codes, drop, option_map, unwrap_or, pos}
use Rattle.std.specs.Prelude.{◌==◌}
use Rattle.std.specs.Char.{digit_value}
use Rattle.std.specs.Option.{ForSome}
use Rattle.std.specs.Str.Parse.{AllDigits, digits_value, starts_with_minus, without_leading_plus}
use Rattle.std.proofs.lemmas.Bool.{eqb-true}
use Rattle.std.proofs.lemmas.Int.{ints}
use Rattle.clap.specs.Lexer.{without_minus}
use Rattle.clap.specs.Matches.{found_of}
use Rattle.clap.specs.Simple.{App}
use Rattle.clap.specs.Values.{IsSignedIn}
use Rattle.clap.specs.Walk.{Text, rows_of}
use Rattle.clap.specs.declared.builder.value_parser.ValueParser.TheVariants as vp
use Rattle.clap.specs.declared.parser.matches.ArgMatches.{ArgMatches}
use Rattle.wp_model.specs.Limits.{greatest_desk, most_aisles, most_cart_units, most_file_orders, most_wave_orders}
use Rattle.wp_words.specs.Limits.{AreNodes, AreUnits, most_budget, most_capacity, most_nodes, most_pickers, most_root, most_rules, most_store, most_workers}
use Rattle.wp_words.specs.Limits.{usual_budget}
use Rattle.wp_words.specs.Options.{IsMatchOf, audit_command, make_command, plan_command}
use Rattle.wp_words.specs.Words.{AreMakeValues, ArePlanValues, HasMakeRanges, HasRanges, MakeNumbers, PlanNames, budget_of, number_read, number_said}
use Rattle.wp_words.proofs.Passing.{HasOption, passed}

-- a text with no first hyphen stays as it is
no_minus : (text : Text) → starts_with_minus text ≡ false → without_minus text ≡ text
no_minus [] is = refl
no_minus (x ∷ xs) is = go (x == 45) is
  where
    go : (b : Bool) → b ≡ false → unwrap_or (cond b (Some xs) None) (x ∷ xs) ≡ x ∷ xs
    go true e = cc
    go false e = refl

-- and one with a first hyphen loses it
minus_lost : (text : Text) → starts_with_minus text ≡ true → without_minus text ≡ drop 1 text
minus_lost [] is = cc
minus_lost (x ∷ xs) is = go (x == 45) is
  where
    go : (b : Bool) → b ≡ true → unwrap_or (cond b (Some xs) None) (x ∷ xs) ≡ xs
    go true e = refl
    go false e = cc

-- no plus stands before digits
no_plus : (text : Text) → AllDigits 10 text → without_leading_plus text ≡ text
no_plus [] digits = refl
no_plus (x ∷ xs) digits = go (x == 43) refl
  where
    go : (b : Bool) → (x == 43) ≡ b → drop (cond b 1 0) (x ∷ xs) ≡ x ∷ xs
    go true is =
        let low : 36 < 10 = subst (λ (c : ℕ). digit_value c < 10) (eqb-true x 43 is) digits.0 in
        absurd (omega arith)
    go false is = refl

-- a text that passed a range of numbers that aren't below zero says a number of the range
signed_said : (least most : ℕ) (written : Text) → IsSignedIn (pos least) (pos most) written
    → (least ≤ number_said (without_minus written)) × (number_said (without_minus written) ≤ most)
signed_said least most written passes = go (starts_with_minus written) refl
  where
    go : (b : Bool) → starts_with_minus written ≡ b → (least ≤ number_said (without_minus written)) × (number_said (without_minus written) ≤ most)
    go true minus =
        let digits = rw minus at passes.0.1 in
        let low = rw minus at passes.2 in
        let said : number_said (without_minus written) ≡ digits_value 10 (drop 1 written) =
        ap number_said (minus_lost written minus) ∙ ap (digits_value 10) (no_plus (drop 1 written) digits) in
        rw said (omega (arith, ints), omega (arith, ints))
    go false minus =
        let low = rw minus at passes.2 in
        let high = rw minus at passes.3 in
        rw (no_minus written minus) (omega (arith, ints), omega (arith, ints))

-- the text of a number that was read
text_read : (text : Option Text) (number : ℕ) → option_map number_said text ≡ Some number → (t : Text) × (text ≡ Some t) × (number_said t ≡ number)
text_read None number is = cc
text_read (Some t) number is = (t, refl, ap (λ (o : Option ℕ). unwrap_or o number) is)

-- a number that was read of an option lies in the range that the option's parser takes
number_within : (app : App) (m : ArgMatches) (name : Text) (least most number : ℕ) → IsMatchOf app m → HasOption name (vp.Signed (pos least) (pos most)) app
    → number_read name (rows_of (found_of m)) ≡ Some number → (least ≤ number) × (number ≤ most)
number_within app m name least most number match own is =
    let text = text_read _ number is in
    let by = passed app m name text.0 (vp.Signed (pos least) (pos most)) match own text.1 in
    let said : number_said (without_minus by.0) ≡ number = ap number_said (sym by.1) ∙ text.2 in
    subst (λ n. (least ≤ n) × (n ≤ most)) said (signed_said least most by.0 by.2)

-- and where such an option may be absent
number_if_within : (app : App) (m : ArgMatches) (name : Text) (least most : ℕ) (number : Option ℕ) → IsMatchOf app m
    → HasOption name (vp.Signed (pos least) (pos most)) app → number_read name (rows_of (found_of m)) ≡ number → ForSome number (λ n. (least ≤ n) × (n ≤ most))
number_if_within app m name least most number match own is = λ n some. number_within app m name least most n match own (is ∙ some)

-- and of one whose parser takes numbers without a sign
unsigned_read : (app : App) (m : ArgMatches) (name : Text) (least most number : ℕ) → IsMatchOf app m → HasOption name (vp.Unsigned least most) app
    → number_read name (rows_of (found_of m)) ≡ Some number → (least ≤ number) × (number ≤ most)
unsigned_read app m name least most number match own is =
    let text = text_read _ number is in
    let by = passed app m name text.0 (vp.Unsigned least most) match own text.1 in
    let said : number_said by.0 ≡ number = ap number_said (sym by.1) ∙ text.2 in
    subst (λ n. (least ≤ n) × (n ≤ most)) said (by.2.2, by.2.3)

-- so the budget of a command that takes one lies in its range, also where it isn't given
budget_within : (app : App) (m : ArgMatches) (budget : ℕ) → IsMatchOf app m → HasOption (codes "budget") (vp.Unsigned 0 most_budget) app
    → budget_of (rows_of (found_of m)) ≡ budget → budget ≤ most_budget
budget_within app m budget match own is = subst (λ n. n ≤ most_budget) is (go (number_read (codes "budget") (rows_of (found_of m))) refl)
  where
    go : (o : Option ℕ) → number_read (codes "budget") (rows_of (found_of m)) ≡ o → unwrap_or o usual_budget ≤ most_budget
    go None none = omega arith
    go (Some n) some = (unsigned_read app m (codes "budget") 0 most_budget n match own some).1

-- and the nodes of one that takes them
nodes_within : (app : App) (m : ArgMatches) (nodes : Option ℕ) → IsMatchOf app m → HasOption (codes "nodes") (vp.Unsigned 1 most_nodes) app
    → number_read (codes "nodes") (rows_of (found_of m)) ≡ nodes → AreNodes nodes
nodes_within app m nodes match own is = λ n some. unsigned_read app m (codes "nodes") 1 most_nodes n match own (is ∙ some)

-- the numbers that were matched for `plan` lie in their ranges
pub in_ranges : (m : ArgMatches) (names : PlanNames) → IsMatchOf plan_command m → ArePlanValues (rows_of (found_of m)) names → HasRanges names
unfolding plan_command
in_ranges m names match values =
    let capacity = number_within plan_command m (codes "capacity") 1 most_capacity names.capacity match refl values.capacity in
    let workers = number_within plan_command m (codes "workers") 1 most_workers names.workers match refl values.workers in
    record {
      some_capacity = capacity.0;
      capacity = capacity.1;
      cart = number_if_within plan_command m (codes "units") 1 most_cart_units names.units match refl values.units;
      budget = budget_within plan_command m names.budget match refl values.effort.budget;
      nodes = nodes_within plan_command m names.nodes match refl values.effort.nodes;
      some_workers = workers.0;
      workers = workers.1;
      rules = (number_within plan_command m (codes "rules") 0 most_rules names.rules match refl values.rules).1;
      pickers = (number_within plan_command m (codes "pickers") 0 most_pickers names.pickers match refl values.pickers).1;
      root = (number_within plan_command m (codes "root") 0 most_root names.root match refl values.root).1;
      store = (number_within plan_command m (codes "store") 0 most_store names.store match refl values.store).1;
    }

-- and the units that were matched for `audit`
pub audit_cart : (m : ArgMatches) (units : Option ℕ) → IsMatchOf audit_command m → number_read (codes "units") (rows_of (found_of m)) ≡ units → AreUnits units
unfolding audit_command
audit_cart m units match is = number_if_within audit_command m (codes "units") 1 most_cart_units units match refl is

-- and the numbers that were matched for `make`
pub in_make_ranges : (m : ArgMatches) (numbers : MakeNumbers) → IsMatchOf make_command m → AreMakeValues (rows_of (found_of m)) numbers
    → HasMakeRanges numbers
unfolding make_command
in_make_ranges m numbers match values =
    let aisles = number_within make_command m (codes "aisles") 1 most_aisles numbers.aisles match refl values.aisles in
    let orders = number_within make_command m (codes "orders") 1 most_file_orders numbers.orders match refl values.orders in
    let desks = number_within make_command m (codes "desks") 1 greatest_desk numbers.desks match refl values.desks in
    let wave = number_within make_command m (codes "wave") 1 most_wave_orders numbers.wave match refl values.wave in
    let capacity = number_within make_command m (codes "capacity") 1 most_capacity numbers.capacity match refl values.capacity in
    let workers = number_within make_command m (codes "workers") 1 most_workers numbers.workers match refl values.workers in
    record {
      some_aisles = aisles.0;
      aisles = aisles.1;
      some_orders = orders.0;
      orders = orders.1;
      some_desks = desks.0;
      desks = desks.1;
      some_wave = wave.0;
      wave = wave.1;
      some_capacity = capacity.0;
      capacity = capacity.1;
      budget = budget_within make_command m numbers.budget match refl values.effort.budget;
      nodes = nodes_within make_command m numbers.nodes match refl values.effort.nodes;
      some_workers = workers.0;
      workers = workers.1;
    }
