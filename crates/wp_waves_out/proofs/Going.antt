-- The first of right waves go out.
use Rattle.std.proofs.Common.{Bool, true, Option, Some, None, option_map}
use Rattle.std.proofs.lemmas.List.{get_or-take, length-take}
use Rattle.std.proofs.lemmas.Bool.{le-leb}
use Rattle.std.proofs.lemmas.List.Elements.{All-cons, All-nil}
use Rattle.std.specs.Option.{MatchOption}
use Rattle.std.specs.Prelude.{◌&&◌, IfSome, nat_le}
use Rattle.wp_model.proofs.Demand.{first_short_is}
use Rattle.wp_model.specs.Demand.{AreCovered, IsFirstShort, first_short, order_demand}
use Rattle.wp_model.specs.Limits.{greatest_desk}
use Rattle.wp_model.specs.Opening.{Stock}
use Rattle.wp_model.specs.State.{State}
use Rattle.wp_outgoing.specs.Leaving.{AreOfStock}
use Rattle.wp_outgoing.specs.WavesOut.{AreOut, orders_out}
use Rattle.wp_tables.specs.DeskFile.{is_desk}
use Rattle.wp_waves.specs.Turns.{AreTurns, free_after, free_in, one_of, shortage_of, turns_of}
use Rattle.wp_waves.specs.declared.free_stock.Shortage.{Shortage}
use Rattle.wp_waves_out.specs.SentOut.{AreWaveTerms}
use Rattle.std.proofs.Common.{◌≡◌, ◌∙◌, sym, ap, subst, ℕ, ◌+◌, ◌-◌, ◌*◌, ◌<◌, ◌≤◌, min, List, [], ◌∷◌, ◌++◌, length, map, take, drop, All, Vec, arith}
use Rattle.std.proofs.lemmas.List.{length-take-le, take-append-drop, take-map, length-map}
use Rattle.std.specs.Prelude.{◌/◌}
use Rattle.std.specs.declared.alloc.Global.{Global}
use Rattle.wp_dispatch.specs.DeskText.{IsReadAsPrinted}
use Rattle.wp_floor.proofs.Floors.{is_opening}
use Rattle.wp_machine.proofs.Askings.{all_legal, opening_stays}
use Rattle.wp_model.proofs.Served.{each_state_is_sound}
use Rattle.wp_model.specs.History.{History, IsLegal}
use Rattle.wp_model.specs.Limits.{most_entries}
use Rattle.wp_model.specs.Opening.{IsOpening, Opening}
use Rattle.wp_model.specs.Tables.{IsReadOpening}
use Rattle.wp_model.specs.Warehouse.{Layout}
use Rattle.wp_outgoing.specs.Room.{waves_with_room}
use Rattle.wp_outgoing.specs.declared.lines.WaveOut.{WaveOut}
use Rattle.wp_sending.specs.Sent.{asked_after, asking_by}
use Rattle.wp_waves.specs.Filling.{waves_kept}
use Rattle.wp_waves.specs.Turns.{served_in}
use Rattle.wp_waves.specs.Waves.{AreWavesOf}
use Rattle.wp_waves.specs.declared.open_orders.OpenOrder.{OpenOrder}
use Rattle.wp_waves.specs.declared.turns.OrderTurn.{OrderTurn}
use Rattle.wp_waves_out.specs.NamedWaves.{AreSentNamed, MayBeSent, commands_of}
use Rattle.wp_waves_out.specs.SentOut.{GoOut}
use Rattle.wp_waves_out.specs.declared.sent_out.WaveTerms.{WaveTerms}

-- some of all waves, which are few enough for the journal
pub record AreGoing (all : List (List OpenOrder)) (going most entries : ℕ) : Type 0 where
  pub is : going ≡ waves_with_room (length all) most entries
  pub few : entries ≤ most_entries

-- there are no more than that of all waves, as are asked for, and as there is room for
pub within_all : (all : List (List OpenOrder)) (going most entries : ℕ) → AreGoing all going most entries → going ≤ length all
within_all all going most entries are = omega (arith, are.is, min-le (min (length all) most) ((most_entries - entries) / 2), min-le (length all) most)
  where
    min-le : (a b : ℕ) → min a b ≤ a
    min-le a b = omega arith

pub within_most : (all : List (List OpenOrder)) (going most entries : ℕ) → AreGoing all going most entries → going ≤ most
within_most all going most entries are = low (length all) most ((most_entries - entries) / 2) going are.is
  where
    low : (a b c g : ℕ) → g ≡ min (min a b) c → g ≤ b
    low a b c g is = omega arith

half : (n : ℕ) → (n / 2) * 2 ≤ n
half n = omega arith

pub within_room : (all : List (List OpenOrder)) (going most entries : ℕ) → AreGoing all going most entries → entries + 2 * going ≤ most_entries
within_room all going most entries are = low (length all) most ((most_entries - entries) / 2) going entries are.is (half (most_entries - entries)) are.few
  where
    low : (a b c g e : ℕ) → g ≡ min (min a b) c → c * 2 ≤ most_entries - e → e ≤ most_entries → e + 2 * g ≤ most_entries
    low a b c g e is two few = omega arith

-- the first waves as they are kept
pub first_kept : (waves : List (Vec OpenOrder Global)) (going : ℕ) → waves_kept (take going waves) ≡ take going (waves_kept waves)
first_kept waves going = sym (take-map (λ (wave : Vec OpenOrder Global). wave.items) going waves)

-- they and the later ones are all waves
pub right_first : (most : ℕ) (served : List OpenOrder) (all : List (List OpenOrder)) (going : ℕ) → AreWavesOf most served all
    → AreWavesOf most served (take going all ++ drop going all)
right_first most served all going right = subst (AreWavesOf most served) (sym (take-append-drop going all)) right

-- each of the first waves has few enough orders
pub few_first : (most bound : ℕ) (all : List (List OpenOrder)) (going : ℕ) → All (λ (wave : List OpenOrder). length wave ≤ most) all → most ≤ bound
    → All (λ (wave : List OpenOrder). length wave ≤ bound) (take going all)
few_first most bound all going few within = λ k d lt.
    let below : k < min going (length all) = subst (λ (n : ℕ). k < n) (length-take going all) lt in
    subst (λ (wave : List OpenOrder). length wave ≤ bound) (sym (get_or-take going all k d (omega arith)))
    (omega (arith, few k d (omega arith)))

-- there are no more than so many
pub count_first : (all : List (List OpenOrder)) (going : ℕ) → length (take going all) ≤ going
count_first all going = omega (arith, length-take going all)

-- as many are told as went out
pub count_out : (names : List (List ℕ)) (waves : List (List OpenOrder)) (starts : List ℕ) (out : List WaveOut) → AreOut names waves starts out
    → length out ≡ length waves
count_out names waves starts out are = sym (length-map out orders_out) ∙ ap (λ (l : List (List OpenOrder)). length l) are.filled

-- a desk of the terms is one of those that there may be
pub desk_may_be : (terms : WaveTerms) → AreWaveTerms terms → is_desk terms.desk ≡ true
desk_may_be terms are =
    both_true (nat_le 1 terms.desk) (nat_le terms.desk greatest_desk) (le-leb 1 terms.desk are.some_desk) (le-leb terms.desk greatest_desk are.desk)
  where
    both_true : (a b : Bool) → a ≡ true → b ≡ true → (a && b) ≡ true
    both_true a b first second = rw first second

-- what orders are short of are articles of the stock
abbrev short_at : (ℕ → ℕ) → (ℕ → ℕ) → ℕ → Shortage
short_at wanted free article = record { article = article; wanted = wanted article; free = free article }

abbrev IsOfStock : Stock → OrderTurn → Type 0
IsOfStock stock turn = IfSome turn.short (λ (short : Shortage). short.article < length stock.articles)

short_within : (articles : ℕ) (wanted free : ℕ → ℕ) (found : Option ℕ)
    → MatchOption found (AreCovered wanted free 0 articles) (IsFirstShort wanted free 0 articles)
    → IfSome (option_map (λ (article : ℕ). short_at wanted free article) found) (λ (short : Shortage). short.article < articles)
short_within articles wanted free None is = tt
short_within articles wanted free (Some article) is = is.within

turns_within : (opening : Opening) (free : ℕ → ℕ) (listed : List OpenOrder) → AreOfStock opening.stock (turns_of opening free listed)
turns_within opening free [] = All-nil (IsOfStock opening.stock)
turns_within opening free (one ∷ others) =
    All-cons (IsOfStock opening.stock) (record { one = one; short = shortage_of opening free one.order })
    (turns_of opening (free_after opening free one.order) others)
    (short_within (length opening.stock.articles) (order_demand opening one.order) free
    (first_short (order_demand opening one.order) free (length opening.stock.articles) 0)
    (first_short_is (order_demand opening one.order) free (length opening.stock.articles) 0 (length opening.stock.articles) (omega arith)))
    (turns_within opening (free_after opening free one.order) others)

pub turns_of_stock : (opening : Opening) (state : State) (listed : List OpenOrder) (turns : List OrderTurn) → AreTurns opening state listed turns
    → AreOfStock opening.stock turns
turns_of_stock opening state listed turns are =
    subst (AreOfStock opening.stock) (sym are.each) (turns_within opening (free_in state) (map one_of turns))

-- a history that was read, and that is legal
pub record MayGoOn (history : History) : Type 0 where
  pub read : IsReadOpening history.opening
  pub legal : IsLegal history

-- what was sent out goes out as it is promised
pub go_out_first : (layout : Layout) (capacity : ℕ) (history : History) (terms : WaveTerms) (turns : List OrderTurn) (all : List (List OpenOrder)) (going : ℕ)
    (out : List WaveOut) → MayGoOn history → AreWavesOf terms.wave (served_in turns) all → AreGoing all going terms.most (length history.entries)
    → MayBeSent history (take going all) → AreSentNamed layout capacity history (take going all) out → IsReadAsPrinted terms.desk out
    → GoOut layout capacity history terms turns out
go_out_first layout capacity history terms turns all going out may right are done sent printed =
    let commands = commands_of sent.names (take going all) in
    let after = asked_after history terms.desk commands in
    let opening : after.opening ≡ history.opening = opening_stays history (map (asking_by terms.desk) commands) in
    record {
      waves = take going all;
      later = drop going all;
      right = right_first terms.wave (served_in turns) all going right;
      room = length-take-le going all (within_all all going terms.most (length history.entries) are)
          ∙ (are.is ∙ ap (λ (l : List (List OpenOrder)). waves_with_room (length l) terms.most (length history.entries)) (sym (take-append-drop going all)));
      names = sent.names;
      named = sent.named;
      done = done sent.names sent.named;
      legal = all_legal history (map (asking_by terms.desk) commands) may.legal;
      sound = each_state_is_sound after (subst IsOpening (sym opening) (is_opening history.opening may.read));
      starts = sent.starts;
      begun = sent.begun;
      told = sent.told;
      read = printed;
    }
