-- The desk file of waves is read as just the commands that send them out.
use Rattle.std.proofs.Common.{◌≡◌, ◌∙◌, refl, sym, ap, ap₂, subst, ℕ, ◌+◌, ◌≤◌, true, inl, inr, List, [], ◌∷◌, ◌++◌, All, length, map}
use Rattle.std.proofs.Common.{append_assoc, arith, bytes_eq, leb-true, Ok}
use Rattle.std.specs.Prelude.{codes}
use Rattle.std.specs.List.{flat_map}
use Rattle.std.proofs.lemmas.Bool.{or_cases}
use Rattle.std.proofs.lemmas.List.Elements.{All-cons, All-head, All-nil, All-tail}
use Rattle.std.proofs.lemmas.Slice.Eq.{bytes_eq-Decides}
use Rattle.csv.specs.Reading.{strip_bom}
use Rattle.wp_dispatch.specs.DeskText.{IsReadAsPrinted, MayBePrinted, commands_out, desk_text, desks_out, only_last}
use Rattle.wp_dispatch.proofs.DeskRecords.{text_is, waves_records}
use Rattle.wp_dispatch.proofs.OneDesk.{dealt}
use Rattle.wp_dispatch.proofs.WavesRead.{IsDesk, all_asked, waves_made}
use Rattle.wp_make.proofs.Lines.{both}
use Rattle.wp_make.proofs.Making.{table_said}
use Rattle.wp_make.specs.Texts.{table_text}
use Rattle.wp_model.specs.Journal.{line}
use Rattle.wp_model.specs.Limits.{most_submissions, most_wave_orders}
use Rattle.wp_model.specs.Name.{is_name}
use Rattle.wp_model.specs.Opening.{Opening, Order, is_known_order}
use Rattle.wp_model.specs.Outcomes.{and_then}
use Rattle.wp_model.specs.State.{State}
use Rattle.wp_model.specs.TableLines.{Record}
use Rattle.wp_model.specs.Tables.{IsReadOpening}
use Rattle.wp_outgoing.proofs.ShortGroups.{each_in_waves}
use Rattle.wp_outgoing.proofs.WavesOut.{All-back, All-front}
use Rattle.wp_outgoing.specs.Lines.{desks_section, sending_lines}
use Rattle.wp_outgoing.specs.Sending.{orders_of, sendings_of}
use Rattle.wp_outgoing.specs.WavesOut.{AreOut, name_out, orders_out}
use Rattle.wp_outgoing.specs.declared.lines.WaveOut.{WaveOut}
use Rattle.wp_tables.specs.DeskFile.{desks_heading, is_desk, script_after, scripts_of, scripts_said}
use Rattle.wp_waves.specs.OpenOrders.{AreOpenOrders, IsOpenOrder}
use Rattle.wp_waves.specs.Turns.{AreTurns, served_in}
use Rattle.wp_waves.specs.Waves.{AreWavesOf}
use Rattle.wp_waves.specs.Weights.{all_of}
use Rattle.wp_waves.specs.declared.open_orders.OpenOrder.{OpenOrder}
use Rattle.wp_waves.specs.declared.turns.OrderTurn.{OrderTurn}

-- the heading doesn't begin with a byte order mark
bare : (records : List Record) → strip_bom (table_text desks_heading records) ≡ table_text desks_heading records
unfolding strip_bom
bare records = refl

pub desk_is : (desk : ℕ) → is_desk desk ≡ true → IsDesk desk
desk_is desk is = let parts = both _ _ is in record { some = leb-true 1 desk parts.0; few = leb-true desk 8 parts.1 }

-- the scripts that are made of the commands
scripts_are : (desk : ℕ) (waves : List WaveOut) → 1 ≤ desk
    → scripts_of (all_asked desk (commands_out waves)) ≡ only_last (desks_out desk waves) (commands_out waves)
scripts_are desk [] some = refl
scripts_are desk (wave ∷ waves) some = dealt desk _ _ some

pub is_read : (desk : ℕ) (waves : List WaveOut) → is_desk desk ≡ true → length waves ≤ most_submissions → All MayBePrinted waves
    → IsReadAsPrinted desk waves
is_read desk waves desk_right few may =
    let is = desk_is desk desk_right in
    let records = waves_records desk waves in
    let room : 0 + length waves ≤ most_submissions = omega (arith, few) in
    let makes = waves_made desk waves [] 0 [] is may room (record { is = refl; many = refl; waves = refl }) in
    ap scripts_said (text_is desk waves)
    ∙ (ap (λ read. and_then read (λ commands. Ok (scripts_of commands)))
    (table_said script_after [] desks_heading records _ refl refl (bare records) makes)
    ∙ ap Ok (ap scripts_of makes.keeps.is ∙ scripts_are desk waves is.some))

-- the printed section is this file between its first line and its last
pub section_is : (desk : ℕ) (waves : List WaveOut)
    → desks_section desk waves ≡ line (codes "desks") ++ desk_text desk waves ++ line (codes "end desks")
section_is desk waves =
    ap (λ (front : List ℕ). front ++ line (codes "end desks"))
    (append_assoc (line (codes "desks")) (line (codes "desk,command,arguments")) (flat_map (sending_lines desk) waves))

-- the commands of waves that go out under names
pub sends : (names : List (List ℕ)) (waves : List (List OpenOrder)) (starts : List ℕ) (out : List WaveOut) → AreOut names waves starts out
    → commands_out out ≡ sendings_of names (orders_of waves)
sends names waves starts out are = ap₂ (λ (ns : List (List ℕ)) (ws : List (List OpenOrder)). sendings_of ns (orders_of ws)) are.named are.filled

-- an order that the opening has is named by a name
known_named : (orders : List Order) (name : List ℕ) → All (λ (order : Order). is_name order.name ≡ true) orders → is_known_order orders name ≡ true
    → is_name name ≡ true
known_named [] name named known = absurd (cc known)
known_named (order ∷ orders) name named known = elim (or_cases (bytes_eq order.name name) (is_known_order orders name) known) [
  | inl here ↦
      ap is_name (sym ((bytes_eq-Decides order.name name).0 here)) ∙ All-head (λ (o : Order). is_name o.name ≡ true) order orders named
  | inr later ↦ known_named orders name (All-tail (λ (o : Order). is_name o.name ≡ true) order orders named) later
]

-- waves of names, of few orders with names, may be printed
each_may : (most : ℕ) (out : List WaveOut) → most ≤ most_wave_orders → All (λ name. is_name name ≡ true) (map name_out out)
    → All (λ (wave : List OpenOrder). length wave ≤ most) (map orders_out out)
    → All (λ (one : OpenOrder). is_name one.order ≡ true) (all_of (map orders_out out)) → All MayBePrinted out
each_may most [] room named few each = All-nil MayBePrinted
each_may most (wave ∷ out) room named few each =
    let fits = All-head (λ (w : List OpenOrder). length w ≤ most) wave.orders.items (map orders_out out) few in
    All-cons MayBePrinted wave out (record {
      named = All-head (λ name. is_name name ≡ true) wave.name (map name_out out) named;
      few = omega (arith, fits, room);
      orders = All-front (λ (one : OpenOrder). is_name one.order ≡ true) wave.orders.items (all_of (map orders_out out)) each;
    })
    (each_may most out room (All-tail (λ name. is_name name ≡ true) wave.name (map name_out out) named)
    (All-tail (λ (w : List OpenOrder). length w ≤ most) wave.orders.items (map orders_out out) few)
    (All-back (λ (one : OpenOrder). is_name one.order ≡ true) wave.orders.items (all_of (map orders_out out)) each))

-- so the first of right waves may be
pub served_may : (opening : Opening) (state : State) (listed : List OpenOrder) (turns : List OrderTurn) (most : ℕ) (waves later : List (List OpenOrder))
    (names : List (List ℕ)) (starts : List ℕ) (out : List WaveOut) → IsReadOpening opening → AreOpenOrders opening.orders listed
    → AreTurns opening state listed turns → most ≤ most_wave_orders → AreWavesOf most (served_in turns) (waves ++ later) → AreOut names waves starts out
    → All (λ name. is_name name ≡ true) names → All MayBePrinted out
served_may opening state listed turns most waves later names starts out read listed_are turns_are room right are named =
    let P = λ (one : OpenOrder). is_name one.order ≡ true in
    let open_named : All P listed = named_open listed listed_are.each in
    let orders = each_in_waves P opening state listed turns most waves later turns_are right open_named in
    each_may most out room (subst (All (λ name. is_name name ≡ true)) (sym are.named) named)
    (subst (All (λ (w : List OpenOrder). length w ≤ most)) (sym are.filled)
    (All-front (λ (w : List OpenOrder). length w ≤ most) waves later right.few))
    (subst (λ (ws : List (List OpenOrder)). All P (all_of ws)) (sym are.filled) orders)
  where
    named_open : (listed : List OpenOrder) → All (IsOpenOrder opening.orders) listed → All (λ (one : OpenOrder). is_name one.order ≡ true) listed
    named_open [] each = All-nil (λ (one : OpenOrder). is_name one.order ≡ true)
    named_open (one ∷ listed) each =
        All-cons (λ (one : OpenOrder). is_name one.order ≡ true) one listed
        (known_named opening.orders one.order read.orders.named (All-head (IsOpenOrder opening.orders) one listed each).known)
        (named_open listed (All-tail (IsOpenOrder opening.orders) one listed each))
