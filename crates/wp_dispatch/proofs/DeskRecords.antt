-- The desk file of waves is the lines of these records.
use Rattle.std.proofs.Common.{◌≡◌, ◌∙◌, refl, sym, ap, ap₂, ℕ, List, [], ◌∷◌, ◌++◌, append_assoc, append-nil, map}
use Rattle.std.specs.Prelude.{codes}
use Rattle.std.specs.Fmt.{decimal}
use Rattle.std.specs.List.{flat_map}
use Rattle.std.proofs.lemmas.Grind.{flat_map-append}
use Rattle.wp_dispatch.specs.DeskText.{desk_text}
use Rattle.wp_make.specs.Texts.{after_comma, record_line, table_text}
use Rattle.wp_model.specs.Journal.{line}
use Rattle.wp_model.specs.TableLines.{Record}
use Rattle.wp_outgoing.specs.Lines.{order_after_comma, sending_lines, submit_start}
use Rattle.wp_outgoing.specs.declared.lines.WaveOut.{WaveOut}
use Rattle.wp_tables.specs.DeskFile.{desks_heading}
use Rattle.wp_waves.specs.OpenOrders.{order_of}
use Rattle.wp_waves.specs.declared.open_orders.OpenOrder.{OpenOrder}

-- the records in which a desk submits a wave and releases it
abbrev pub submit_record : ℕ → WaveOut → Record
submit_record desk wave = decimal desk ∷ codes "submit" ∷ wave.name ∷ map order_of wave.orders.items

abbrev pub release_record : ℕ → WaveOut → Record
release_record desk wave = decimal desk ∷ codes "release" ∷ wave.name ∷ []

abbrev pub wave_records : ℕ → WaveOut → List Record
wave_records desk wave = submit_record desk wave ∷ release_record desk wave ∷ []

-- the records of waves, wave by wave
abbrev pub waves_records : ℕ → List WaveOut → List Record
waves_records desk waves = flat_map (wave_records desk) waves

orders_told : (orders : List OpenOrder) → flat_map after_comma (map order_of orders) ≡ flat_map order_after_comma orders
orders_told [] = refl
orders_told (one ∷ orders) = ap (λ (rest : List ℕ). (44 ∷ one.order) ++ rest) (orders_told orders)

submit_told : (desk : ℕ) (wave : WaveOut)
    → record_line (submit_record desk wave) ≡ line (submit_start desk wave.name ++ flat_map order_after_comma wave.orders.items)
submit_told desk wave =
    let orders = flat_map order_after_comma wave.orders.items in
    ap line (ap (λ (rest : List ℕ). decimal desk ++ (codes ",submit," ++ (wave.name ++ rest))) (orders_told wave.orders.items)
    ∙ (sym (append_assoc (decimal desk) (codes ",submit,") (wave.name ++ orders)) ∙ sym (append_assoc (decimal desk ++ codes ",submit,") wave.name orders)))

release_told : (desk : ℕ) (wave : WaveOut) → record_line (release_record desk wave) ≡ line (decimal desk ++ codes ",release," ++ wave.name)
release_told desk wave =
    ap line (ap (λ (name : List ℕ). decimal desk ++ (codes ",release," ++ name)) (append-nil wave.name)
    ∙ sym (append_assoc (decimal desk) (codes ",release,") wave.name))

-- the lines of a wave
wave_told : (desk : ℕ) (wave : WaveOut) → flat_map record_line (wave_records desk wave) ≡ sending_lines desk wave
wave_told desk wave =
    ap₂ (λ (a b : List ℕ). a ++ b) (submit_told desk wave)
    (append-nil (record_line (release_record desk wave)) ∙ release_told desk wave)

waves_told : (desk : ℕ) (waves : List WaveOut) → flat_map record_line (waves_records desk waves) ≡ flat_map (sending_lines desk) waves
waves_told desk [] = refl
waves_told desk (wave ∷ waves) =
    flat_map-append record_line (wave_records desk wave) (waves_records desk waves)
    ∙ ap₂ (λ (a b : List ℕ). a ++ b) (wave_told desk wave) (waves_told desk waves)

-- the desk file is the table of these records
pub text_is : (desk : ℕ) (waves : List WaveOut) → desk_text desk waves ≡ table_text desks_heading (waves_records desk waves)
text_is desk waves = ap (λ (rest : List ℕ). line (codes "desk,command,arguments") ++ rest) (sym (waves_told desk waves))
