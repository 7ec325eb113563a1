-- The lines in which waves that go out are told, and the orders that are left.
use Rattle.std.specs.Prelude.{ℕ, List, [], ◌∷◌, ◌++◌, codes, length, max, min}
use Rattle.std.specs.Fmt.{decimal}
use Rattle.std.specs.List.{flat_map, fold}
use Rattle.wp_model.specs.Journal.{after_space, line, number_after_space}
use Rattle.wp_outgoing.specs.declared.left.LeftOrder.{LeftOrder}
use Rattle.wp_outgoing.specs.declared.left.LeftWhy.{LeftWhy}
use Rattle.wp_outgoing.specs.declared.left.LeftWhy.TheVariants as why
use Rattle.wp_outgoing.specs.declared.lines.WaveOut.{WaveOut}
use Rattle.wp_waves.specs.declared.open_orders.OpenOrder.{OpenOrder}

-- an order after a comma
abbrev pub order_after_comma : OpenOrder → List ℕ
order_after_comma one = 44 ∷ one.order

-- the beginning of the line in which a desk submits a wave, and the end of that line with the line in which it releases
-- it
abbrev pub submit_start : ℕ → List ℕ → List ℕ
submit_start desk name = decimal desk ++ codes ",submit," ++ name

abbrev pub release_end : ℕ → List ℕ → List ℕ
release_end desk name = line [] ++ line (decimal desk ++ codes ",release," ++ name)

-- the lines of a desk file in which a desk submits a wave and releases it
abbrev pub sending_lines : ℕ → WaveOut → List ℕ
sending_lines desk wave =
    line (submit_start desk wave.name ++ flat_map order_after_comma wave.orders.items)
    ++ line (decimal desk ++ codes ",release," ++ wave.name)

-- the rank of the first order of a wave
abbrev pub first_rank : List OpenOrder → ℕ
first_rank [] = 0
first_rank (one ∷ others) = one.rank

-- the least rank of a wave, and the greatest
abbrev pub least_rank : List OpenOrder → ℕ
least_rank wave = fold (λ (least : ℕ) (one : OpenOrder). min least one.rank) (first_rank wave) wave

abbrev pub greatest_rank : List OpenOrder → ℕ
greatest_rank wave = fold (λ (greatest : ℕ) (one : OpenOrder). max greatest one.rank) (first_rank wave) wave

-- the line of a wave of this name, with how many orders it has, its least rank and its greatest, and what its start
-- costs
abbrev pub wave_told : List ℕ → ℕ → ℕ → ℕ → ℕ → List ℕ
wave_told name orders least greatest start =
    line (codes "wave" ++ after_space name ++ codes " orders" ++ number_after_space orders ++ codes " ranks"
    ++ number_after_space least ++ number_after_space greatest
    ++ codes " start" ++ number_after_space start)

abbrev pub wave_line : WaveOut → List ℕ
wave_line wave =
    wave_told wave.name (length wave.orders.items) (least_rank wave.orders.items)
    (greatest_rank wave.orders.items) wave.start

-- why an order is left
abbrev pub left_text : LeftWhy → List ℕ
left_text (why.Taken wave) = codes "in" ++ after_space wave
left_text (why.OverCart units) = codes "over-cart" ++ number_after_space units
left_text (why.Short article wanted free) =
    codes "short" ++ after_space article ++ number_after_space wanted ++ number_after_space free
left_text why.Later = codes "later"

-- an order that is left, and why
abbrev pub left_order_text : LeftOrder → List ℕ
left_order_text left = left.order ++ after_space (left_text left.why)

-- its line
abbrev pub left_line : LeftOrder → List ℕ
left_line left = line (left_order_text left)

-- the section that is a desk file: its heading, and the lines of each wave
abbrev pub desks_section : ℕ → List WaveOut → List ℕ
desks_section desk waves =
    line (codes "desks") ++ line (codes "desk,command,arguments") ++ flat_map (sending_lines desk) waves
    ++ line (codes "end desks")

-- the section of the waves
abbrev pub waves_section : List WaveOut → List ℕ
waves_section waves = line (codes "waves") ++ flat_map wave_line waves ++ line (codes "end waves")

-- the section of the orders that are left
abbrev pub left_section : List LeftOrder → List ℕ
left_section left = line (codes "left") ++ flat_map left_line left ++ line (codes "end left")

-- all that is told: the desk file, the waves, the orders that are left, and a last line
abbrev pub outgoing_text : ℕ → List WaveOut → List LeftOrder → List ℕ
outgoing_text desk waves left =
    desks_section desk waves ++ waves_section waves ++ left_section left ++ line (codes "end")
