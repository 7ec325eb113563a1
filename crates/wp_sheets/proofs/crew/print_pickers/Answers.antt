use Rattle.std.proofs.Common.{◌≡◌, ◌∙◌, sym, ap, ℕ, ◌+◌, List, [], ◌∷◌, ◌++◌, arith}
use Rattle.std.proofs.lemmas.List.{flat_map_more, map-id}
use Rattle.std.proofs.lemmas.List.FromFn.{map-range_with_len_more}
use Rattle.std.specs.List.{flat_map, range_with_len}
use Rattle.wp_sheets.specs.Crews.{picker_line}
use Rattle.wp_sheets.proofs.crew.print_pickers.Goals as goal

-- the numbers below the next number
range_with_len-more : (n : ℕ) → range_with_len 0 (n + 1) ≡ range_with_len 0 n ++ n ∷ []
range_with_len-more n =
    sym (map-id (range_with_len 0 (n + 1))) ∙ map-range_with_len_more (λ (k : ℕ). k) 0 n n (omega arith)
    ∙ ap (λ (xs : List ℕ). xs ++ n ∷ []) (map-id (range_with_len 0 n))

pub loop-picker-preserved : goal.loop-picker-preserved
loop-picker-preserved c =
    let line_of = picker_line c.args.crew.now c.args.names.now c.args.numbers.now in
    let picker = c.loop-picker.picker in
    let old = c.args.text.now.items in
    c.in_ok-print_picker.ensures ∙ ap (λ (text : List ℕ). text ++ line_of picker) c.loop-picker.invariant
    ∙ flat_map_more line_of old (range_with_len 0 picker) picker ∙ ap (λ (pickers : List ℕ). old ++ flat_map line_of pickers) (sym (range_with_len-more picker))
