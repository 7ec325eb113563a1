use Rattle.std.proofs.Common.{◌≡◌, ◌∙◌, refl, sym, ap, subst, ℕ, ◌<◌, List, ◌++◌, length, All, append_assoc}
use Rattle.std.proofs.lemmas.Result.{IfOk-weaker}
use Rattle.std.specs.List.{flat_map}
use Rattle.wp_model.specs.declared.point.Point.{Point}
use Rattle.wp_model.specs.declared.row.Hold.{Hold}
use Rattle.wp_sheets.specs.Picks.{AreByRow}
use Rattle.wp_sheets.specs.Sheets.{batch_line, batch_text, pick_line, tour_line}
use Rattle.wp_sheets.proofs.PicksByRow.{all_orders, all_picks}
use Rattle.wp_sheets.proofs.batch.append_batch.Goals as goal

pub print_picks-requires-clause-rows : goal.print_picks-requires-clause-rows
print_picks-requires-clause-rows c =
    let batch = c.args.sheet.now.batch in
    let picks = c.in_ok-picks.picks.items in
    let is = subst (λ (holds : List Hold). AreByRow holds batch picks) c.as_slice.ensures c.in_ok-picks.ensures in
    let Known = λ (hold : Hold). hold.row < length c.args.stock.now.rows in
    subst (All Known) (sym c.deref-2.ensures.value) (all_picks Known c.args.wave.now.holds batch picks is c.requires.rows)

pub print_picks-requires-clause-orders : goal.print_picks-requires-clause-orders
print_picks-requires-clause-orders c =
    let batch = c.args.sheet.now.batch in
    let picks = c.in_ok-picks.picks.items in
    let is = subst (λ (holds : List Hold). AreByRow holds batch picks) c.as_slice.ensures c.in_ok-picks.ensures in
    let Known = λ (order : ℕ). order < length c.args.wave.now.orders in
    subst (All (λ (pick : Hold). Known pick.order)) (sym c.deref-2.ensures.value) (all_orders Known c.args.wave.now.holds batch picks is c.requires.places)

-- three texts after another, one after the other
joined : (old one two three first second third : List ℕ) → one ≡ old ++ first → two ≡ one ++ second → three ≡ two ++ third
    → three ≡ old ++ (first ++ second ++ third)
joined old one two three first second third a b c = rw (c, b, a) (simp append_assoc)

pub returns : goal.returns
returns c =
    let wave = c.args.wave.now in
    let stock = c.args.stock.now in
    let sheet = c.args.sheet.now in
    let picks = c.in_ok-picks.picks.items in
    let old = c.args.text.now.items in
    let one = c.print_first_line.new.text.items in
    let two = c.print_tour.new.text.items in
    IfOk-weaker c.print_picks.result _ _
    (λ done is. (
      batch_text c.args.number wave stock sheet.batch sheet.length sheet.walk.items picks,
      record {
        picks = picks;
        by_row = subst (λ (holds : List Hold). AreByRow holds sheet.batch picks) c.as_slice.ensures c.in_ok-picks.ensures;
        is = refl;
      },
      joined old one two c.print_picks.new.text.items (batch_line c.args.number wave sheet.batch sheet.length) (tour_line sheet.walk.items)
          (flat_map (pick_line wave stock) picks) c.in_ok-print_first_line.ensures
          (c.in_ok-print_tour.ensures ∙ ap (λ (walk : List Point). one ++ tour_line walk) c.deref.ensures.value)
          (is ∙ ap (λ (holds : List Hold). two ++ flat_map (pick_line wave stock) holds) c.deref-2.ensures.value),
    ))
    c.print_picks.ensures
