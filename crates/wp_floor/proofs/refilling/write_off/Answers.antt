use Rattle.std.proofs.Common.{◌≡◌, ◌∙◌, ◌==◌, refl, sym, ap, subst, List, [], ◌∷◌, slice_get}
use Rattle.std.proofs.lemmas.Bool.{cond_both}
use Rattle.wp_allot.specs.Wants.{holds_at_most, wanted_rows}
use Rattle.wp_allot.specs.declared.want.Want.{Want}
use Rattle.wp_model.specs.Change.{at_place, take_units}
use Rattle.wp_model.specs.declared.row.Row.{Row}
use Rattle.wp_model.specs.Opening.{Stock}
use Rattle.wp_floor.specs.Floor.{HaveSpace}
use Rattle.wp_floor.specs.MissingUnits.{want_of}
use Rattle.wp_floor.proofs.MissingUnits.{lost, refilled}
use Rattle.wp_floor.proofs.WaveStock.{wanted_kept}
use Rattle.wp_floor.proofs.refilling.write_off.Goals as goal

pub hold_elsewhere-sheet-requires-clause-rooms : goal.hold_elsewhere-sheet-requires-clause-rooms
hold_elsewhere-sheet-requires-clause-rooms c =
    let wants : List Want = want_of c.args.lost.article c.args.quantity ∷ [] in
    let same : wanted_rows c.take.new.self.rows wants ≡ wanted_rows c.args.book.now.rows wants =
    ap (λ (rows : List Row). wanted_rows rows wants) c.take.ensures.rows
    ∙ wanted_kept (at_place c.args.lost.row (take_units c.args.quantity)) 0 c.args.book.now.rows wants
    (λ k r. cond_both (k == c.args.lost.row) (take_units c.args.quantity r) r (λ (s : Row). s.article ≡ r.article) (λ here. refl) (λ other. refl)) in
    subst (λ n. HaveSpace (holds_at_most n wants) c.args.rooms) (sym same) c.requires.rooms

pub returns-in-Some-clause-refilled : goal.returns-in-Some-clause-refilled
returns-in-Some-clause-refilled c waves at released within =
    refilled c.args.opening.now c.args.book.now c.take.new.self c.hold_elsewhere-sheet.new.book waves c.args.number c.args.wave.now c.settle.new.wave
    c.args.lost c.args.quantity c.in-Some.sheet
    (record { at = at; released = released; within = within; enough = c.requires.held; taken = c.take.ensures })
    c.in-Some.ensures.held
    (record { none = c.settle.ensures.none; some = c.settle.ensures.some })

pub returns-in-None-clause-lost : goal.returns-in-None-clause-lost
returns-in-None-clause-lost c waves at released within =
    let named = ap (λ (stock : Stock). slice_get stock.articles c.args.lost.article) (sym c.stock.ensures.stock) ∙ c.article.ensures in
    lost c.args.opening.now c.args.book.now c.take.new.self c.hold_elsewhere-sheet.new.book waves c.args.number c.args.wave.now c.settle.new.wave c.args.lost
    c.args.quantity c.article.result
    (record { at = at; released = released; within = within; enough = c.requires.held; taken = c.take.ensures })
    c.in-None.ensures.few c.in-None.ensures.same named
    (record { none = c.settle.ensures.none; some = c.settle.ensures.some })
