use Rattle.std.proofs.Common.{◌++◌, refl}
use Rattle.std.proofs.lemmas.Result.{IfOk-weaker}
use Rattle.wp_planner.proofs.SheetParts.{then_more}
use Rattle.wp_planner.proofs.sheet.print_part.Goals as goal

pub returns : goal.returns
returns c =
    let lines = c.in_ok-append_batch.ensures.0 in
    IfOk-weaker c.print_after.result _ _
    (λ done (after, follows, grows). (
      lines ++ after,
      record {
        total = c.in_ok-sheet.sheet.length;
        walk = c.in_ok-sheet.sheet.walk.items;
        tours = c.in_ok-sheet.ensures.tour;
        lines = lines;
        are = rw (c.stock.ensures.stock, c.in_ok-sheet.ensures.batch) at c.in_ok-append_batch.ensures.1;
        after = after;
        follows = follows;
        is = refl;
      },
      then_more c.args.text.now.items lines after _ _ c.in_ok-append_batch.ensures.2 grows,
    ))
    c.print_after.ensures
