use Rattle.std.proofs.lemmas.Option.{slice_get-get_or}
use Rattle.std.proofs.lemmas.Result.{IfOk-weaker}
use Rattle.wp_top.proofs.sections.DaySheetsParts.print.Goals as goal

pub returns : goal.returns
returns c =
    let at = slice_get-get_or c.args.self.now.plans.now c.args.number c.index-self-number.result c.requires.within in
    IfOk-weaker c.print_one.result _ _ (λ done (sheet, is, grows). (sheet, (_, at, is), grows)) c.print_one.ensures
