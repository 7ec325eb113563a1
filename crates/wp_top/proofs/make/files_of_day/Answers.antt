use Rattle.std.proofs.Common.{◌∙◌, ap}
use Rattle.std.proofs.lemmas.Result.{IfOk-weaker}
use Rattle.wp_make.specs.Texts.{made_texts, texts_of}
use Rattle.wp_top.proofs.MadeFiles.{made_day_held}
use Rattle.wp_top.proofs.make.files_of_day.Goals as goal
use Rattle.wp_words.specs.Reading.{make_numbers}

pub returns : goal.returns
returns c =
    let made = c.in_ok-input.ensures in
    let numbers = make_numbers c.args.words.now in
    IfOk-weaker c.files_with.result _ _
    (λ files held. made_day_held files.files (texts_of c.in_ok-input.input) numbers held
    (made.texts ∙ ap (made_texts numbers.number) c.size_of.ensures) made.accepted made.short)
    c.files_with.ensures
