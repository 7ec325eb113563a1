use Rattle.std.proofs.Common.{sym, ◌∙◌}
use Rattle.clap.specs.Words.{found_of, one_text}
use Rattle.clap.proofs.WalkLemmas.{one_text-rows}
use Rattle.wp_words.proofs.Matching.{text_got}
use Rattle.wp_words.proofs.options.number_of.Goals as goal

pub returns-in-Some : goal.returns-in-Some
returns-in-Some g c =
    let f = found_of c.args.matches.now in
    let read = c.get_one.ensures in
    let got = text_got g.T.FromStr.from_str_gives (one_text f c.args.name.now) c.in-Some.number c.get_one.result c.in-Some.is read.none read.value in
    (got.0, sym (one_text-rows f c.args.name.now) ∙ got.1, got.2)
