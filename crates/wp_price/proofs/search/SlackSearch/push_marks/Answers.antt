use Rattle.std.proofs.Common.{refl, subst, sym}
use Rattle.wp_lengths.specs.Visits.{Place as PlaceDue}
use Rattle.wp_visit.specs.Places.{Task}
use Rattle.wp_price.specs.Searches.{NamesBelow}
use Rattle.wp_price.specs.ShortMarks.{AddsShort}
use Rattle.wp_price.proofs.Passing.{marks_say}
use Rattle.wp_price.proofs.search.SlackSearch.push_marks.Goals as goal

pub returns : goal.returns
returns c =
    subst (λ (t : Task). AddsShort t.wave t.pairing t.duals (PlaceDue c.args.place.now.batch c.args.place.now.from) c.args.marks
    c.visit_from.new.visitor.marks) c.self.view_is
    (marks_say c.self.inside.visit (PlaceDue c.args.place.now.batch c.args.place.now.from) (record { marks = c.args.marks }) c.visit_from.new.visitor _
    c.in_ok-visit_from.ensures.course refl
    (subst (λ (t : Task). NamesBelow t.pairing c.args.place.now.batch c.args.place.now.from) (sym c.self.view_is) c.requires.past))
