use Rattle.std.proofs.Common.{◌-◌}
use Rattle.wp_lengths.specs.Visits.{Children}
use Rattle.wp_visit.specs.Courses.{HasVisited}
use Rattle.wp_visit.proofs.visit.Visit.+visit_below.Given as goal

abbrev pub decreases-visit_below : goal.decreases-visit_below
decreases-visit_below g l = l.self.now.pairing.orders - l.place.now.from

abbrev pub invariant-loop-order : goal.invariant-loop-order
invariant-loop-order g l = record {
  fits : g.V.Visitor.fits l.visitor l.self;
  course : (end : _) (new : _) → HasVisited l.self.pairing (g.V.Visitor.enters l.self) (Children l.place.batch l.order) l.visitor end new
      → HasVisited l.self.pairing (g.V.Visitor.enters l.self) (Children l.place.batch l.place.from) l.initial.visitor end new;
}
