use Rattle.std.proofs.Common.{◌≡◌, ◌↔◌, Contains}
use Rattle.wp_model.specs.declared.point.Point.{Point}
use Rattle.wp_lengths.proofs.Unions.{IsPickedBelow}
use Rattle.wp_lengths.proofs.wave.Wave.join_orders.Given as goal

abbrev pub invariant-loop-place : goal.invariant-loop-place
invariant-loop-place l = record {
  layout : l.union.layout ≡ l.self.layout;
  picked : (p : Point) → Contains l.union.points p ↔ IsPickedBelow l.self l.batch l.place p;
}
