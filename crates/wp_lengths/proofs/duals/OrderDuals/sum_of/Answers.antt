use Rattle.std.proofs.Common.{ℕ, ◌<◌, List, All, ap, arith, length, subst, sym}
use Rattle.std.proofs.lemmas.List.Elements.{All-contains}
use Rattle.wp_lengths.specs.Duals.{duals_of}
use Rattle.wp_lengths.proofs.DualBounds.{ascending_few, bounded_duals}
use Rattle.wp_lengths.proofs.duals.OrderDuals.sum_of.Goals as goal

pub overflow_cast-result : goal.overflow_cast-result
overflow_cast-result c =
    let known = subst (λ (duals : List ℕ). All (λ order. order < length duals) c.args.batch) (sym c.self.view_is) c.requires in
    let few = ascending_few c.args.batch 0 64 c.len-size.ensures.valid.ascending (omega arith) (λ x has. omega arith)
    (λ x has. All-contains (λ (o : ℕ). o < 64) c.args.batch x c.len-size.ensures.valid.below has) in
    omega (
      arith,
      few,
      bounded_duals c.self.inside.values.items c.args.batch known c.self.invariant.within,
      c.sum_of.ensures,
      ap (λ (duals : List ℕ). duals_of duals c.args.batch) c.as_slice.ensures.value,
    )

pub returns-clause-small : goal.returns-clause-small
returns-clause-small c =
    let known = subst (λ (duals : List ℕ). All (λ order. order < length duals) c.args.batch) (sym c.self.view_is) c.requires in
    omega (
      arith,
      bounded_duals c.self.inside.values.items c.args.batch known c.self.invariant.within,
      c.sum_of.ensures,
      ap (λ (duals : List ℕ). duals_of duals c.args.batch) c.as_slice.ensures.value,
    )
