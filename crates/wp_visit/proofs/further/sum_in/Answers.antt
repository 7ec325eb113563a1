use Rattle.std.proofs.Common.{ℕ, ◌<◌, All, arith, subst, sym}
use Rattle.std.proofs.lemmas.List.Elements.{All-contains}
use Rattle.wp_lengths.proofs.DualBounds.{ascending_few}
use Rattle.wp_visit.proofs.Reaches.{sum_bounded}
use Rattle.wp_visit.proofs.further.sum_in.Goals as goal

pub overflow_cast-result : goal.overflow_cast-result
overflow_cast-result c =
    let known = subst (λ (n : ℕ). All (λ order. order < n) c.args.batch) (sym c.args.given.now.count) c.requires in
    let few = ascending_few c.args.batch 0 64 c.len-size.ensures.valid.ascending (omega arith) (λ x has. omega arith)
    (λ x has. All-contains (λ (o : ℕ). o < 64) c.args.batch x c.len-size.ensures.valid.below has) in
    omega (arith, few, sum_bounded c.args.given.now.duals.now c.args.batch known c.args.given.now.bounded, c.sum_of.ensures)

pub returns-clause-small : goal.returns-clause-small
returns-clause-small c =
    let known = subst (λ (n : ℕ). All (λ order. order < n) c.args.batch) (sym c.args.given.now.count) c.requires in
    omega (arith, sum_bounded c.args.given.now.duals.now c.args.batch known c.args.given.now.bounded, c.sum_of.ensures)
