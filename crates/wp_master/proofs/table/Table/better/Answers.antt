use Rattle.std.proofs.Common.{rules, arith, subst, ℕ, Option, pos, ◌≤ℤ◌, ◌<ℤ◌, FitsSigned, ◌∙◌}
use Rattle.std.specs.Int.{w128}
use Rattle.std.proofs.lemmas.Int.{ints, to_z-of_z}
use Rattle.std.proofs.lemmas.Bool.{both_ways}
use Rattle.wp_master.specs.Choices.{IsLeaving}
use Rattle.wp_master.specs.Pivots.{entry_of}
use Rattle.wp_master.proofs.Leaving.{leaving_kept, leaving_stays, leaving_taken}
use Rattle.wp_master.proofs.table.Table.better.Goals as goal

pub returns-then-entry-le0-clause-is : goal.returns-then-entry-le0-clause-is
returns-then-entry-le0-clause-is c =
    let fits : FitsSigned w128 c.entry.result = search rules in
    let same = to_z-of_z w128 c.entry.result fits ∙ c.entry.ensures in
    let most : entry_of c.args.self.now c.args.row c.args.place ≤ℤ pos 0 = omega (arith, ints, c.if-entry-le0.true, same) in
    leaving_kept c.args.self.now c.args.place c.args.row c.args.best most c.requires.best

pub returns-then-branch-clause-is : goal.returns-then-branch-clause-is
returns-then-branch-clause-is c =
    let fits : FitsSigned w128 c.entry.result = search rules in
    let same = to_z-of_z w128 c.entry.result fits ∙ c.entry.ensures in
    let above : pos 0 <ℤ entry_of c.args.self.now c.args.row c.args.place = omega (arith, ints, c.if-entry-le0.false, same) in
    let best = subst (λ (b : Option ℕ). IsLeaving c.args.self.now c.args.place c.args.row b) c.in-Some.is c.requires.best in
    leaving_taken c.args.self.now c.args.place c.args.row c.in-Some.known above best (c.in_ok-precedes.ensures.is.0 c.if-branch.true)

pub returns-else-branch-clause-is : goal.returns-else-branch-clause-is
returns-else-branch-clause-is c =
    let best = subst (λ (b : Option ℕ). IsLeaving c.args.self.now c.args.place c.args.row b) c.in-Some.is c.requires.best in
    leaving_stays c.args.self.now c.args.place c.args.row c.in-Some.known best
    (λ p. both_ways c.in_ok-precedes.field-0 c.if-branch.false (c.in_ok-precedes.ensures.is.1 p))
