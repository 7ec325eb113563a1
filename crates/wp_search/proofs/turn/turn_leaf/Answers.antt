use Rattle.std.proofs.Common.{◌≡◌, sum, sym, subst, arith}
use Rattle.std.specs.Prelude.{Option}
use Rattle.wp_pairs.specs.Permitted.{Pairing}
use Rattle.wp_cert.specs.Paths.{pairing_of}
use Rattle.wp_node.proofs.Owns.{plain_net}
use Rattle.wp_node.specs.Raises.{AreFeasibleDuals}
use Rattle.wp_search.specs.Branches.{IsBranch, IsWorked}
use Rattle.wp_search.specs.declared.branch.Branch.TheVariants.{Leaf}
use Rattle.wp_node.specs.declared.work.Worked.{Worked}
use Rattle.wp_search.proofs.Turns.{worked_below, worked_turned}
use Rattle.wp_search.proofs.turn.turn_leaf.Goals as goal

pub turn_kept-requires-clause-above : goal.turn_kept-requires-clause-above
turn_kept-requires-clause-above g c κs within =
    let turner = c.args.turner.now in
    let wave = turner.wave.now in
    let pairing = pairing_of wave turner.capacity.most c.args.path.now.items in
    let same : c.pairs_of-pairs.result ≡ pairing = c.pairs_of-pairs.ensures in
    subst (λ (p : Pairing). AreFeasibleDuals wave p c.args.above.now) (sym same) c.requires.above

pub turn_worked-requires-clause-worked : goal.turn_worked-requires-clause-worked
turn_worked-requires-clause-worked g c κs within =
    let turner = c.args.turner.now in
    let wave = turner.wave.now in
    let pairing = pairing_of wave turner.capacity.most c.args.path.now.items in
    let same : c.pairs_of-pairs.result ≡ pairing = c.pairs_of-pairs.ensures in
    subst (λ (p : Pairing). IsWorked wave p 0 c.in-Some.worked) (sym same)
    (worked_below wave _ 0 (sum c.args.above.now) c.in-Some.worked (omega arith)
    (subst (λ (l : Option Worked). IsBranch wave pairing
    (sum c.args.above.now) (Leaf l)) c.in-Some.is c.requires.leaf))

pub returns-in-Some : goal.returns-in-Some
returns-in-Some g c =
    let turner = c.args.turner.now in
    let wave = turner.wave.now in
    let pairing = pairing_of wave turner.capacity.most c.args.path.now.items in
    let same : c.pairs_of-pairs.result ≡ pairing = c.pairs_of-pairs.ensures in
    let is : IsWorked wave pairing (sum c.args.above.now) c.in-Some.worked =
    subst (λ (l : Option Worked). IsBranch wave pairing
    (sum c.args.above.now) (Leaf l)) c.in-Some.is c.requires.leaf in
    worked_turned wave c.pairs_of-pairs.result _ (sum c.args.above.now) turner.pays c.args.leaf c.in-Some.worked c.turn_worked.result same
    c.in-Some.is (omega (arith, is.right.raised, plain_net wave c.in-Some.worked.own)) c.turn_worked.ensures
