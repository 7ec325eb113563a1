use Rattle.std.proofs.Common.{◌≡◌, ◌∙◌, arith, ap}
use Rattle.wp_graph.specs.AisleLengths.{ways_of}
use Rattle.wp_classes.specs.Choices.{TakesWay, route_of}
use Rattle.wp_classes.specs.declared.class.Class.TheVariants.{Z00}
use Rattle.wp_classes.specs.Tables.{way_length}
use Rattle.wp_walk.proofs.Walks.{done_home, done_turned, first_takes, if_ok_then, step_allowed, underway_done, underway_first, underway_next}
use Rattle.wp_walk.proofs.walk.walk_of.Goals as goal

pub begin-requires-clause-applies : goal.begin-requires-clause-applies
begin-requires-clause-applies c =
    let first = first_takes c.args.layout.now c.args.picks.now.points (route_of c.args.choice.now) c.requires.choice.0 c.requires.choice.1.allowed in
    (first.1, ap (way_length (ways_of c.args.layout.now c.args.picks.now.points 1)) c.way.ensures ∙ first.2.applies)

pub loop-left-init : goal.loop-left-init
loop-left-init c =
    let first = first_takes c.args.layout.now c.args.picks.now.points (route_of c.args.choice.now) c.requires.choice.0 c.requires.choice.1.allowed in
    let takes : TakesWay (ways_of c.args.layout.now c.args.picks.now.points 1) c.way.result Z00 first.0 first.1 = rw c.way.ensures first.2 in
    underway_first c.args.layout.now c.args.picks.now.points (route_of c.args.choice.now) c.in_ok-walked.walked first.0 first.1 first.2
    (c.in_ok-walked.ensures first.0 first.1 takes)

pub go_on-requires-clause-step : goal.go_on-requires-clause-step
go_on-requires-clause-step c =
    step_allowed c.args.layout.now c.args.picks.now.points (route_of c.args.choice.now) c.loop-left.left c.loop-left.walked c.cross.result
    c.way-in-loop-left.result c.requires.choice.0 c.requires.choice.1.allowed (omega arith)
    (omega arith) c.loop-left.invariant c.cross.ensures c.way-in-loop-left.ensures

pub loop-left-preserved : goal.loop-left-preserved
loop-left-preserved c =
    underway_next c.args.layout.now c.args.picks.now.points (route_of c.args.choice.now) c.loop-left.left c.loop-left.walked c.in_ok-walked-2.walked
    c.cross.result c.way-in-loop-left.result c.requires.choice.0 c.requires.choice.1.allowed (omega arith)
    (omega arith) c.loop-left.invariant c.cross.ensures c.way-in-loop-left.ensures c.in_ok-walked-2.ensures

pub moves_to-moves-requires : goal.moves_to-moves-requires
moves_to-moves-requires c =
    let valid = c.aisles-left-end.ensures.valid in
    let upto = c.loop-left.auto.left-end (omega (arith, valid.aisles, c.aisles-left-end.ensures.value)) in
    let all : c.loop-left.left ≡ c.args.layout.now.aisles = omega (arith, c.aisles-left-end.ensures.value, c.loop-left-test.false, upto) in
    done_home c.args.layout.now c.args.picks.now.points (route_of c.args.choice.now) c.loop-left.walked c.requires.choice.0 c.in_ok-round.round.start _
    c.in_ok-round.round.path
    (underway_done c.args.layout.now c.args.picks.now.points
    (route_of c.args.choice.now) c.loop-left.left c.loop-left.walked c.requires.choice.0 c.requires.choice.1.allowed all c.loop-left.invariant)
    c.in_ok-round.ensures.0 c.in_ok-round.ensures.1 c.depot_point-depot.ensures.value

pub returns : goal.returns
returns c =
    let valid = c.aisles-left-end.ensures.valid in
    let upto = c.loop-left.auto.left-end (omega (arith, valid.aisles, c.aisles-left-end.ensures.value)) in
    let all : c.loop-left.left ≡ c.args.layout.now.aisles = omega (arith, c.aisles-left-end.ensures.value, c.loop-left-test.false, upto) in
    λ total is. if_ok_then c.turned.result _ _ (λ walk e.
    done_turned c.args.layout.now c.args.picks.now.points (route_of c.args.choice.now) c.loop-left.walked total c.moves_to-moves.result
    c.in_ok-round.round.start _ c.in_ok-round.round.path walk.items
    (underway_done c.args.layout.now c.args.picks.now.points (route_of c.args.choice.now) c.loop-left.left c.loop-left.walked total is.allowed
    all c.loop-left.invariant)
    c.in_ok-round.ensures.0 c.in_ok-round.ensures.1 c.depot_point-depot.ensures.value c.moves_to-moves.ensures.goal e) c.turned.ensures
