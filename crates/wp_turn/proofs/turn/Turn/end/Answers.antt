use Rattle.std.proofs.Common.{All, length, ◌≡◌, subst, ap, sym, ◌∙◌, arith}
use Rattle.wp_turn.specs.Promises.{IsOf, Follow, callers_of}
use Rattle.wp_turn.proofs.Closing.{all_more, all_rest, closes_all, given-length}
use Rattle.wp_turn.proofs.turn.Turn.end.Goals as goal

pub meet_all-whole-requires-clause-own : goal.meet_all-whole-requires-clause-own
meet_all-whole-requires-clause-own g c = (all_rest (λ p. IsOf c.args.self p) c.in-Some.first c.next.new.self.list
    (subst (λ l. All (λ p. IsOf c.args.self p) l) c.in-Some.ensures.list c.requires.own)).0

pub meet_all-whole-requires-clause-others : goal.meet_all-whole-requires-clause-others
meet_all-whole-requires-clause-others g c = (all_rest (λ p. IsOf c.args.self p) c.in-Some.first c.next.new.self.list
    (subst (λ l. All (λ p. IsOf c.args.self p) l) c.in-Some.ensures.list c.requires.own)).1

pub take_home-requires-clause-all : goal.take_home-requires-clause-all
take_home-requires-clause-all g c =
    let all : callers_of c.args.passes.list ≡ c.meet_all-whole.result.callers = ap callers_of c.in-Some.ensures.list ∙ sym c.meet_all-whole.ensures.callers in
    omega (arith, given-length c.args.passes.list, ap length all, c.requires.all)

pub returns : goal.returns
returns g c =
    let all = ap callers_of c.in-Some.ensures.list ∙ sym c.meet_all-whole.ensures.callers in
    let calls = c.meet_all-whole.result.calls in
    let follow = subst (λ l. All (λ p. Follow p calls) l) (sym c.in-Some.ensures.list)
    (all_more (λ p. Follow p calls) c.in-Some.first c.next.new.self.list c.meet_all-whole.ensures.begins c.meet_all-whole.ensures.others) in
    closes_all g.V.Turned.entries g.V.Turned.setting c.args.self.start c.args.passes.list c.meet_all-whole.result c.take_home.result
    (sym all) follow c.take_home.ensures
