use Rattle.std.proofs.Common.{All, ap, subst, ◌∙◌}
use Rattle.wp_turn.specs.Promises.{IsOf}
use Rattle.wp_turn.proofs.Closing.{all_rest, met_none, met_more, met_all}
use Rattle.wp_turn.proofs.turn.Turn.meet_all.Goals as goal

pub loop-pass-init : goal.loop-pass-init
loop-pass-init g c = record { own = c.requires.own; rest = c.requires.others; met = met_none c.args.whole c.args.others.list }

pub meet-whole-requires-clause-second : goal.meet-whole-requires-clause-second
meet-whole-requires-clause-second g c = (all_rest (λ p. IsOf c.args.self.now p) c.in-Some.pass c.next.new.self.list
    (subst (λ l. All (λ p. IsOf c.args.self.now p) l) c.in-Some.ensures.list c.loop-pass.invariant.rest)).0

pub loop-pass-preserved : goal.loop-pass-preserved
loop-pass-preserved g c = record {
  own = (ap (λ p. p.id) c.meet-whole.ensures.both ∙ c.loop-pass.invariant.own.0, ap (λ p. p.start) c.meet-whole.ensures.both ∙ c.loop-pass.invariant.own.1);
  rest = (all_rest (λ p. IsOf c.args.self.now p) c.in-Some.pass c.next.new.self.list
      (subst (λ l. All (λ p. IsOf c.args.self.now p) l) c.in-Some.ensures.list c.loop-pass.invariant.rest)).1;
  met =
      met_more c.args.whole c.loop-pass.whole c.meet-whole.result c.in-Some.pass c.args.others.list c.loop-pass.others.list c.next.new.self.list
      c.loop-pass.invariant.met c.in-Some.ensures.list (ap (λ p. p.callers) c.meet-whole.ensures.both)
      c.meet-whole.ensures.begins c.meet-whole.ensures.second;
}

pub returns-clause-others : goal.returns-clause-others
returns-clause-others g c = (met_all c.args.whole c.loop-pass.whole c.args.others.list c.loop-pass.others.list (c.next.ensures.none c.in_default.is)
    c.loop-pass.invariant.met).1
