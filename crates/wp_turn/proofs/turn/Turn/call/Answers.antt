use Rattle.std.proofs.Common.{ap, ap₂, ◌<◌, sym, subst, ◌∙◌, ◌+◌, length, length-append, arith}
use Rattle.wp_turn.specs.Calls.{IsAmong, calls_of}
use Rattle.wp_turn.specs.Promises.{own_calls}
use Rattle.wp_turn.specs.Rule.{most_calls}
use Rattle.wp_turn.specs.Rests.{Rests}
use Rattle.wp_turn.proofs.CallLists.{calls_of-own}
use Rattle.wp_turn.proofs.Calling.{draws_at_rest, comes_to, due, stepped, commits_at, stands, stands_at_rest, extends_on}
use Rattle.wp_turn.proofs.Steps.{taken}
use Rattle.wp_turn.proofs.turn.Turn.call.Goals as goal

pub fetch_add-place-requires : goal.fetch_add-place-requires
fetch_add-place-requires g c =
    let key = c.self.inside.table.shared.key in
    let of_it = ap (λ p. p.id) c.pass.view_is ∙ (c.requires.own.0 ∙ sym (ap (λ t. t.id) c.self.view_is)) in
    let few : c.pass.inside.made < most_calls = omega (arith, c.pass.invariant.calls, c.requires.few, ap (λ p. length (own_calls p)) c.pass.view_is) in (
      of_it,
      omega (arith, c.self.invariant.0),
      draws_at_rest g.V.Turned.entries g.V.Turned.setting key.value.value key.callers _ _ _ _ _ _ _ c.pass.invariant few,
    )

pub load-due-requires : goal.load-due-requires
load-due-requires g c =
    let key = c.self.inside.table.shared.key in
    let of_it = c.turns.invariant.own ∙ sym (ap (λ t. t.id) c.self.view_is) in
    let start = ap (λ t. t.start) c.self.view_is in (
      of_it,
      omega (arith, c.self.invariant.0),
      comes_to g.V.Turned.entries g.V.Turned.setting c.args.self.now.start key.value.value start key.callers _ _ _ _ _ _ c.turns.invariant.waits,
    )

pub fetch_add-number-requires : goal.fetch_add-number-requires
fetch_add-number-requires g c =
    let en = g.V.Turned.entries in
    let se = g.V.Turned.setting in
    let start = c.args.self.now.start in
    let pass = c.args.pass in
    let now = c.load-due.new.seat.me in
    let x = c.step-out.new.self in
    let took = due en se start c.self.inside.table.shared.table_id.slots c.turns.seat.me now pass.caller c.fetch_add-place.result c.load-due.result
    pass.callers c.turns.invariant.waits c.load-due.ensures.2 c.if-due-place.true in
    let among = subst (λ p. IsAmong p.caller p.callers) c.pass.view_is c.pass.invariant.own in
    let follow = extends_on pass.calls c.turns.seat.me.0.calls now.0.calls pass.callers c.turns.invariant.follow took.extends in
    let same = ap (taken took.value) (sym c.slot_mut-value.ensures.value ∙ ap (λ m. m.1) took.holds) in
    let caller = ap (λ p. p.caller) c.pass.view_is in
    let grown = stepped en se start g.V.Turned.entry now.0.calls took.value c.slot_mut-value.result.now x pass.caller c.pass.inside.caller c.args.ready same
    caller took.list took.same_setting
    c.step-out.ensures.appends in
    let key = c.self.inside.table.shared.key in
    let of_it = c.load-due.ensures.0 ∙ (c.turns.invariant.own ∙ sym (ap (λ t. t.id) c.self.view_is)) in
    let few : length (calls_of pass.caller now.0.calls) < most_calls = omega (arith, c.requires.few, ap length (follow.own pass.caller among)) in
    let setting = c.step-out.ensures.setting ∙ (ap se same ∙ took.same_setting) in
    let commit = commits_at en se start key.value.value (ap (λ t. t.start) c.self.view_is)
    key.callers c.self.inside.table.shared.table_id.slots c.load-due.new.seat.id now pass.caller
    c.fetch_add-place.result pass.callers took.value x _ took.holds (omega (arith, c.self.invariant.1)) among few grown setting in
    (of_it, omega (arith, c.self.invariant.0), commit)

pub invariant_of-pass : goal.invariant_of-pass
invariant_of-pass g c =
    let en = g.V.Turned.entries in
    let se = g.V.Turned.setting in
    let start = c.args.self.now.start in
    let pass = c.args.pass in
    let now = c.load-due.new.seat.me in
    let x = c.step-out.new.self in
    let took = due en se start c.self.inside.table.shared.table_id.slots c.turns.seat.me now pass.caller c.fetch_add-place.result c.load-due.result
    pass.callers c.turns.invariant.waits c.load-due.ensures.2 c.if-due-place.true in
    let among = subst (λ p. IsAmong p.caller p.callers) c.pass.view_is c.pass.invariant.own in
    let follow = extends_on pass.calls c.turns.seat.me.0.calls now.0.calls pass.callers c.turns.invariant.follow took.extends in
    let same = ap (taken took.value) (sym c.slot_mut-value.ensures.value ∙ ap (λ m. m.1) took.holds) in
    let caller = ap (λ p. p.caller) c.pass.view_is in
    let grown = stepped en se start g.V.Turned.entry now.0.calls took.value c.slot_mut-value.result.now x pass.caller c.pass.inside.caller c.args.ready same
    caller took.list took.same_setting
    c.step-out.ensures.appends in
    let last = stands en se start c.self.inside.table.shared.table_id.slots now c.fetch_add-number.new.seat.me pass.caller c.fetch_add-place.result
    c.fetch_add-number.result pass.callers took.value x _ took.holds grown
    c.fetch_add-number.ensures.2 in
    let all = c.pass.invariant.stands_for ∙ ap (λ p. length p.callers) c.pass.view_is in
    let made = c.pass.invariant.calls ∙ ap (λ p. length (own_calls p)) c.pass.view_is in
    let rests = stands_at_rest en se start now c.fetch_add-number.new.seat.me pass.calls pass.caller c.fetch_add-number.result c.pass.inside.stands
    c.pass.inside.made pass.callers _ last follow
    among all c.pass.invariant.few made (omega (arith, c.turns.invariant.left, took.left, made)) in
    subst (λ k. Rests en c.fetch_add-number.new.seat.me k (c.fetch_add-number.result + 1) c.pass.inside.stands (c.pass.inside.made + 1)) (sym caller) rests

pub returns-then-due-place-clause-call : goal.returns-then-due-place-clause-call
returns-then-due-place-clause-call g c =
    let en = g.V.Turned.entries in
    let se = g.V.Turned.setting in
    let start = c.args.self.now.start in
    let pass = c.args.pass in
    let now = c.load-due.new.seat.me in
    let x = c.step-out.new.self in
    let took = due en se start c.self.inside.table.shared.table_id.slots c.turns.seat.me now pass.caller c.fetch_add-place.result c.load-due.result
    pass.callers c.turns.invariant.waits c.load-due.ensures.2 c.if-due-place.true in
    let among = subst (λ p. IsAmong p.caller p.callers) c.pass.view_is c.pass.invariant.own in
    let follow = extends_on pass.calls c.turns.seat.me.0.calls now.0.calls pass.callers c.turns.invariant.follow took.extends in
    let same = ap (taken took.value) (sym c.slot_mut-value.ensures.value ∙ ap (λ m. m.1) took.holds) in
    let caller = ap (λ p. p.caller) c.pass.view_is in
    let grown = stepped en se start g.V.Turned.entry now.0.calls took.value c.slot_mut-value.result.now x pass.caller c.pass.inside.caller c.args.ready same
    caller took.list took.same_setting
    c.step-out.ensures.appends in
    let last = stands en se start c.self.inside.table.shared.table_id.slots now c.fetch_add-number.new.seat.me pass.caller c.fetch_add-place.result
    c.fetch_add-number.result pass.callers took.value x _ took.holds grown
    c.fetch_add-number.ensures.2 in
    let id = c.fetch_add-number.ensures.0 ∙ (c.load-due.ensures.0 ∙ (c.turns.invariant.own ∙ sym c.requires.own.0)) in
    let begun = ap (λ m. m.0.start) last.form ∙ sym c.requires.own.1 in
    let mine = ap (λ m. m.0.callers) last.form in
    let calls = ap (λ m. m.0.calls) last.form in
    let lists = ap en same ∙ took.list in
    let settings = ap se same ∙ took.same_setting in
    record {
      before = now.0.calls;
      follow = follow;
      last = λ i. record { id = id i; start = begun i; caller = caller i; callers = mine i; calls = calls i };
      numbered = last.numbered;
      answered = c.step-out.ensures.answers ∙ (λ i. g.V.Turned.answer (settings i) (lists i) (caller i) c.args.ready);
    }

pub returns-then-due-place-clause-made : goal.returns-then-due-place-clause-made
returns-then-due-place-clause-made g c =
    let en = g.V.Turned.entries in
    let se = g.V.Turned.setting in
    let start = c.args.self.now.start in
    let pass = c.args.pass in
    let now = c.load-due.new.seat.me in
    let x = c.step-out.new.self in
    let took = due en se start c.self.inside.table.shared.table_id.slots c.turns.seat.me now pass.caller c.fetch_add-place.result c.load-due.result
    pass.callers c.turns.invariant.waits c.load-due.ensures.2 c.if-due-place.true in
    let among = subst (λ p. IsAmong p.caller p.callers) c.pass.view_is c.pass.invariant.own in
    let follow = extends_on pass.calls c.turns.seat.me.0.calls now.0.calls pass.callers c.turns.invariant.follow took.extends in
    let same = ap (taken took.value) (sym c.slot_mut-value.ensures.value ∙ ap (λ m. m.1) took.holds) in
    let caller = ap (λ p. p.caller) c.pass.view_is in
    let grown = stepped en se start g.V.Turned.entry now.0.calls took.value c.slot_mut-value.result.now x pass.caller c.pass.inside.caller c.args.ready same
    caller took.list took.same_setting
    c.step-out.ensures.appends in
    let last = stands en se start c.self.inside.table.shared.table_id.slots now c.fetch_add-number.new.seat.me pass.caller c.fetch_add-place.result
    c.fetch_add-number.result pass.callers took.value x _ took.holds grown
    c.fetch_add-number.ensures.2 in
    let calls = ap (λ m. m.0.calls) last.form in
    ap₂ (λ k l. length (calls_of k l)) caller calls ∙ (ap length (calls_of-own now.0.calls pass.caller _) ∙
    (length-append _ _ ∙ ap (λ k. k + 1) (ap length (follow.own pass.caller among))))
