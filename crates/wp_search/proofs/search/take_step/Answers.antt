use Rattle.std.proofs.Common.{ℕ, ◌-◌, ◌≤◌, ◌<◌, ◌∙◌, length, sum, arith, inl, inr, refl, subst}
use Rattle.wp_node.specs.Prices.{price}
use Rattle.wp_search.proofs.Searches.{not_paid, paid_onward, settled_cheaper, settled_ended, settled_proper, spent_ended, split_onward}
use Rattle.wp_search.proofs.search.take_step.Goals as goal
use Rattle.wp_search.proofs.search.take_step.Goals.{in-Worked, in-Onward, in-Spent, in-Settled}

pub settled-requires : goal.settled-requires
settled-requires g c =
    settled_proper c.args.root.now.wave.now c.args.root.now.capacity.most c.args.bound c.args.root.now.shares.now c.args.search.tree c.in-Settled.batching
    c.orders.ensures.valid
    c.args.root.now.capacity.some
    c.requires.shares c.requires.search.right c.requires.bound (rw c.in-Settled.is at c.in_ok-turn.ensures.turned.reason)

pub returns-clause-onward : goal.returns-clause-onward
returns-clause-onward g c = elim c.match-turn.branch [
  | in-Worked w ↦
      let reason = rw w.in-Worked.is at c.in_ok-turn.ensures.turned.reason in
      let enough : price (length c.args.root.now.wave.now.orders) c.args.root.now.capacity.most ≤ c.args.search.budget - c.args.search.spent =
      subst (λ (n : ℕ). price n c.args.root.now.capacity.most ≤ c.args.search.budget - c.args.search.spent) c.orders.ensures.value
      (c.pays-pays.ensures.0 reason.0) in
      rw w.result-is (paid_onward c.args.root.now.wave.now c.args.root.now.capacity.most
      (sum c.args.root.now.shares.now) c.args.bound c.pays-pays.result c.args.search
      c.turn_at_root.new.search.tree c.in_ok-turn.turn c.requires.search c.requires.bound c.in_ok-turn.ensures.turned w.paid.result w.in-Worked.found
      w.in-Worked.is w.paid.ensures.tree w.paid.ensures.best (omega (arith, w.paid.ensures.spent, c.in_ok-turn.ensures.spent))
      (omega (arith, enough, c.requires.search.within)) (w.paid.ensures.budget ∙ c.in_ok-turn.ensures.budget))
  | in-Onward w ↦
      rw w.result-is (split_onward c.args.root.now.wave.now c.args.root.now.capacity.most
      (sum c.args.root.now.shares.now) c.args.bound c.pays-pays.result c.args.search
      c.turn_at_root.new.search.tree c.in_ok-turn.turn c.requires.search c.requires.bound c.in_ok-turn.ensures.turned c.turn_at_root.new.search
      w.in-Onward.is refl (rw c.in_ok-turn.ensures.best c.requires.search.best) c.in_ok-turn.ensures.spent c.in_ok-turn.ensures.budget)
  | in-Spent w ↦
      let short : c.args.search.budget - c.args.search.spent < price (length c.args.root.now.wave.now.orders) c.args.root.now.capacity.most =
      subst (λ (n : ℕ). c.args.search.budget - c.args.search.spent < price n c.args.root.now.capacity.most) c.orders.ensures.value
      (not_paid c.pays-pays.result _ _ (rw w.in-Spent.is at c.in_ok-turn.ensures.turned.reason) c.pays-pays.ensures) in
      rw w.result-is (spent_ended c.args.root.now.wave.now c.args.root.now.capacity.most
      (sum c.args.root.now.shares.now) c.args.bound c.pays-pays.result c.args.search
      c.turn_at_root.new.search.tree c.in_ok-turn.turn c.requires.search c.requires.bound c.in_ok-turn.ensures.turned c.turn_at_root.new.search
      w.in-Spent.is refl (rw c.in_ok-turn.ensures.best c.requires.search.best) c.in_ok-turn.ensures.spent c.in_ok-turn.ensures.budget short)
  | in-Settled w ↦
      rw w.result-is (settled_ended c.args.root.now.wave.now c.args.root.now.capacity.most
      (sum c.args.root.now.shares.now) c.args.bound c.pays-pays.result c.args.search
      c.turn_at_root.new.search.tree c.in_ok-turn.turn c.requires.search c.requires.bound c.in_ok-turn.ensures.turned w.settled.result
      w.in-Settled.batching w.in-Settled.is w.settled.ensures.tree w.settled.ensures.best w.settled.ensures.same
      (w.settled.ensures.spent ∙ c.in_ok-turn.ensures.spent) (w.settled.ensures.budget ∙ c.in_ok-turn.ensures.budget))
]

pub returns-clause-kept : goal.returns-clause-kept
returns-clause-kept g c = λ dearer. elim c.match-turn.branch [
  | in-Worked w ↦ rw w.result-is (rw c.in_ok-turn.ensures.best at w.paid.ensures.kept)
  | in-Onward w ↦ rw w.result-is (inl c.in_ok-turn.ensures.best)
  | in-Spent w ↦ rw w.result-is (inl c.in_ok-turn.ensures.best)
  | in-Settled w ↦ rw w.result-is (inr (settled_cheaper c.args.root.now.wave.now c.args.root.now.capacity.most c.args.bound c.args.search.best.cost
      w.settled.result.best
      w.in-Settled.batching (rw w.in-Settled.is at c.in_ok-turn.ensures.turned.reason) w.settled.ensures.best w.settled.ensures.same dearer))
]
