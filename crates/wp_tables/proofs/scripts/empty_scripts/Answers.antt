use Rattle.std.proofs.Common.{◌≡◌, ◌-◌, ◌+◌, [], refl, subst, arith}
use Rattle.wp_tables.proofs.Dealing.{empty_more}
use Rattle.wp_tables.specs.Scripts.{AreDealt}
use Rattle.wp_tables.proofs.scripts.empty_scripts.Goals as goal
use Rattle.wp_tables.proofs.scripts.empty_scripts.Goals.{else-loop-desk-test, then-loop-desk-test+in_ok-push+else-desk-desks}

pub loop-desk-preserved : goal.loop-desk-preserved
loop-desk-preserved c = (
  empty_more (c.loop-desk.desk - 1) c.loop-desk.desk (c.loop-desk.desk + 1 - 1) c.loop-desk.scripts.items c.push.new.self.items
      (record { desk = c.loop-desk.desk; commands = c.new-commands.result }) (omega (arith, c.loop-desk.auto.desk)) (omega arith) refl
      c.new-commands.ensures.items c.in_ok-push.ensures.items c.loop-desk.invariant.0,
  omega (arith, c.loop-desk-test.true),
)

pub returns : goal.returns
returns c = elim c.loop-desk-test.branch [
  | else-loop-desk-test w ↦
      let none : c.loop-desk.desk - 1 ≡ c.args.desks = omega (arith, w.loop-desk-test.false, c.loop-desk.invariant.1) in
      rw w.scripts-is (subst (λ n. AreDealt [] n c.loop-desk.scripts.items) none c.loop-desk.invariant.0)
  | then-loop-desk-test+in_ok-push+else-desk-desks w ↦
      rw w.scripts-is (empty_more (c.loop-desk.desk - 1) c.loop-desk.desk c.args.desks c.loop-desk.scripts.items w.push.new.self.items
      (record { desk = c.loop-desk.desk; commands = w.new-commands.result }) (omega (arith, c.loop-desk.auto.desk)) (omega arith) refl
      w.new-commands.ensures.items w.in_ok-push.ensures.items c.loop-desk.invariant.0)
]
