use Rattle.std.proofs.Common.{◌<◌, sym, ◌∙◌, arith, eqb-true, eq-eqb}
use Rattle.std.proofs.lemmas.Nat.Bits.{shr_and_one}
use Rattle.std.proofs.lemmas.Bool.{ltb-true}
use Rattle.wp_pairs.proofs.Members.{one_at_member, member_at_one, members_are_batch}
use Rattle.wp_pairs.proofs.batch.Batch.has.Goals as goal

pub returns-then-i-lt-MOST_ORDERS-clause-exact : goal.returns-then-i-lt-MOST_ORDERS-clause-exact
returns-then-i-lt-MOST_ORDERS-clause-exact c =
    let shown = shr_and_one c.self.inside.word c.args.i in
    rw (← c.self.view_is) (
      λ set. member_at_one _ _ c.if-i-lt-MOST_ORDERS.true (sym shown ∙ eqb-true _ _ set),
      λ has. eq-eqb _ _ (shown ∙ (one_at_member _ _ has).1),
    )

pub returns-then-i-lt-MOST_ORDERS-clause-valid : goal.returns-then-i-lt-MOST_ORDERS-clause-valid
returns-then-i-lt-MOST_ORDERS-clause-valid c = rw (← c.self.view_is) (members_are_batch _)

pub returns-else-i-lt-MOST_ORDERS-clause-exact : goal.returns-else-i-lt-MOST_ORDERS-clause-exact
returns-else-i-lt-MOST_ORDERS-clause-exact c =
    rw (← c.self.view_is) (
      λ low. let small : c.args.i < 64 = ltb-true _ _ low in absurd (omega (arith, c.if-i-lt-MOST_ORDERS.false)),
      λ has. absurd (omega (arith, c.if-i-lt-MOST_ORDERS.false, (one_at_member _ _ has).0)),
    )

pub returns-else-i-lt-MOST_ORDERS-clause-valid : goal.returns-else-i-lt-MOST_ORDERS-clause-valid
returns-else-i-lt-MOST_ORDERS-clause-valid c = rw (← c.self.view_is) (members_are_batch _)
