use Rattle.std.proofs.Common.{inr}
use Rattle.std.proofs.lemmas.Result.{IfErr-weaker}
use Rattle.wp_top.proofs.Checks.{shows_bound}
use Rattle.wp_top.proofs.check.bound_of.Goals as goal

pub returns-clause-right : goal.returns-clause-right
returns-clause-right c =
    shows_bound c.args.layout.now c.args.text.now.items _ _ _ c.check.result c.in_ok-read.ensures.told c.check.ensures.right c.check.ensures.bound

pub returns-clause-wrong : goal.returns-clause-wrong
returns-clause-wrong c = IfErr-weaker c.check.result _ _
    (λ fault refused named. inr (record {
      wave = _;
      capacity = _;
      tree = _;
      told = c.in_ok-read.ensures.told;
      broken = refused named;
    })) c.check.ensures.refused
