use Rattle.std.proofs.Common.{◌≡◌, ◌∙◌, []}
use Rattle.std.specs.Prelude.{Some}
use Rattle.std.proofs.lemmas.Result.{IfErr-weaker, IfOk-weaker}
use Rattle.wp_cert.specs.declared.tree.CertWhy.TheVariants as why
use Rattle.wp_cert.specs.Bounds.{NoBatchingCostsLess}
use Rattle.wp_cert.specs.Paths.{IsRefusedWhole, pairing_of}
use Rattle.wp_cert.specs.Refusals.{IsFirstBroken}
use Rattle.wp_cert.specs.Trees.{IsBoundOf, IsRight}
use Rattle.wp_cert.proofs.BoundsHold.{bounds_hold}
use Rattle.wp_cert.proofs.Checked.{bound_of, cuts_broken}
use Rattle.wp_cert.proofs.WholeTrees.{first_broken}
use Rattle.wp_cert.proofs.checking.check.Goals as goal

pub returns-in-Err-clause-refused : goal.returns-in-Err-clause-refused
returns-in-Err-clause-refused c = λ named.
    cuts_broken c.args.wave.now c.args.capacity _ c.args.tree.now c.fault_at.result c.in-Err.why c.orders.ensures.value
    (c.in-Err.ensures.bad (λ e. named (c.fault_at.ensures.why ∙ e))) c.fault_at.ensures.node c.fault_at.ensures.why

pub returns-clause-right : goal.returns-clause-right
returns-clause-right c = IfOk-weaker c.check_nodes.result
    (λ bound. IsRight c.terms_with-terms.result (pairing_of c.terms_with-terms.result.wave c.args.capacity []) c.shares_of.result c.args.tree.now.nodes []
    (Some bound)) (IsBoundOf c.args.wave.now c.args.capacity c.args.tree.now)
    (λ bound right. bound_of c.args.wave.now c.args.capacity c.shares_of.result bound c.args.tree.now c.terms_with-terms.result
    c.terms_with-terms.ensures.right c.terms_with-terms.ensures.terms c.shares_of.ensures right) c.check_nodes.ensures.ok

pub returns-clause-bound : goal.returns-clause-bound
returns-clause-bound c = IfOk-weaker c.check_nodes.result (IsBoundOf c.args.wave.now c.args.capacity c.args.tree.now)
    (NoBatchingCostsLess c.args.wave.now c.args.capacity)
    (λ bound right. bounds_hold c.args.wave.now c.args.capacity c.args.tree.now bound c.requires.some right) (returns-clause-right c)

pub returns-clause-refused : goal.returns-clause-refused
returns-clause-refused c = IfErr-weaker c.check_nodes.result
    (IsRefusedWhole c.terms_with-terms.result (pairing_of c.terms_with-terms.result.wave c.args.capacity []) c.shares_of.result c.args.tree.now.nodes)
    (λ fault. (fault.why ≡ why.Memory → ⊥) → IsFirstBroken c.args.wave.now c.args.capacity c.args.tree.now fault)
    (λ fault refused named. first_broken c.args.wave.now c.args.capacity c.shares_of.result c.terms_with-terms.result.step c.args.tree.now
    c.terms_with-terms.result fault c.terms_with-terms.ensures.terms
    c.terms_with-terms.ensures.right c.shares_of.ensures refused named) c.check_nodes.ensures.err
