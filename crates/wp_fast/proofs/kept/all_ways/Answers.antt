use Rattle.std.proofs.Common.{◌≡◌, ◌≢◌, ◌-◌, ℕ, arith, subst, sym, ◌∙◌, ⊎_elim}
use Rattle.std.proofs.lemmas.Bool.{cases_eq}
use Rattle.std.proofs.lemmas.List.{get_or-replicate}
use Rattle.wp_fast.specs.KeptWays.{AreWaysAt}
use Rattle.wp_fast.proofs.kept.all_ways.Goals as goal

pub loop-aisle-init : goal.loop-aisle-init
loop-aisle-init c = record {
  before = λ aisle some low. absurd (omega (arith, some, low));
  last = λ d. get_or-replicate 64 (c.aisles-last.result - 1) c.aisle_ways-ways.result d
      (omega (arith, c.aisles-last.ensures.valid.aisles, c.aisles-last.ensures.value))
      ∙ c.aisle_ways-ways.ensures.value;
}

pub loop-aisle-preserved : goal.loop-aisle-preserved
loop-aisle-preserved c = record {
  before = λ aisle some low. ⊎_elim
      (λ (same : aisle ≡ c.loop-aisle.aisle). subst (λ (a : ℕ). AreWaysAt c.args.layout.now c.args.picks.now.points c.put_ways.new.ways a)
      (sym same) c.put_ways.ensures.here)
      (λ (differs : aisle ≢ c.loop-aisle.aisle) d. c.put_ways.ensures.others aisle d some differs
      ∙ c.loop-aisle.invariant.before aisle some (omega (arith, low, differs)) d)
      (cases_eq aisle c.loop-aisle.aisle);
  last = λ d. c.put_ways.ensures.others c.aisles-last.result d (omega arith) (λ same. omega (arith, same)) ∙ c.loop-aisle.invariant.last d;
}

pub returns : goal.returns
returns c = λ aisle up. ⊎_elim
    (λ (same : aisle ≡ c.aisles-last.result). subst (λ (a : ℕ). AreWaysAt c.args.layout.now c.args.picks.now.points c.loop-aisle.ways a)
    (sym same) c.loop-aisle.invariant.last)
    (λ (differs : aisle ≢ c.aisles-last.result). c.loop-aisle.invariant.before aisle up.0
    (omega (arith, up.1, differs, c.loop-aisle-test.false, c.aisles-last.ensures.value)))
    (cases_eq aisle c.aisles-last.result)
