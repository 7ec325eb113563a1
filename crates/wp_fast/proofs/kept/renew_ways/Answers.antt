use Rattle.std.proofs.Common.{◌≡◌, ◌≢◌, ℕ, arith, subst, sym, ◌∙◌, ⊎_elim}
use Rattle.std.proofs.lemmas.Bool.{both_ways, cases_eq}
use Rattle.wp_fast.specs.KeptWays.{AreWaysAt}
use Rattle.wp_fast.proofs.kept.renew_ways.Goals as goal
use Rattle.wp_fast.proofs.kept.renew_ways.Goals.{then-has_in, else-has_in}

pub loop-aisle-preserved : goal.loop-aisle-preserved
loop-aisle-preserved c = elim c.if-has_in.branch [
  | then-has_in w ↦ rw w.ways-is (record {
    renewed = λ aisle some low. ⊎_elim
        (λ (same : aisle ≡ c.loop-aisle.aisle). subst (λ (a : ℕ). AreWaysAt c.args.layout.now c.args.picks.now.points w.put_ways.new.ways a)
        (sym same) w.put_ways.ensures.here)
        (λ (differs : aisle ≢ c.loop-aisle.aisle) d. w.put_ways.ensures.others aisle d some differs
        ∙ c.loop-aisle.invariant.renewed aisle some (omega (arith, low, differs)) d)
        (cases_eq aisle c.loop-aisle.aisle);
    elsewhere = λ aisle up none. ⊎_elim
        (λ (same : aisle ≡ c.loop-aisle.aisle). subst (λ (a : ℕ). AreWaysAt c.args.layout.now c.args.picks.now.points w.put_ways.new.ways a)
        (sym same) w.put_ways.ensures.here)
        (λ (differs : aisle ≢ c.loop-aisle.aisle) d. w.put_ways.ensures.others aisle d up.0 differs ∙ c.loop-aisle.invariant.elsewhere aisle up none d)
        (cases_eq aisle c.loop-aisle.aisle);
  })
  | else-has_in w ↦ rw w.ways-is (record {
    renewed = λ aisle some low. ⊎_elim
        (λ (same : aisle ≡ c.loop-aisle.aisle). c.loop-aisle.invariant.elsewhere aisle
        (some, omega (arith, same, c.loop-aisle-test.true, c.aisles-aisle-end.ensures.value))
        (λ has. both_ways c.has_in.result w.if-has_in.false (c.has_in.ensures.exact.1 (has.0, has.1, has.2 ∙ same))))
        (λ (differs : aisle ≢ c.loop-aisle.aisle). c.loop-aisle.invariant.renewed aisle some (omega (arith, low, differs)))
        (cases_eq aisle c.loop-aisle.aisle);
    elsewhere = c.loop-aisle.invariant.elsewhere;
  })
]
