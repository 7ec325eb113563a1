use Rattle.std.proofs.Common.{◌∙◌, ap, arith, sym, map, fold}
use Rattle.std.specs.Int.{w64}
use Rattle.std.proofs.lemmas.Option.{IfSome_then}
use Rattle.std.proofs.lemmas.Nat.Bits.{bit_at-trailing_zeros}
use Rattle.wp_graph.specs.Required.{distance}
use Rattle.wp_graph.specs.Stretches.{reach_to}
use Rattle.wp_graph.proofs.Places.{lowest_cleared, lowest_less, lowest_place, no_places}
use Rattle.wp_graph.proofs.ways.reach_word.Goals as goal

pub overflow_add-first : goal.overflow_add-first
overflow_add-first c =
    let low = bit_at-trailing_zeros w64 c.loop-rest.rest (omega arith) (omega arith) in
    let slot = c.loop-rest.invariant.slots _ low.0 low.1 in
    let most = c.requires.valid.slots in
    record { fits = omega (arith, slot.1, most.1) }

pub slot_distance-requires : goal.slot_distance-requires
slot_distance-requires c =
    let low = bit_at-trailing_zeros w64 c.loop-rest.rest (omega arith) (omega arith) in
    c.loop-rest.invariant.slots _ low.0 low.1

pub loop-rest-smaller : goal.loop-rest-smaller
loop-rest-smaller c = lowest_less c.loop-rest.rest (omega arith) (omega arith)

pub loop-rest-preserved : goal.loop-rest-preserved
loop-rest-preserved c = record {
  value = rw (c.reach-stretch.ensures.value, c.slot_distance.ensures.value)
      (sym (ap (λ places. fold reach_to c.loop-rest.stretch (map (distance c.args.layout.now) places))
      (lowest_place c.args.first c.loop-rest.rest (omega arith) (omega arith))) ∙ c.loop-rest.invariant.value);
  slots = λ k small set. c.loop-rest.invariant.slots k small (lowest_cleared c.loop-rest.rest k (omega arith) (omega arith) small set);
  last = IfSome_then c.reach-stretch.result c.reach-stretch.ensures.last (λ s e. omega (arith, e, c.slot_distance.ensures.small));
}

pub returns-clause-value : goal.returns-clause-value
returns-clause-value c =
    sym (ap (λ places. fold reach_to c.loop-rest.stretch (map (distance c.args.layout.now) places))
    (no_places c.args.first c.loop-rest.rest c.loop-rest-test.false)) ∙ c.loop-rest.invariant.value
