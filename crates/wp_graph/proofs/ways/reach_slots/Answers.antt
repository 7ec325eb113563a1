use Rattle.std.proofs.Common.{◌*◌, ◌∙◌, None, ap, arith, fold, map, sym}
use Rattle.std.proofs.lemmas.Bool.{eq-eqb}
use Rattle.std.proofs.lemmas.List.Sums.{fold-append}
use Rattle.wp_graph.specs.PickSets.{AreSlots}
use Rattle.wp_graph.specs.Required.{distance, has_point}
use Rattle.wp_graph.specs.Stretches.{front_distances, reach_to, slot_distances}
use Rattle.wp_graph.proofs.RequiredPlaces.{slot_had, slots_within, words_more}
use Rattle.wp_graph.proofs.ways.reach_slots.Goals as goal
use Rattle.wp_graph.proofs.ways.reach_slots.Goals.{After-word}

slots : (c : After-word) → AreSlots c.args.layout.now c.args.picks.now.points
slots c = rw c.requires.picks at c.word.ensures.slots

pub reach_word-stretch-requires-clause-slots : goal.reach_word-stretch-requires-clause-slots
reach_word-stretch-requires-clause-slots c = λ k small set.
    (slot_had c.args.layout.now c.args.picks.now.points c.args.aisle _ (slots (goal.at.reach_word-stretch-requires-clause-slots c).After-word)
    (sym (c.word.ensures.bits k small) ∙ eq-eqb _ _ set)).slot

pub loop-index-preserved : goal.loop-index-preserved
loop-index-preserved c = record {
  value = words_more reach_to (distance c.args.layout.now) (has_point c.args.picks.now.points c.args.aisle) _ c.loop-index.stretch c.reach_word-stretch.result
      c.loop-index.index c.word.result c.loop-index.invariant.value c.reach_word-stretch.ensures.value c.word.ensures.bits;
  slots = λ some. (slots (goal.at.loop-index-preserved c).After-word).slots;
  last = c.reach_word-stretch.ensures.last;
}

pub loop-index-init : goal.loop-index-init
loop-index-init c = record { value = c.reach_front-stretch.ensures.value; slots = λ some. absurd (omega arith); last = c.reach_front-stretch.ensures.last }

pub returns-clause-value : goal.returns-clause-value
returns-clause-value c =
    let layout = c.args.layout.now in
    let valid = c.reach_front-stretch.ensures.valid in
    let are : AreSlots layout c.args.picks.now.points = record { ranges = valid; slots = c.loop-index.invariant.slots (omega arith) } in
    c.loop-index.invariant.value
    ∙ ap (λ places. fold reach_to (fold reach_to None (front_distances layout c.args.aisle)) (map (distance layout) places))
    (slots_within layout c.args.picks.now.points c.args.aisle (64 * c.loop-index.index) are (omega (arith, valid.slots)))
    ∙ sym (fold-append reach_to None (front_distances layout c.args.aisle) (slot_distances layout c.args.picks.now.points c.args.aisle))

pub returns-clause-slots : goal.returns-clause-slots
returns-clause-slots c = record { ranges = c.reach_front-stretch.ensures.valid; slots = c.loop-index.invariant.slots (omega arith) }
