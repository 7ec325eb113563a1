use Rattle.std.proofs.Common.{◌*◌, arith, refl}
use Rattle.std.proofs.lemmas.Bool.{false≢true}
use Rattle.wp_graph.proofs.WordSlots.{none_in_words, none_more, some_in_word}
use Rattle.wp_graph.proofs.picks.Picks.has_in.Goals as goal

pub loop-index-init : goal.loop-index-init
loop-index-init c = record { none = λ place low. absurd (omega (arith, low)); slots = λ some. absurd (omega (arith, some)) }

pub returns-then-word-ne0-clause-exact : goal.returns-then-word-ne0-clause-exact
returns-then-word-ne0-clause-exact c = (
  λ yes. some_in_word c.args.self.now.points c.args.aisle c.loop-index.index c.word.result (omega arith) c.if-word-ne0.true c.word.ensures.bits,
  λ has. refl,
)

pub loop-index-preserved : goal.loop-index-preserved
loop-index-preserved c = record {
  none = none_more c.args.self.now.points c.args.aisle c.loop-index.index c.word.result (omega arith) c.word.ensures.bits c.loop-index.invariant.none;
  slots = λ some. c.word.ensures.slots;
}

pub returns-clause-exact : goal.returns-clause-exact
returns-clause-exact c =
    let are = c.loop-index.invariant.slots (omega arith) in (
      λ no. absurd (false≢true no),
      λ has. absurd (none_in_words c.args.self.now.layout c.args.self.now.points c.args.aisle (64 * c.loop-index.index) are (omega (arith, are.ranges.slots))
          c.loop-index.invariant.none has),
    )
