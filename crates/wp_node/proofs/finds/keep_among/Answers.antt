use Rattle.std.proofs.Common.{◌<◌, arith, length, length-set, subst, sym, ◌∙◌}
use Rattle.std.proofs.lemmas.List.Elements.{All-get_or, All-set}
use Rattle.wp_node.specs.Finds.{IsFind}
use Rattle.wp_node.proofs.finds.keep_among.Goals as goal
use Rattle.wp_node.proofs.finds.keep_among.Goals.{then-is_nearer, else-is_nearer}

pub loop-at-preserved : goal.loop-at-preserved
loop-at-preserved c = elim c.if-is_nearer.branch [
  | then-is_nearer w ↦
      let within : c.loop-at.at < length c.loop-at.kept.items =
      omega (arith, c.loop-at-test.true, c.min-at-end.ensures, c.len.ensures, c.loop-at.invariant.whole) in record {
        whole = rw w.kept-is (length-set c.loop-at.kept.items c.loop-at.at c.loop-at.next ∙ c.loop-at.invariant.whole);
        finds = λ wave old this.
            let before = c.loop-at.invariant.finds wave old this in (
              rw w.kept-is (All-set (IsFind wave) _ _ _ before.1 before.0),
              rw w.next-is (subst (IsFind wave) (sym w.index-later.ensures)
                  (All-get_or (IsFind wave) c.loop-at.kept.items c.loop-at.at w.index-later.result.now within before.0)),
            );
      }
  | else-is_nearer w ↦ rw (w.kept-is, w.next-is) c.loop-at.invariant
]

pub returns : goal.returns
returns c = λ wave old this. (c.loop-at.invariant.finds wave old this).0
