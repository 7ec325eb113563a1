use Rattle.std.proofs.Common.{◌≡◌, ℕ, ◌-◌, ◌++◌, ◌∷◌, [], List, length, take, arith, ap, ◌∙◌}
use Rattle.std.specs.Prelude.{Option}
use Rattle.std.proofs.lemmas.List.{length_push}
use Rattle.std.specs.Option.{option_to_list}
use Rattle.wp_pairs.specs.declared.pair.OrderPair.{OrderPair}
use Rattle.wp_cert.specs.declared.way.Note.{Note}
use Rattle.wp_cert.proofs.Ways.{root_done, second_due, split_done}
use Rattle.wp_cert.proofs.way.SplitWay.leave.Goals as goal

pub returns-then-pair : goal.returns-then-pair
returns-then-pair c = λ terms capacity shares at next nodes way right.
    let done = c.loop-pair.invariant.done terms capacity shares at next nodes way right in
    let noted : c.loop-pair.self.notes.items ≡ c.pop-in-Some.new.self.items ++ c.unwrap-note.result ∷ [] =
    c.pop-in-Some.ensures.items ∙ ap (λ (o : Option Note). c.pop-in-Some.new.self.items ++ option_to_list o) c.unwrap-note.ensures in
    rw c.in_ok-add.ensures.above
    (second_due terms capacity nodes shares c.pop.new.self.items c.pop-in-Some.new.self.items c.in-Some.pair c.unwrap-note.result next c.loop-pair.bound
    _ _ done.above done.at _ _ c.in-Some.ensures.items noted c.if-pair.true c.in_ok-add.ensures.path c.in_ok-add.ensures.notes done.way done.right)

pub loop-pair-preserved : goal.loop-pair-preserved
loop-pair-preserved c =
    let ends : c.loop-pair.self.path.items ≡ c.pop.new.self.items ++ c.in-Some.pair ∷ [] = c.in-Some.ensures.items in
    let noted : c.loop-pair.self.notes.items ≡ c.pop-in-Some.new.self.items ++ c.unwrap-note.result ∷ [] =
    c.pop-in-Some.ensures.items ∙ ap (λ (o : Option Note). c.pop-in-Some.new.self.items ++ option_to_list o) c.unwrap-note.ensures in record {
      even = omega (
        arith,
        c.loop-pair.invariant.even,
        ap (λ (ps : List OrderPair). length ps) ends,
        ap (λ (ns : List Note). length ns) noted,
        length_push c.pop.new.self.items c.in-Some.pair,
        length_push c.pop-in-Some.new.self.items c.unwrap-note.result,
      );
      done = λ terms capacity shares at next nodes way right.
          let done = c.loop-pair.invariant.done terms capacity shares at next nodes way right in
          split_done terms capacity nodes shares c.pop.new.self.items c.pop-in-Some.new.self.items c.in-Some.pair c.unwrap-note.result next c.loop-pair.bound
          _ _ done.above done.at c.lower_bound-bound.result ends noted c.if-pair.false c.lower_bound-bound.ensures done.way done.right;
    }

pub returns : goal.returns
returns c = λ terms capacity shares at next nodes way right.
    let done = c.loop-pair.invariant.done terms capacity shares at next nodes way right in
    let none = c.in_default.ensures.items ∙ ap (λ (ps : List OrderPair). ps ++ [])
    (c.in_default.ensures.rest ∙ ap (λ (n : ℕ). take (n - 1) c.loop-pair.self.path.items) c.in_default.ensures.cases.0) in
    root_done terms capacity nodes shares _ _ done.above done.at next c.loop-pair.bound none done.way done.right
