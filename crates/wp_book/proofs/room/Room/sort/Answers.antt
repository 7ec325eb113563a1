use Rattle.std.proofs.Common.{◌≡◌, subst, refl, rules}
use Rattle.std.proofs.lemmas.List.Sorted.{answers_always}
use Rattle.wp_model.specs.declared.row.Hold.{Hold}
use Rattle.wp_book.specs.Room.{Content, IsInOrder}
use Rattle.wp_book.proofs.SortedPairs.{no_later}
use Rattle.wp_book.proofs.room.Room.sort.Goals as goal

pub returns : goal.returns
returns c =
    let sorted = c.sort_unstable_by_key.ensures.sorted (λ (hold : Hold). (hold.order, hold.row))
    (answers_always _ (λ a r. r ≡ (a.0.now.order, a.0.now.row)) _ (λ f a r q k. search rules)) in
    subst (λ (old : Content). IsInOrder old (record { size = c.self.inside.size; holds = c.sort_unstable_by_key.new.self.items })) c.self.view_is (record {
      size = refl;
      same = c.sort_unstable_by_key.ensures.permutation;
      order = λ i j g h upto at there.
          let is = no_later (λ (hold : Hold). hold.order) (λ (hold : Hold). hold.row) _ sorted i j g h upto at there in
          record { order = is.first; row = is.second };
    })
