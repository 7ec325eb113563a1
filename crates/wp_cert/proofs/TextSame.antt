-- What the same bytes tell is the same.
use Rattle.std.proofs.Common.{◌≡◌, ℕ, zero, suc, ◌<◌, ◌↔◌, List, [], ◌∷◌, Contains, Ok, Result, length, get_or, arith, ap, ap₂, sym, subst, ◌∙◌, option_map}
use Rattle.std.specs.Prelude.{Option}
use Rattle.wp_model.specs.Warehouse.{Layout}
use Rattle.wp_model.specs.declared.point.Point.{Point}
use Rattle.wp_lengths.specs.Waves.{HaveSamePicks, WavePicks}
use Rattle.wp_graph.specs.PickSets.{PickSet}
use Rattle.wp_cert.specs.declared.text.form.Form.{Form}
use Rattle.wp_cert.specs.declared.text.form.WrittenSlot.{WrittenSlot}
use Rattle.wp_cert.specs.declared.tree.CertWhy.{CertWhy}
use Rattle.wp_cert.specs.declared.tree.Node.{Node}
use Rattle.wp_cuts.specs.Cuts.{CutParts}
use Rattle.wp_cert.specs.declared.tree.Tree.{Tree}
use Rattle.wp_cert.specs.Text.{IsSame, PickAt, Tells, certificate_said, cuts_written, loaded_cart}
use Rattle.wp_cert.proofs.TextPicks.{as_many}

each_at : (left right : List PickSet) (places : List (List WrittenSlot)) → PickAt left places → PickAt right places → (order : ℕ) (d : PickSet)
    → order < length left → (p : Point) → Contains (get_or left order d).points p ↔ Contains (get_or right order d).points p
each_at [] right places one other order d inside p = absurd (omega arith)
each_at (x ∷ xs) [] [] one other order d inside p = absurd one
each_at (x ∷ xs) [] (z ∷ zs) one other order d inside p = absurd other
each_at (x ∷ xs) (y ∷ ys) [] one other order d inside p = absurd one
each_at (x ∷ xs) (y ∷ ys) (z ∷ zs) one other zero d inside p =
    (λ has. (other.0 p).1 ((one.0 p).0 has), λ has. (one.0 p).1 ((other.0 p).0 has))
each_at (x ∷ xs) (y ∷ ys) (z ∷ zs) one other (suc order) d inside p = each_at xs ys zs one.1 other.1 order d (omega arith) p

-- orders that pick at the same places pick at the same slots
same_at : (left right : List PickSet) (places : List (List WrittenSlot)) → PickAt left places → PickAt right places → HaveSamePicks left right
same_at left right places one other = record {
  count = as_many left places one ∙ sym (as_many right places other);
  each = each_at left right places one other;
}

same_form : (one other : Form) (said : Result Form CertWhy) → said ≡ Ok one → said ≡ Ok other → one ≡ other
same_form one other said is also = cc (sym is ∙ also)

-- two certificates that the same bytes tell are the same
pub told_once : (layout : Layout) (bytes : List ℕ) (wave other : WavePicks) (capacity other_capacity : ℕ) (tree other_tree : Tree)
    → Tells layout bytes wave capacity tree → Tells layout bytes other other_capacity other_tree
    → IsSame wave other capacity other_capacity tree other_tree
told_once layout bytes wave other capacity other_capacity tree other_tree one also =
    let form = same_form one.form also.form (certificate_said layout bytes) one.said also.said in
    record {
      layout = one.layout_is ∙ sym also.layout_is;
      orders = same_at wave.orders other.orders one.form.orders one.orders_pick
          (subst (λ (f : Form). PickAt other.orders f.orders) (sym form) also.orders_pick);
      cart = one.cart_is ∙ ap (λ (f : Form). option_map loaded_cart f.cart) form ∙ sym also.cart_is;
      capacity_is = sym one.capacity_is ∙ subst (λ (f : Form). f.capacity ≡ other_capacity) (sym form) also.capacity_is;
      tree_is = ap₂ (λ (nodes : List Node) (cuts : Option (List CutParts)). let made : Tree = record { nodes = nodes; cuts = cuts } in made)
          (sym one.nodes_are ∙ subst (λ (f : Form). f.nodes ≡ other_tree.nodes) (sym form) also.nodes_are)
          (sym one.cuts_are ∙ subst (λ (f : Form). cuts_written f.terms ≡ other_tree.cuts) (sym form) also.cuts_are);
    }
