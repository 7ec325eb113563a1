-- Ways to a node: what follows for the tree at the root from the subtree at the node.
use Rattle.std.proofs.Common.{◌≡◌, ℕ, Bool, true, false, List, [], ◌∷◌, ◌++◌, length, drop, arith, refl, ap, sym, ◌∙◌, subst}
use Rattle.std.specs.Prelude.{Option, Some}
use Rattle.std.proofs.lemmas.List.{length_push, same_from_push}
use Rattle.wp_pairs.specs.declared.pair.OrderPair.{OrderPair}
use Rattle.wp_cert.specs.declared.tree.CertFault.{CertFault}
use Rattle.wp_cert.specs.declared.tree.Node.{Node}
use Rattle.wp_cert.specs.declared.way.Note.{Note}
use Rattle.wp_cert.specs.Paths.{IsPath, IsRefusedFrom, pairing_of}
use Rattle.wp_cert.specs.Terms.{Terms}
use Rattle.wp_cert.specs.Trees.{IsRight, lower_of}
use Rattle.wp_cert.specs.Ways.{IsDone, IsWay, at_root, in_first, in_second}
use Rattle.wp_cert.proofs.PathSteps.{empty_path, longer_path}
use Rattle.wp_cert.proofs.TreeSteps.{apart_refused, split_right, together_refused}

-- the pair of a split, as it goes together or apart
abbrev paired : OrderPair → Bool → OrderPair
paired pair together = record { first = pair.first; second = pair.second; together = together }

same_pair : (pair : OrderPair) (together : Bool) → pair.together ≡ together → pair ≡ paired pair together
same_pair pair together is = ap (λ (t : Bool). record { first = pair.first; second = pair.second; together = t }) is

module _ (terms : Terms) (capacity : ℕ) (nodes : List Node) (shares : ℕ) where
  -- the pairs on a way are a path
  pub way_path : (pairs : List OrderPair) (notes : List Note) (above at : ℕ) → IsWay terms capacity nodes shares pairs notes above at
      → IsPath terms.wave capacity pairs
  way_path _ _ _ _ at_root = empty_path terms.wave capacity
  way_path pairs _ _ _ (in_first {path} {notes} {pair} {above} {at} note way here split side same _) =
      subst (λ (ps : List OrderPair). IsPath terms.wave capacity ps) (sym same)
      (longer_path terms.wave capacity path pair.first pair.second pair.together (way_path path notes above at way) split.right.parts)
  way_path pairs _ _ _ (in_second {path} {notes} {pair} {above} {at} note way here split side right same _) =
      subst (λ (ps : List OrderPair). IsPath terms.wave capacity ps) (sym same)
      (longer_path terms.wave capacity path pair.first pair.second pair.together (way_path path notes above at way) split.right.parts)

  -- each has a note
  pub way_even : (pairs : List OrderPair) (notes : List Note) (above at : ℕ) → IsWay terms capacity nodes shares pairs notes above at
      → length pairs ≡ length notes
  way_even _ _ _ _ at_root = refl
  way_even _ _ _ _ (in_first {path} {notes} {pair} {above} {at} note way here split side same also) =
      omega (arith, way_even path notes above at way, ap length same, ap length also, length_push path pair, length_push notes note)
  way_even _ _ _ _ (in_second {path} {notes} {pair} {above} {at} note way here split side right same also) =
      omega (arith, way_even path notes above at way, ap length same, ap length also, length_push path pair, length_push notes note)

  -- where a subtree is refused, the tree at the root is
  pub way_refused : (pairs : List OrderPair) (notes : List Note) (above at : ℕ) (fault : CertFault) → IsWay terms capacity nodes shares pairs notes above at
      → IsRefusedFrom terms (pairing_of terms.wave capacity pairs) above nodes at fault
      → IsRefusedFrom terms (pairing_of terms.wave capacity []) shares nodes 0 fault
  way_refused _ _ _ _ fault at_root refused = refused
  way_refused pairs _ total next fault (in_first {path} {notes} {pair} {above} {at} note way here split side same _) refused =
      way_refused path notes above at fault way
      (together_refused terms (pairing_of terms.wave capacity path) above pair.first pair.second note.total at split.given nodes
      (here ∙ ap (λ (n : Node). Some n) split.is) split.right fault
      (subst (λ (ps : List OrderPair). IsRefusedFrom terms (pairing_of terms.wave capacity ps) total nodes next fault)
      (same ∙ ap (λ (p : OrderPair). path ++ p ∷ []) (same_pair pair true side)) refused))
  way_refused pairs _ total next fault (in_second {path} {notes} {pair} {above} {at} note way here split side right same _) refused =
      way_refused path notes above at fault way
      (apart_refused terms (pairing_of terms.wave capacity path) above pair.first pair.second note.total at split.given nodes
      (here ∙ ap (λ (n : Node). Some n) split.is) split.right next note.first fault right
      (subst (λ (ps : List OrderPair). IsRefusedFrom terms (pairing_of terms.wave capacity ps) total nodes next fault)
      (same ∙ ap (λ (p : OrderPair). path ++ p ∷ []) (same_pair pair false side)) refused))

  module _ (path : List OrderPair) (others : List Note) (pair : OrderPair) (note : Note) (next : ℕ) (bound : Option ℕ) where
    -- where the first subtree of the last split is right, the second is due
    pub second_due : (pairs : List OrderPair) (notes : List Note) (above at : ℕ) (onward : List OrderPair) (kept : List Note) → pairs ≡ path ++ pair ∷ []
        → notes ≡ others ++ note ∷ [] → pair.together ≡ true → onward ≡ path ++ paired pair false ∷ []
        → kept ≡ others ++ record { total = note.total; first = bound } ∷ [] → IsWay terms capacity nodes shares pairs notes above at
        → IsRight terms (pairing_of terms.wave capacity pairs) above (drop at nodes) (drop next nodes) bound
        → IsWay terms capacity nodes shares onward kept note.total next
    second_due _ _ _ _ onward kept ends noted is turned told at_root right
        = absurd (omega (arith, ap (λ (ps : List OrderPair). length ps) ends, length_push path pair))
    second_due _ _ above at onward kept ends noted is turned told
        (in_first {path = before} {notes = told_before} {pair = last} said way here split side same also) right =
        let p = same_from_push before path last pair (sym same ∙ ends) in
        let n = same_from_push told_before others said note (sym also ∙ noted) in
        let total = ap (λ (m : Note). m.total) n.1 in
        subst (λ (t : ℕ). IsWay terms capacity nodes shares onward kept t next) total
        (in_second {pair = paired last false} (record { total = said.total; first = bound }) way here
        (record { given = split.given; is = split.is; right = split.right }) refl
        (subst (λ (ps : List OrderPair). IsRight terms (pairing_of terms.wave capacity ps) above (drop at nodes) (drop next nodes) bound)
        (same ∙ ap (λ (q : OrderPair). before ++ q ∷ []) (same_pair last true side)) right)
        (turned ∙ (ap (λ (ps : List OrderPair). ps ++ paired pair false ∷ []) (sym p.0) ∙ ap (λ (q : OrderPair). before ++ paired q false ∷ []) (sym p.1)))
        (told ∙ (ap (λ (ms : List Note). ms ++ record { total = note.total; first = bound } ∷ []) (sym n.0)
        ∙ ap (λ (t : ℕ). told_before ++ record { total = t; first = bound } ∷ []) (sym total))))
    second_due _ _ _ _ onward kept ends noted is turned told (in_second {path = before} {pair = last} said way here split side left same also) right =
        let p = same_from_push before path last pair (sym same ∙ ends) in absurd (cc (sym side ∙ (ap (λ (q : OrderPair). q.together) p.1 ∙ is)))

    -- where the second one is, the split is right
    pub split_done : (pairs : List OrderPair) (notes : List Note) (above at : ℕ) (lower : Option ℕ) → pairs ≡ path ++ pair ∷ [] → notes ≡ others ++ note ∷ []
        → pair.together ≡ false → lower ≡ lower_of note.first bound → IsWay terms capacity nodes shares pairs notes above at
        → IsRight terms (pairing_of terms.wave capacity pairs) above (drop at nodes) (drop next nodes) bound
        → IsDone terms capacity nodes shares path others next lower
    split_done _ _ _ _ lower ends noted is least at_root right = absurd (omega (arith, ap (λ (ps : List OrderPair). length ps) ends, length_push path pair))
    split_done _ _ _ _ lower ends noted is least (in_first {path = before} {pair = last} said way here split side same also) right =
        let p = same_from_push before path last pair (sym same ∙ ends) in absurd (cc (sym side ∙ (ap (λ (q : OrderPair). q.together) p.1 ∙ is)))
    split_done _ _ above at lower ends noted is least
        (in_second {path = before} {notes = told_before} {pair = last} {above = over} {at = there} said way here split side left same also) right =
        let p = same_from_push before path last pair (sym same ∙ ends) in
        let n = same_from_push told_before others said note (sym also ∙ noted) in
        let pairing = pairing_of terms.wave capacity before in
        let second = subst (λ (ps : List OrderPair). IsRight terms (pairing_of terms.wave capacity ps) above (drop at nodes) (drop next nodes) bound)
        (same ∙ ap (λ (q : OrderPair). before ++ q ∷ []) (same_pair last false side)) right in
        let whole = split_right terms pairing over last.first last.second said.total there split.given nodes (here ∙ ap (λ (m : Node). Some m) split.is)
        split.right at next said.first bound lower left second
        (least ∙ ap (λ (m : Note). lower_of m.first bound) (sym n.1)) in record {
          above = over;
          at = there;
          way = subst (λ (ms : List Note). IsWay terms capacity nodes shares path ms over there) n.0
              (subst (λ (ps : List OrderPair). IsWay terms capacity nodes shares ps told_before over there) p.0 way);
          right = subst (λ (ps : List OrderPair). IsRight terms (pairing_of terms.wave capacity ps) over (drop there nodes) (drop next nodes) lower) p.0
              whole;
        }

  -- without a split on the way, the tree at the root is right
  pub root_done : (pairs : List OrderPair) (notes : List Note) (above at next : ℕ) (bound : Option ℕ) → pairs ≡ []
      → IsWay terms capacity nodes shares pairs notes above at
      → IsRight terms (pairing_of terms.wave capacity pairs) above (drop at nodes) (drop next nodes) bound
      → IsRight terms (pairing_of terms.wave capacity []) shares nodes (drop next nodes) bound
  root_done _ _ _ _ next bound none at_root right = right
  root_done _ _ _ _ next bound none (in_first {path} {pair} note way here split side same also) right =
      absurd (omega (arith, ap (λ (ps : List OrderPair). length ps) (sym same ∙ none), length_push path pair))
  root_done _ _ _ _ next bound none (in_second {path} {pair} note way here split side left same also) right =
      absurd (omega (arith, ap (λ (ps : List OrderPair). length ps) (sym same ∙ none), length_push path pair))
