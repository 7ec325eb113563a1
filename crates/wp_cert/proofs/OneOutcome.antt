-- A tree that is right is not refused, also not for another wave whose batches have the same lengths, and has one bound: visits have one outcome, and so
-- has each test.
use Rattle.std.proofs.Common.{◌≡◌, ℕ, ◌*◌, ◌/◌, inl, inr, Bool, true, false, List, [], ◌∷◌, length, arith, refl, ap, sym, ◌∙◌, subst}
use Rattle.std.specs.Prelude.{Option, Some, None, slice_index, slice_index_or}
use Rattle.wp_model.specs.Warehouse.{Layout}
use Rattle.wp_pairs.specs.Permitted.{Pairing}
use Rattle.wp_lengths.specs.Batchings.{no_pairs}
use Rattle.wp_lengths.specs.Waves.{WavePicks}
use Rattle.wp_lengths.specs.Duals.{IsSumOfShares}
use Rattle.wp_lengths.specs.Visits.{Passed, Place, TooMuch, Wrong}
use Rattle.wp_lengths.proofs.FewerOrders.{same_length}
use Rattle.wp_lengths.proofs.OrderSums.{same_below, sum_below, sum_of_places}
use Rattle.wp_cuts.specs.Cuts.{CutParts}
use Rattle.wp_cuts.specs.PricedVisits.{HaveSameLengths}
use Rattle.wp_cuts.specs.Steps.{IsLayoutStep, IsRoundedUp}
use Rattle.wp_cuts.proofs.ComputedSteps.{one_step}
use Rattle.wp_cuts.proofs.OneEnd.{one_visit}
use Rattle.wp_cert.specs.declared.tree.CertFault.{CertFault}
use Rattle.wp_cert.specs.declared.tree.CertWhy.{CertWhy}
use Rattle.wp_cert.specs.declared.tree.CertWhy.TheVariants as why
use Rattle.wp_cert.specs.declared.tree.Node.{Node}
use Rattle.wp_cert.specs.declared.tree.Own.{Own}
use Rattle.wp_cert.specs.declared.tree.Tree.{Tree}
use Rattle.wp_cert.specs.Refusals.{AreRefused, IsBroken, IsBrokenOwn, IsFirstBroken, apart, bad_cuts, bad_pair, decided, in_tree, low, marks, nodes_left}
use Rattle.wp_cert.specs.Refusals.{not_all, not_dead, not_tight, own_leaf, own_split, together}
use Rattle.wp_cert.specs.Terms.{AreCuts, AreTermsFor, Terms, net_of, prices_of, terms_of}
use Rattle.wp_cert.specs.Trees.{HasAll, IsBoundOf, IsRight, IsRightOwn, IsTightBatch, IsVisitOfAll, dead, kept, leaf, lower_of, split, with_pair}

-- the same terms for another wave
abbrev pub on_wave : WavePicks → Terms → Terms
on_wave other terms = record { wave = other; step = terms.step; cuts = terms.cuts; batches = terms.batches }

-- sixtieths are rounded up to one multiple
pub one_rounding : (step sixtieths one two : ℕ) → IsRoundedUp step sixtieths one → IsRoundedUp step sixtieths two → one ≡ two
one_rounding step sixtieths one two first second =
    omega (arith, first.least two second.multiple second.enough, second.least one first.multiple first.enough)

-- two right trees at one place of the nodes, whether for one wave or for two, end at one place, with one bound
pub record Agree (rest others : List Node) (bound other : Option ℕ) : Type 0 where
  pub nodes : rest ≡ others
  pub bounds : bound ≡ other

module _ (terms : Terms) (other : WavePicks) where
  pub right_agree : (pairing : Pairing) (above : ℕ) (nodes rest others : List Node) (bound found : Option ℕ) → IsRight terms pairing above nodes rest bound
      → IsRight (on_wave other terms) pairing above nodes others found → Agree rest others bound found
  right_agree pairing above _ _ _ _ _ (kept {bound} rounded) (kept {bound = found} too) =
      record { nodes = refl; bounds = ap (λ (b : ℕ). Some b) (one_rounding terms.step above bound found rounded too) }
  right_agree pairing above _ _ _ _ _ (leaf {bound} {own} right rounded) (leaf {bound = found} right_too too) =
      record { nodes = refl; bounds = ap (λ (b : ℕ). Some b) (one_rounding terms.step (net_of terms own) bound found rounded too) }
  right_agree pairing above _ _ _ _ _ (dead is) (dead is_too) = record { nodes = refl; bounds = refl }
  right_agree pairing above _ rest others _ _ (split {first} {second} {own} {nodes} {between} {left} {right} own_right parts l r)
      (split {between = middle} {left = left_too} {right = right_too} own_too parts_too l_too r_too) =
      let one = right_agree (with_pair pairing first second true) (net_of terms own) nodes between middle left left_too l l_too in
      let two = right_agree (with_pair pairing first second false) (net_of terms own) between rest others right right_too r
      (subst (λ (ns : List Node). IsRight (on_wave other terms) (with_pair pairing first second false) (net_of terms own) ns others right_too) (sym one.nodes)
      r_too) in record {
        nodes = two.nodes;
        bounds = ap (λ (b : Option ℕ). lower_of b right) one.bounds ∙ ap (λ (b : Option ℕ). lower_of left_too b) two.bounds;
      }

  module _ (same : HaveSameLengths terms.wave other) where
    -- marks that pass are not refused
    pub marks_pass : (pairing : Pairing) (own : Own) (fault : CertWhy) → IsVisitOfAll terms pairing own (Passed [])
        → AreRefused (on_wave other terms) pairing own fault → ⊥
    marks_pass pairing own (why.NotFeasible batch) passed refused =
        cc (one_visit terms.wave other same pairing terms.cuts (prices_of own) (Place [] 0) own.marks (Passed []) (TooMuch batch) passed refused)
    marks_pass pairing own why.BadMarks passed (inl wrong) =
        cc (one_visit terms.wave other same pairing terms.cuts (prices_of own) (Place [] 0) own.marks (Passed []) Wrong passed wrong)
    marks_pass pairing own why.BadMarks passed (inr (left, more, some)) =
        let e = one_visit terms.wave other same pairing terms.cuts (prices_of own) (Place [] 0) own.marks (Passed []) (Passed left) passed more in
        let none : [] ≡ left = cc e in omega (arith, ap (λ (xs : List Bool). length xs) none, some)
    marks_pass pairing own _ passed refused = absurd refused

    -- a batch that is tight in the one wave is so in the other
    tight_too : (pairing : Pairing) (own : Own) (order : ℕ) (batch : List ℕ) → IsTightBatch terms pairing own order batch
        → IsTightBatch (on_wave other terms) pairing own order batch
    tight_too pairing own order batch tight = record {
      permitted = tight.permitted;
      holds = tight.holds;
      total = tight.total;
      long = same batch tight.total tight.long;
      equal = tight.equal;
    }

    all_too : (pairing : Pairing) (own : Own) → HasAll terms pairing own → HasAll (on_wave other terms) pairing own
    all_too pairing own all = record { duals = all.duals; tight = all.tight; prices = all.prices }

    -- what is right at a node breaks no rule
    pub own_right : (pairing : Pairing) (above : ℕ) (own : Own) (fault : CertWhy) → IsRightOwn terms pairing above own
        → IsBrokenOwn (on_wave other terms) pairing above own fault → ⊥
    own_right pairing above own _ right (not_all none) = none (all_too pairing own right.all)
    own_right pairing above own _ right (decided all is priced) = priced (right.allowed is)
    own_right pairing above own _ right (low all allowed less) = omega (arith, less, right.raised)
    own_right pairing above own fault right (marks all allowed raised refused) = marks_pass pairing own fault right.marked refused
    own_right pairing above own _ right (not_tight {order} all allowed raised passed first) =
        first.slack (tight_too pairing own order (slice_index_or own.tight order []) (right.shown order first.known))

    -- a right tree breaks no rule
    pub none_broken : (pairing : Pairing) (above : ℕ) (nodes rest left : List Node) (bound : Option ℕ) (fault : CertWhy)
        → IsRight terms pairing above nodes rest bound → IsBroken (on_wave other terms) pairing above nodes left fault → ⊥
    none_broken pairing above _ rest left _ fault (kept rounded) broken = elim broken [ ]
    none_broken pairing above _ rest _ _ _ (dead is) (not_dead none) = none is
    none_broken pairing above _ rest _ _ fault (leaf {own} right rounded) (own_leaf broken) = own_right pairing above own fault right broken
    none_broken pairing above _ rest _ _ fault (split {own} right parts l r) (own_split broken) = own_right pairing above own fault right broken
    none_broken pairing above _ rest _ _ _ (split right parts l r) (bad_pair also none) = none parts
    none_broken pairing above _ rest left _ fault (split {first} {second} {own} {nodes} {between} {left = one} right parts l r)
        (together also too broken) =
        none_broken (with_pair pairing first second true) (net_of terms own) nodes between left one fault l broken
    none_broken pairing above _ rest left _ fault (split {first} {second} {own} {nodes} {between} {left = one} {right = two} right parts l r)
        (apart {between = middle} {bound} also too passed broken) =
        none_broken (with_pair pairing first second false) (net_of terms own) between rest left two fault r
        (subst (λ (ns : List Node). IsBroken (on_wave other terms) (with_pair pairing first second false) (net_of terms own) ns left fault)
        (sym (right_agree (with_pair pairing first second true) (net_of terms own) nodes between middle one bound l passed).nodes) broken)

-- a tree has one step
pub same_step : (wave other : WavePicks) (cuts : Option (List CutParts)) (one two : ℕ) → wave.layout ≡ other.layout → AreTermsFor wave cuts one
    → AreTermsFor other cuts two → one ≡ two
same_step wave other None one two layout first second = first ∙ sym second
same_step wave other (Some cuts) one two layout first second =
    one_step wave.layout one two first.2 (subst (λ (l : Layout). IsLayoutStep l two) (sym layout) second.2)

-- its cuts are cuts of the wave's orders
pub right_cuts : (wave : WavePicks) (given : Option (List CutParts)) (cuts : List CutParts) (step : ℕ) → given ≡ Some cuts → AreTermsFor wave given step
    → AreCuts (length wave.orders) cuts
right_cuts wave given cuts step is are = (subst (λ (g : Option (List CutParts)). AreTermsFor wave g step) is are).1

-- the share duals come to one number
pub same_shares : (wave : WavePicks) (capacity one other : ℕ) → IsSumOfShares wave capacity one → IsSumOfShares wave capacity other → one ≡ other
same_shares wave capacity one other first second =
    let same = same_below (slice_index first.0) (slice_index second.0) (length wave.orders) (λ k within.
    let a = first.1.each k within in
    let b = second.1.each k within in
    a.is ∙ (ap (λ (t : ℕ). 60 * t / capacity) (same_length wave (k ∷ []) a.total b.total a.alone b.alone) ∙ sym b.is)) in
    sym first.2 ∙ (sum_of_places first.0 ∙ (ap (λ (n : ℕ). sum_below (slice_index first.0) n) first.1.count
    ∙ (same ∙ (ap (λ (n : ℕ). sum_below (slice_index second.0) n) (sym second.1.count) ∙ (sym (sum_of_places second.0) ∙ second.2)))))

-- a whole tree is not both right and refused
pub whole_not_broken : (wave : WavePicks) (capacity : ℕ) (tree : Tree) (bound : ℕ) (fault : CertFault) → IsBoundOf wave capacity tree bound
    → IsFirstBroken wave capacity tree fault → ⊥
whole_not_broken wave capacity tree bound fault right (bad_cuts bad numbered) = bad.bad (right_cuts wave tree.cuts bad.cuts right.0 bad.is right.2)
whole_not_broken wave capacity tree bound fault right (in_tree {step} {shares} {left} are sums broken numbered) =
    let steps = same_step wave wave tree.cuts step right.0 refl are right.2 in
    none_broken (terms_of wave capacity tree.cuts right.0) wave (λ batch total long. long) (no_pairs wave capacity) right.1 tree.nodes [] left (Some bound)
    fault.why right.4
    (subst (λ (n : ℕ). IsBroken (terms_of wave capacity tree.cuts n) (no_pairs wave capacity) right.1 tree.nodes left fault.why) steps
    (subst (λ (s : ℕ). IsBroken (terms_of wave capacity tree.cuts step) (no_pairs wave capacity) s tree.nodes left fault.why)
    (same_shares wave capacity shares right.1 sums right.3) broken))
whole_not_broken wave capacity tree bound fault right (nodes_left {step} {shares} {left} {bound = other} are sums also some numbered because) =
    let steps = same_step wave wave tree.cuts step right.0 refl are right.2 in
    let same = right_agree (terms_of wave capacity tree.cuts right.0) wave (no_pairs wave capacity) right.1 tree.nodes [] left (Some bound) other right.4
    (subst (λ (n : ℕ). IsRight (terms_of wave capacity tree.cuts n) (no_pairs wave capacity) right.1 tree.nodes left other) steps
    (subst (λ (s : ℕ). IsRight (terms_of wave capacity tree.cuts step) (no_pairs wave capacity) s tree.nodes left other)
    (same_shares wave capacity shares right.1 sums right.3) also)) in
    let none = ap (λ (ns : List Node). length ns) same.nodes in omega (arith, none, some)

-- the number in a bound
number_of : Option ℕ → ℕ
number_of None = 0
number_of (Some bound) = bound

pub same_number : (one other : ℕ) → Some one ≡ Some other → one ≡ other
unfolding number_of
same_number one other e = ap number_of e

-- a whole tree has one bound
pub whole_agree : (wave : WavePicks) (capacity : ℕ) (tree : Tree) (one other : ℕ) → IsBoundOf wave capacity tree one → IsBoundOf wave capacity tree other
    → one ≡ other
whole_agree wave capacity tree one other first second =
    let steps = same_step wave wave tree.cuts second.0 first.0 refl second.2 first.2 in
    let same = right_agree (terms_of wave capacity tree.cuts first.0) wave (no_pairs wave capacity) first.1 tree.nodes [] [] (Some one) (Some other) first.4
    (subst (λ (n : ℕ). IsRight (terms_of wave capacity tree.cuts n) (no_pairs wave capacity) first.1 tree.nodes [] (Some other)) steps
    (subst (λ (s : ℕ). IsRight (terms_of wave capacity tree.cuts second.0) (no_pairs wave capacity) s tree.nodes [] (Some other))
    (same_shares wave capacity second.1 first.1 second.3 first.3) second.4)) in
    same_number one other same.bounds
