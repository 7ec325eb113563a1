-- A tree breaks one rule first, at one node.
use Rattle.std.proofs.Common.{◌≡◌, ℕ, ◌+◌, ◌<◌, ◌≤◌, true, false, List, [], length, arith, refl, ap, ap₂, sym, ◌∙◌, subst, ⊎_elim}
use Rattle.std.proofs.lemmas.Bool.{cases_lt}
use Rattle.wp_pairs.specs.Permitted.{Pairing}
use Rattle.wp_lengths.specs.Batchings.{no_pairs}
use Rattle.wp_lengths.specs.Waves.{WavePicks}
use Rattle.wp_cert.specs.declared.tree.CertFault.{CertFault}
use Rattle.wp_cert.specs.declared.tree.CertWhy.{CertWhy}
use Rattle.wp_cert.specs.declared.tree.CertWhy.TheVariants as why
use Rattle.wp_cert.specs.declared.tree.Node.{Node}
use Rattle.wp_cert.specs.declared.tree.Own.{Own}
use Rattle.wp_cert.specs.declared.tree.Tree.{Tree}
use Rattle.wp_cert.specs.Bounds.{TreesBreakOneRuleFirst}
use Rattle.wp_cert.specs.Refusals.{AreRefused, IsBroken, IsBrokenOwn, IsFirstBroken, IsFirstSlack, apart, bad_cuts, bad_pair, cut, decided, in_tree}
use Rattle.wp_cert.specs.Refusals.{kept_split, low, marks, nodes_left}
use Rattle.wp_cert.specs.Refusals.{not_all, not_dead, not_tight, own_leaf, own_split, together}
use Rattle.wp_cert.specs.Terms.{AreTermsFor, Terms, net_of, prices_of, terms_of}
use Rattle.wp_cert.specs.Trees.{IsRight, IsVisitOfAll, with_pair}
use Rattle.wp_lengths.specs.Duals.{IsSumOfShares}
use Rattle.wp_lengths.specs.Visits.{Passed, Place, TooMuch, Visit, Wrong}
use Rattle.wp_cuts.proofs.OneEnd.{one_visit}
use Rattle.wp_cert.proofs.OneOutcome.{marks_pass, none_broken, own_right, right_agree, right_cuts, same_shares, same_step}

-- why a visit refuses marks
abbrev why_of : Visit → CertWhy
why_of (TooMuch batch) = why.NotFeasible batch
why_of (Passed left) = why.BadMarks
why_of Wrong = why.BadMarks

module _ (terms : Terms) where
  -- a visit whose end tells why marks are refused
  abbrev RefusedBy : Pairing → Own → CertWhy → Type 0
  RefusedBy pairing own fault = (visit : Visit) × IsVisitOfAll terms pairing own visit × (fault ≡ why_of visit)

  refused_by : (pairing : Pairing) (own : Own) (fault : CertWhy) → AreRefused terms pairing own fault → RefusedBy pairing own fault
  refused_by pairing own (why.NotFeasible batch) refused = (TooMuch batch, refused, refl)
  refused_by pairing own why.BadMarks refused = ⊎_elim
      (λ wrong. let by : RefusedBy pairing own why.BadMarks = (Wrong, wrong, refl) in by)
      (λ more. let by : RefusedBy pairing own why.BadMarks = (Passed more.0, more.1, refl) in by) refused
  refused_by pairing own _ refused = absurd refused

  -- marks are refused for one reason
  one_refusal : (pairing : Pairing) (own : Own) (one other : CertWhy) → AreRefused terms pairing own one → AreRefused terms pairing own other → one ≡ other
  one_refusal pairing own one other first second =
      let by = refused_by pairing own one first in
      let also = refused_by pairing own other second in
      by.2 ∙ (ap why_of (one_visit terms.wave terms.wave (λ batch total long. long) pairing terms.cuts (prices_of own) (Place [] 0) own.marks by.0 also.0
      by.1 also.1) ∙ sym also.2)

  -- one order is the first whose batch isn't tight
  one_slack : (pairing : Pairing) (own : Own) (one other : ℕ) → IsFirstSlack terms pairing own one → IsFirstSlack terms pairing own other → one ≡ other
  one_slack pairing own one other first second = ⊎_elim
      (λ (less : one < other). absurd (first.slack (second.before one less)))
      (λ (ge : other ≤ one). ⊎_elim (λ (less : other < one). absurd (second.slack (first.before other less)))
      (λ (le : one ≤ other). let same : one ≡ other = omega (arith, ge, le) in same) (cases_lt other one)) (cases_lt one other)

  -- what a node has of its own breaks one rule
  one_own : (pairing : Pairing) (above : ℕ) (own : Own) (one other : CertWhy) → IsBrokenOwn terms pairing above own one
      → IsBrokenOwn terms pairing above own other → one ≡ other
  one_own pairing above own _ _ (not_all none) (not_all never) = refl
  one_own pairing above own _ _ (not_all none) (decided also is_too priced_too) = absurd (none also)
  one_own pairing above own _ _ (not_all none) (low also allowed_too under_too) = absurd (none also)
  one_own pairing above own _ other (not_all none) (marks also allowed_too raised_too refused_too) = absurd (none also)
  one_own pairing above own _ _ (not_all none) (not_tight {order = second} also allowed_too raised_too passed_too slack_too) = absurd (none also)
  one_own pairing above own _ _ (decided all is priced) (not_all never) = absurd (never all)
  one_own pairing above own _ _ (decided all is priced) (decided also is_too priced_too) = refl
  one_own pairing above own _ _ (decided all is priced) (low also allowed_too under_too) = absurd (priced (allowed_too is))
  one_own pairing above own _ other (decided all is priced) (marks also allowed_too raised_too refused_too) = absurd (priced (allowed_too is))
  one_own pairing above own _ _ (decided all is priced) (not_tight {order = second} also allowed_too raised_too passed_too slack_too) =
      absurd (priced (allowed_too is))
  one_own pairing above own _ _ (low all allowed under) (not_all never) = absurd (never all)
  one_own pairing above own _ _ (low all allowed under) (decided also is_too priced_too) = absurd (priced_too (allowed is_too))
  one_own pairing above own _ _ (low all allowed under) (low also allowed_too under_too) = refl
  one_own pairing above own _ other (low all allowed under) (marks also allowed_too raised_too refused_too) = absurd (omega (arith, under, raised_too))
  one_own pairing above own _ _ (low all allowed under) (not_tight {order = second} also allowed_too raised_too passed_too slack_too) =
      absurd (omega (arith, under, raised_too))
  one_own pairing above own one _ (marks all allowed raised refused) (not_all never) = absurd (never all)
  one_own pairing above own one _ (marks all allowed raised refused) (decided also is_too priced_too) = absurd (priced_too (allowed is_too))
  one_own pairing above own one _ (marks all allowed raised refused) (low also allowed_too under_too) = absurd (omega (arith, under_too, raised))
  one_own pairing above own one other (marks all allowed raised refused) (marks also allowed_too raised_too refused_too) =
      one_refusal pairing own one other refused refused_too
  one_own pairing above own one _ (marks all allowed raised refused) (not_tight {order = second} also allowed_too raised_too passed_too slack_too) =
      absurd (marks_pass terms terms.wave (λ batch total long. long) pairing own one passed_too refused)
  one_own pairing above own _ _ (not_tight {order = first} all allowed raised passed slack) (not_all never) = absurd (never all)
  one_own pairing above own _ _ (not_tight {order = first} all allowed raised passed slack) (decided also is_too priced_too) =
      absurd (priced_too (allowed is_too))
  one_own pairing above own _ _ (not_tight {order = first} all allowed raised passed slack) (low also allowed_too under_too) =
      absurd (omega (arith, under_too, raised))
  one_own pairing above own _ other (not_tight {order = first} all allowed raised passed slack) (marks also allowed_too raised_too refused_too) =
      absurd (marks_pass terms terms.wave (λ batch total long. long) pairing own other passed refused_too)
  one_own pairing above own _ _ (not_tight {order = first} all allowed raised passed slack) (not_tight {order = second} also allowed_too raised_too passed_too slack_too) =
      ap why.NotTight (one_slack pairing own first second slack slack_too)

  -- one rule is broken, at one of the nodes
  record Once (left others : List Node) (one other : CertWhy) : Type 0 where
    nodes : left ≡ others
    whys : one ≡ other

  one_broken : (pairing : Pairing) (above : ℕ) (nodes left others : List Node) (one other : CertWhy) → IsBroken terms pairing above nodes left one
      → IsBroken terms pairing above nodes others other → Once left others one other
  one_broken pairing above _ _ _ _ _ cut cut = record { nodes = refl; whys = refl }
  one_broken pairing above _ _ _ _ _ (not_dead none) (not_dead also) = record { nodes = refl; whys = refl }
  one_broken pairing above _ _ _ _ _ kept_split kept_split = record { nodes = refl; whys = refl }
  one_broken pairing above _ _ _ one other (own_leaf {own} broken) (own_leaf also) =
      record { nodes = refl; whys = one_own pairing above own one other broken also }
  one_broken pairing above _ _ _ one other (own_split {own} broken) (own_split also) =
      record { nodes = refl; whys = one_own pairing above own one other broken also }
  one_broken pairing above _ _ _ one _ (own_split {own} broken) (bad_pair right never) = absurd (own_right terms terms.wave (λ batch total long. long) pairing above own one right broken)
  one_broken pairing above _ _ _ one _ (own_split {own} broken) (together right parts more) = absurd (own_right terms terms.wave (λ batch total long. long) pairing above own one right broken)
  one_broken pairing above _ _ _ one _ (own_split {own} broken) (apart right parts passed more)
      = absurd (own_right terms terms.wave (λ batch total long. long) pairing above own one right broken)
  one_broken pairing above _ _ _ _ other (bad_pair {own} right never) (own_split broken) = absurd (own_right terms terms.wave (λ batch total long. long) pairing above own other right broken)
  one_broken pairing above _ _ _ _ _ (bad_pair right never) (bad_pair right_too never_too) = record { nodes = refl; whys = refl }
  one_broken pairing above _ _ _ _ _ (bad_pair right never) (together right_too parts more) = absurd (never parts)
  one_broken pairing above _ _ _ _ _ (bad_pair right never) (apart right_too parts passed more) = absurd (never parts)
  one_broken pairing above _ _ _ _ other (together {own} right parts more) (own_split broken)
      = absurd (own_right terms terms.wave (λ batch total long. long) pairing above own other right broken)
  one_broken pairing above _ _ _ _ _ (together right parts more) (bad_pair right_too never) = absurd (never parts)
  one_broken pairing above _ left others one other (together {first} {second} {own} {nodes} right parts more) (together right_too parts_too more_too) =
      one_broken (with_pair pairing first second true) (net_of terms own) nodes left others one other more more_too
  one_broken pairing above _ left others one other (together {first} {second} {own} {nodes} right parts more)
      (apart {between} {bound} right_too parts_too passed more_too) =
      absurd (none_broken terms terms.wave (λ batch total long. long) (with_pair pairing first second true) (net_of terms own) nodes between left bound one passed more)
  one_broken pairing above _ _ _ _ other (apart {own} right parts passed more) (own_split broken) =
      absurd (own_right terms terms.wave (λ batch total long. long) pairing above own other right broken)
  one_broken pairing above _ _ _ _ _ (apart right parts passed more) (bad_pair right_too never) = absurd (never parts)
  one_broken pairing above _ left others one other (apart {first} {second} {own} {nodes} {between} {bound} right parts passed more)
      (together right_too parts_too more_too) =
      absurd (none_broken terms terms.wave (λ batch total long. long) (with_pair pairing first second true) (net_of terms own) nodes between others bound other passed more_too)
  one_broken pairing above _ left others one other (apart {first} {second} {own} {nodes} {between} {bound} right parts passed more)
      (apart {between = middle} {bound = found} right_too parts_too passed_too more_too) =
      let same = right_agree terms terms.wave (with_pair pairing first second true) (net_of terms own) nodes between middle bound found passed passed_too in
      one_broken (with_pair pairing first second false) (net_of terms own) between left others one other more
      (subst (λ (ns : List Node). IsBroken terms (with_pair pairing first second false) (net_of terms own) ns others other) (sym same.nodes) more_too)

  -- faults of one node and one rule are one
  same_fault : (nodes left others : List Node) (one other : CertFault) → left ≡ others → one.why ≡ other.why → one.node + length left ≡ length nodes
      → other.node + length others ≡ length nodes → one ≡ other
  same_fault nodes left others one other same whys here there =
      let place : one.node ≡ other.node = omega (arith, here, there, ap (λ (ns : List Node). length ns) same) in
      ap₂ (λ (n : ℕ) (w : CertWhy). let fault : CertFault = record { node = n; why = w } in fault) place whys

-- what holds with the step and the shares that are found once holds with those that are found before
moved : (wave : WavePicks) (capacity : ℕ) (tree : Tree) (one two here there : ℕ) → AreTermsFor wave tree.cuts one → AreTermsFor wave tree.cuts two
    → IsSumOfShares wave capacity here → IsSumOfShares wave capacity there → (P : Terms → ℕ → Type 0) → P (terms_of wave capacity tree.cuts two) there
    → P (terms_of wave capacity tree.cuts one) here
moved wave capacity tree one two here there are too sums sums_too P is =
    subst (λ (n : ℕ). P (terms_of wave capacity tree.cuts n) here) (same_step wave wave tree.cuts two one refl too are)
    (subst (λ (s : ℕ). P (terms_of wave capacity tree.cuts two) s) (same_shares wave capacity there here sums_too sums) is)

-- a tree breaks one rule first
pub one_fault : TreesBreakOneRuleFirst
one_fault = λ wave capacity tree one other first second. once wave capacity tree one other first second
  where
    once : (wave : WavePicks) (capacity : ℕ) (tree : Tree) (one other : CertFault) → IsFirstBroken wave capacity tree one
        → IsFirstBroken wave capacity tree other → one ≡ other
    once wave capacity tree one other (bad_cuts bad here) (bad_cuts bad_too there) =
        ap₂ (λ (n : ℕ) (w : CertWhy). let fault : CertFault = record { node = n; why = w } in fault) (here ∙ sym there) (bad.because ∙ sym bad_too.because)
    once wave capacity tree one other (bad_cuts bad here) (in_tree {step} are sums broken there) =
        absurd (bad.bad (right_cuts wave tree.cuts bad.cuts step bad.is are))
    once wave capacity tree one other (bad_cuts bad here) (nodes_left {step} are sums right some there is) =
        absurd (bad.bad (right_cuts wave tree.cuts bad.cuts step bad.is are))
    once wave capacity tree one other (in_tree {step} are sums broken here) (bad_cuts bad there) =
        absurd (bad.bad (right_cuts wave tree.cuts bad.cuts step bad.is are))
    once wave capacity tree one other (nodes_left {step} are sums right some here is) (bad_cuts bad there) =
        absurd (bad.bad (right_cuts wave tree.cuts bad.cuts step bad.is are))
    once wave capacity tree one other (in_tree {step} {shares} {left} are sums broken here)
        (in_tree {step = step_too} {shares = shares_too} {left = others} are_too sums_too broken_too there) =
        let both = one_broken (terms_of wave capacity tree.cuts step) (no_pairs wave capacity) shares tree.nodes left others one.why other.why broken
        (moved wave capacity tree step step_too shares shares_too are are_too sums sums_too (λ t s. IsBroken t (no_pairs wave capacity) s tree.nodes others
        other.why) broken_too) in
        same_fault (terms_of wave capacity tree.cuts step) tree.nodes left others one other both.nodes both.whys here there
    once wave capacity tree one other (in_tree {step} {shares} {left} are sums broken here)
        (nodes_left {step = step_too} {shares = shares_too} {left = others} {bound} are_too sums_too right some there is) =
        absurd (none_broken (terms_of wave capacity tree.cuts step) wave (λ batch total long. long) (no_pairs wave capacity) shares tree.nodes others left bound
        one.why (moved wave capacity tree step step_too shares shares_too are are_too sums sums_too
        (λ t s. IsRight t (no_pairs wave capacity) s tree.nodes others bound) right) broken)
    once wave capacity tree one other (nodes_left {step} {shares} {left} {bound} are sums right some here is)
        (in_tree {step = step_too} {shares = shares_too} {left = others} are_too sums_too broken there) =
        absurd (none_broken (terms_of wave capacity tree.cuts step) wave (λ batch total long. long) (no_pairs wave capacity) shares tree.nodes left others bound
        other.why right (moved wave capacity tree step step_too shares shares_too are are_too sums sums_too
        (λ t s. IsBroken t (no_pairs wave capacity) s tree.nodes others other.why) broken))
    once wave capacity tree one other (nodes_left {step} {shares} {left} {bound} are sums right some here is)
        (nodes_left {step = step_too} {shares = shares_too} {left = others} {bound = found} are_too sums_too right_too some_too there is_too) =
        let both = right_agree (terms_of wave capacity tree.cuts step) wave (no_pairs wave capacity) shares tree.nodes left others bound found right
        (moved wave capacity tree step step_too shares shares_too are are_too sums sums_too (λ t s. IsRight t (no_pairs wave capacity) s tree.nodes others
        found) right_too) in
        same_fault (terms_of wave capacity tree.cuts step) tree.nodes left others one other both.nodes (is ∙ sym is_too) here there
