-- The summary at the root of a tree: that of all aisles, which gives the length of a shortest tour.
use Rattle.std.proofs.Common.{◌≡◌, ℕ, suc, ◌+◌, ◌-◌, ◌*◌, ◌≤◌, List, Option, get_or, arith, refl, subst}
use Rattle.wp_model.specs.declared.point.Point.{Point}
use Rattle.wp_model.specs.Warehouse.{IsLayout, IsUpTo, Layout}
use Rattle.wp_classes.specs.declared.class.Class.{Class}
use Rattle.wp_classes.specs.declared.class.Class.TheVariants.{Z00}
use Rattle.wp_classes.specs.Choices.{block_of}
use Rattle.wp_classes.specs.Onward.{IsLeastOf}
use Rattle.wp_classes.proofs.Routes.{IsLeastFirst}
use Rattle.wp_fast.specs.declared.summary.Summary.{Summary}
use Rattle.wp_fast.specs.Passages.{AreLeast, Then, ToTheEnd}
use Rattle.wp_fast.specs.Runs.{PastAisle, PastRun}
use Rattle.wp_fast.specs.Trees.{IsTree}
use Rattle.wp_fast.proofs.Composing.{composed_least, least_alike, least_past}
use Rattle.wp_fast.proofs.JoinedRuns.{first_run, none_run, run_first, run_none, run_parts, runs_join}
use Rattle.wp_fast.proofs.WholeRuns.{first_of_run}

-- each node with so many aisles below it, from the first one on, has the least lengths past them
abbrev Spans : Layout → List Point → List Summary → ℕ → Type 0
Spans layout picks tree span = (node first : ℕ) (d : Summary) → first + 63 ≡ span * node → 1 ≤ first → first ≤ 64
    → AreLeast (PastRun layout picks span first) (get_or tree node d)

-- a run of one aisle is that aisle
run_of_one : (layout : Layout) (picks : List Point) (aisle : ℕ) (summary : Summary) → AreLeast (PastAisle layout picks aisle) summary
    → AreLeast (PastRun layout picks 1 aisle) summary
run_of_one layout picks aisle summary are =
    least_alike (PastAisle layout picks aisle) (PastRun layout picks 1 aisle) summary
    (λ before after t h. first_run layout picks 0 aisle before after t
    (after, (t, 0, h, none_run layout picks (suc aisle) after after 0 (refl, refl), omega arith)))
    (λ before after t h. one before after t (run_first layout picks 0 aisle before after t h)) are
  where
    one : (before after : Class) (t : ℕ) → Then (PastAisle layout picks aisle) (PastRun layout picks 0 (suc aisle)) before after t
        → PastAisle layout picks aisle before after t
    one before after t (between, (near, far, first, rest, total)) =
        let stays = run_none layout picks (suc aisle) between after far rest in
        let length : near ≡ t = omega (arith, total, stays.1) in
        subst (λ (s : ℕ). PastAisle layout picks aisle before after s) length
        (subst (λ (c : Class). PastAisle layout picks aisle before c near) stays.0 first)

single_spans : (layout : Layout) (picks : List Point) (tree : List Summary) → IsTree layout picks tree → Spans layout picks tree 1
single_spans layout picks tree is node first d at low high =
    let there : 63 + first ≡ node = omega (arith, at) in
    run_of_one layout picks first (get_or tree node d)
    (subst (λ (k : ℕ). AreLeast (PastAisle layout picks first) (get_or tree k d)) there (is.aisles first (low, high) d))

-- a node has twice as many aisles below it as each of the two nodes below it
double_spans : (layout : Layout) (picks : List Point) (tree : List Summary) (span : ℕ) → IsTree layout picks tree → Spans layout picks tree span →
    ((node first : ℕ) → first + 63 ≡ (span + span) * node → 1 ≤ first → first ≤ 64 → IsUpTo 63 node × (first + span ≤ 64))
    → Spans layout picks tree (span + span)
double_spans layout picks tree span is below fits node first d at low high =
    let within = fits node first at low high in
    let left : AreLeast (PastRun layout picks span first) (get_or tree (2 * node) d) = below (2 * node) first d (omega (arith, at)) low high in
    let right : AreLeast (PastRun layout picks span (first + span)) (get_or tree (2 * node + 1) d) =
    below (2 * node + 1) (first + span) d (omega (arith, at)) (omega (arith, low)) within.1 in
    least_alike (Then (PastRun layout picks span first) (PastRun layout picks span (first + span))) (PastRun layout picks (span + span) first)
    (get_or tree node d)
    (runs_join layout picks span span first) (run_parts layout picks span span first)
    (composed_least (PastRun layout picks span first) (PastRun layout picks span (first + span)) (get_or tree (2 * node) d) (get_or tree (2 * node + 1) d)
    (get_or tree node d) left right (is.composed node within.0 d))

-- the root has the least lengths past all aisles
pub root_least : (layout : Layout) (picks : List Point) (tree : List Summary) (d : Summary) → IsTree layout picks tree
    → AreLeast (PastRun layout picks 64 1) (get_or tree 1 d)
root_least layout picks tree d is =
    let two = double_spans layout picks tree 1 is (single_spans layout picks tree is) (λ node first at low high. ((omega arith, omega arith), omega arith)) in
    let four = double_spans layout picks tree 2 is two (λ node first at low high. ((omega arith, omega arith), omega arith)) in
    let eight = double_spans layout picks tree 4 is four (λ node first at low high. ((omega arith, omega arith), omega arith)) in
    let sixteen = double_spans layout picks tree 8 is eight (λ node first at low high. ((omega arith, omega arith), omega arith)) in
    let half = double_spans layout picks tree 16 is sixteen (λ node first at low high. ((omega arith, omega arith), omega arith)) in
    let all = double_spans layout picks tree 32 is half (λ node first at low high. ((omega arith, omega arith), omega arith)) in
    all 1 1 d refl (omega arith) (omega arith)

-- the least length to the end that the root tells is the least length of all ways to go on from the first aisle
pub first_of_root : (layout : Layout) (picks : List Point) (root : Summary) (least : Option ℕ) → IsLayout layout → AreLeast (PastRun layout picks 64 1) root
    → IsLeastOf (ToTheEnd root) least → IsLeastFirst (block_of layout picks) (layout.aisles - 1) least
first_of_root layout picks root least valid are is =
    first_of_run layout picks 64 least valid.aisles (least_past (PastRun layout picks 64 1) root Z00 least are is)
