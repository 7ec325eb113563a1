-- What a new summary at a node leaves of a tree.
use Rattle.std.proofs.Common.{◌≡◌, ℕ, ◌+◌, ◌*◌, ◌≤◌, List, Option, Some, None, IfSome, length, get_or, set, arith, subst, sym, ◌∙◌, ⊎_elim, get_or-set_other}
use Rattle.std.proofs.Common.{get_or-set_same}
use Rattle.std.proofs.lemmas.Bool.{cases_eq}
use Rattle.std.proofs.lemmas.List.{get_or_default}
use Rattle.std.proofs.lemmas.Nat.{mul-le}
use Rattle.wp_model.specs.declared.point.Point.{Point}
use Rattle.wp_model.specs.Warehouse.{IsUpTo, Layout}
use Rattle.wp_classes.specs.declared.class.Class.{Class}
use Rattle.wp_classes.specs.Onward.{IsLeastOf}
use Rattle.wp_fast.specs.declared.summary.Summary.{Summary}
use Rattle.wp_fast.specs.Passages.{IsComposed, Tells, Then}
use Rattle.wp_fast.specs.Summaries.{length_between}
use Rattle.wp_fast.specs.Trees.{AreSmall, IsComposedAt, IsKeptAt, IsPastAisleAt}
use Rattle.wp_fast.proofs.SmallPassages.{AreUpTo}

-- the lengths of a summary are small enough for a node
abbrev pub IsSmallAt : ℕ → Summary → Type 0
IsSmallAt node summary = (before after : Class) → IfSome (length_between summary before after) (λ t. t * node ≤ 519680000)

-- a node is composed still where its summary and those below it are what they were
pub composed_still : (tree now : List Summary) (node : ℕ) → IsKeptAt tree now (2 * node) → IsKeptAt tree now (2 * node + 1) → IsKeptAt tree now node
    → IsComposedAt tree node → IsComposedAt now node
composed_still tree now node left right here composed d = rw (left d, right d, here d) (composed d)

-- an aisle's node tells the least lengths past it still where its summary is what it was
pub past_still : (layout : Layout) (picks : List Point) (tree now : List Summary) (aisle : ℕ) → IsKeptAt tree now (63 + aisle)
    → IsPastAisleAt layout picks tree aisle → IsPastAisleAt layout picks now aisle
past_still layout picks tree now aisle same past d = rw (same d) (past d)

-- a new summary at a node that is composed of those below it
pub composed_set : (tree : List Summary) (node : ℕ) (both e f : Summary) → length tree ≡ 128 → IsUpTo 63 node
    → IsComposed (get_or tree (2 * node) e) (get_or tree (2 * node + 1) f) both → IsComposedAt (set tree node both) node
composed_set tree node both e f whole up composed d =
    let left : get_or (set tree node both) (2 * node) d ≡ get_or tree (2 * node) e =
    get_or-set_other tree node (2 * node) both d (λ same. omega (arith, same, up)) ∙ get_or_default tree (2 * node) d e (omega (arith, whole, up)) in
    let right : get_or (set tree node both) (2 * node + 1) d ≡ get_or tree (2 * node + 1) f =
    get_or-set_other tree node (2 * node + 1) both d (λ same. omega (arith, same, up)) ∙ get_or_default tree (2 * node + 1) d f (omega (arith, whole, up)) in
    let here : get_or (set tree node both) node d ≡ both = get_or-set_same tree node both d (omega (arith, whole, up)) in
    rw (left, right, here) composed

told_small : (length : Option ℕ) (node t : ℕ) → IfSome length (λ s. s * node ≤ 519680000) → length ≡ Some t → t * node ≤ 519680000
told_small length node t small told = subst (λ (o : Option ℕ). IfSome o (λ s. s * node ≤ 519680000)) told small

-- a sum of two small lengths is small a node further up
sums_small : (node near far : ℕ) → near * (2 * node) ≤ 519680000 → far * (2 * node + 1) ≤ 519680000 → (near + far) * node ≤ 519680000
sums_small node near far left right = omega (arith, left, right)

-- a summary that is composed of small ones is small
pub composed_small : (node : ℕ) (first next both : Summary) → IsSmallAt (2 * node) first → IsSmallAt (2 * node + 1) next → IsComposed first next both
    → IsSmallAt node both
composed_small node first next both left right composed before after =
    go (length_between both before after) (composed.least before after)
  where
    go : (length : Option ℕ) → IsLeastOf (Then (Tells first) (Tells next) before after) length → IfSome length (λ t. t * node ≤ 519680000)
    go None is = tt
    go (Some m) ((between, (near, far, told, told_on, total)), least) =
        let one = told_small (length_between first before between) (2 * node) near (left before between) told in
        let other = told_small (length_between next between after) (2 * node + 1) far (right between after) told_on in
        let sum = sums_small node near far one other in
        subst (λ (s : ℕ). s * node ≤ 519680000) (sym total) sum

-- the lengths past an aisle are small at each node
pub aisle_small : (node : ℕ) (summary : Summary) → node ≤ 127 → AreUpTo 4060000 summary → IsSmallAt node summary
aisle_small node summary low are before after = go (length_between summary before after) (are before after)
  where
    go : (length : Option ℕ) → IfSome length (λ t. t ≤ 4060000) → IfSome length (λ t. t * node ≤ 519680000)
    go None up = tt
    go (Some t) up = let product = mul-le t node 4060000 127 up low in omega (arith, product)

-- with a new small summary at a node, all are small still
pub small_set : (tree : List Summary) (node : ℕ) (new : Summary) → length tree ≡ 128 → node ≤ 127 → IsSmallAt node new → AreSmall tree
    → AreSmall (set tree node new)
small_set tree node new whole low small are other d before after up =
    ⊎_elim
    (λ (same : other ≡ node). let here : get_or (set tree node new) other d ≡ new =
    subst (λ (k : ℕ). get_or (set tree node new) k d ≡ new) (sym same) (get_or-set_same tree node new d (omega (arith, whole, low))) in
    rw here (subst (λ (k : ℕ). IfSome (length_between new before after) (λ t. t * k ≤ 519680000)) (sym same) (small before after)))
    (λ differs. rw (get_or-set_other tree node other new d differs) (are other d before after up))
    (cases_eq other node)
