-- Parts of a cover that are put behind others, and orders that are taken out of them.
use Rattle.std.proofs.Common.{◌≡◌, ◌≢◌, ◌⊎◌, ⊎_elim, inl, inr, ℕ, ◌+◌, ◌-◌, ◌*◌, ◌≤◌, ◌<◌, min, Bool, true, false, cond, List, [], ◌∷◌, ◌++◌, length, take}
use Rattle.std.proofs.Common.{get_or, Contains}
use Rattle.std.proofs.Common.{arith, ap, sym, subst, refl, ◌∙◌}
use Rattle.std.proofs.lemmas.List.Elements.{All-push}
use Rattle.std.proofs.lemmas.List.Sums.{sum_by_more, sum_by_push}
use Rattle.std.specs.Prelude.{◌↔◌}
use Rattle.wp_lp.proofs.Holds.{has_alike, has_false}
use Rattle.wp_lp.specs.Covers.{has}
use Rattle.wp_lp.specs.Parts.{IsAdded, IsCut, IsWeightedBatch, IsTrimmed, cost_of, cover_of, weighed, weight_for}
use Rattle.wp_lp.specs.declared.part.WeightedBatch.{WeightedBatch}

-- a part that has some order is put behind others
pub added_part : (part : WeightedBatch) (before after : List WeightedBatch) → after ≡ before ++ part ∷ [] → 0 < length part.batch → IsAdded part before after
added_part part before after e some = subst (IsAdded part before) (sym e) (record {
  covers = λ order. sum_by_push (weight_for order) before part;
  cost = omega (arith, sum_by_push weighed before part);
  each = λ wave pairing old new. All-push (IsWeightedBatch wave pairing) before part old (new some);
})

times_less : (w a b : ℕ) → a ≤ b → w * a ≤ w * b
times_less w a b less = let k = b - a in
    let e : b ≡ a + k = omega (arith, less) in
    rw e (omega arith)

-- without an order a part has the others alike, and is no longer
pub cut_part : (part : WeightedBatch) (order weight : ℕ) (batch : List ℕ) (long : ℕ) (before after : List WeightedBatch)
    → ((p : ℕ) → Contains batch p ↔ (Contains part.batch p × (p ≢ order))) → long ≤ part.length
    → IsAdded (record { batch = batch; length = long; weight = weight }) before after → IsCut part order weight before after
cut_part part order weight batch long before after orders short added = record {
  others = λ other apart.
      let alike = has_alike batch part.batch other (λ is. ((orders other).0 is).0) (λ is. (orders other).1 (is, apart)) in
      added.covers other ∙ ap (λ (b : Bool). cover_of before other + cond b weight 0) alike;
  own =
      let none = has_false batch order (λ is. ((orders order).0 is).1 refl) in
      let nothing = added.covers order ∙ ap (λ (b : Bool). cover_of before order + cond b weight 0) none in
      omega (arith, nothing);
  cost = let least = times_less weight long part.length short in omega (arith, added.cost, least);
}

-- a part without an order is put behind others as it is
pub kept_part : (part : WeightedBatch) (order left : ℕ) (before after : List WeightedBatch) → (Contains part.batch order → ⊥) → IsAdded part before after
    → IsTrimmed part order left left before after
kept_part part order left before after none added =
    let nothing = ap (λ (b : Bool). cond b part.weight 0) (has_false part.batch order none) in
    let own = added.covers order in
    record {
      others = λ other apart. added.covers other;
      own = omega (arith, own, nothing);
      spent = inr own;
      cost = added.cost;
    }

split_weight : (b : Bool) (old middle new kept rest : ℕ) → middle ≡ old + cond b kept 0 → new ≡ middle + cond b rest 0
    → new ≡ old + cond b (kept + rest) 0
split_weight true old middle new kept rest e f = omega (arith, e, f)
split_weight false old middle new kept rest e f = omega (arith, e, f)

split_cost : (old middle new kept rest long : ℕ) → middle ≤ old + kept * long → new ≤ middle + rest * long → new ≤ old + (kept + rest) * long
split_cost old middle new kept rest long first second = omega (arith, first, second)

either : (a b : ℕ) → (a ≤ b) ⊎ (b ≤ a)
either a b = grind arith

-- a part with an order is put behind others in two parts: with it as far as some weight is left, and else without it
pub split_part : (part : WeightedBatch) (order left kept : ℕ) (before middle after : List WeightedBatch) → Contains part.batch order
    → kept ≡ min part.weight left
    → IsAdded (record { batch = part.batch; length = part.length; weight = kept }) before middle → IsCut part order (part.weight - kept) middle after
    → (has part.batch order ≡ true) → IsTrimmed part order left (left - kept) before after
split_part part order left kept before middle after is least added cut tells =
    let whole : kept + (part.weight - kept) ≡ part.weight = omega (arith, least) in
    let with_order = added.covers order ∙ ap (λ (b : Bool). cover_of before order + cond b kept 0) tells in
    let own = cut.own ∙ with_order in
    let all = ap (λ (b : Bool). cond b part.weight 0) tells in
    record {
      others = λ other apart. split_weight (has part.batch other) (cover_of before other) (cover_of middle other) (cover_of after other) kept
          (part.weight - kept) (added.covers other) (cut.others other apart)
          ∙ ap (λ (w : ℕ). cover_of before other + cond (has part.batch other) w 0) whole;
      own = omega (arith, own, least);
      spent = ⊎_elim (λ (few : left ≤ part.weight). inl (omega (arith, few, least)))
          (λ (many : part.weight ≤ left). inr (omega (arith, many, least, own, all))) (either left part.weight);
      cost = subst (λ (w : ℕ). cost_of after ≤ cost_of before + w * part.length) whole
          (split_cost (cost_of before) (cost_of middle) (cost_of after) kept (part.weight - kept) part.length added.cost cut.cost);
    }

-- one more part of a list is trimmed
pub more_trimmed : (parts : List WeightedBatch) (i order whole left rest : ℕ) (part : WeightedBatch) (before after : List WeightedBatch) → i < length parts
    → part ≡ get_or parts i part → IsTrimmed part order left rest before after
    → ((other : ℕ) → other ≢ order → cover_of before other ≡ cover_of (take i parts) other)
    → (cover_of before order + left ≡ whole) → ((left ≡ 0) ⊎ (cover_of before order ≡ cover_of (take i parts) order))
    → cost_of before ≤ cost_of (take i parts) → record {
      others : (other : ℕ) → other ≢ order → cover_of after other ≡ cover_of (take (i + 1) parts) other;
      own : cover_of after order + rest ≡ whole;
      spent : (rest ≡ 0) ⊎ (cover_of after order ≡ cover_of (take (i + 1) parts) order);
      cost : cost_of after ≤ cost_of (take (i + 1) parts);
    }
more_trimmed parts i order whole left rest part before after low is trimmed others own spent cost =
    let more = λ (other : ℕ). sum_by_more (weight_for other) parts i part low
    ∙ ap (λ (p : WeightedBatch). cover_of (take i parts) other + weight_for other p) (sym is) in
    let dearer = sum_by_more weighed parts i part low ∙ ap (λ (p : WeightedBatch). cost_of (take i parts) + weighed p) (sym is) in
    record {
      others = λ other apart. omega (arith, trimmed.others other apart, others other apart, more other);
      own = omega (arith, trimmed.own, own);
      spent = ⊎_elim (λ (none : rest ≡ 0). inl none)
          (λ (all : cover_of after order ≡ cover_of before order + weight_for order part). ⊎_elim
          (λ (none : left ≡ 0). inl (omega (arith, none, all, trimmed.own)))
          (λ (so_far : cover_of before order ≡ cover_of (take i parts) order). inr (omega (arith, all, so_far, more order))) spent)
          trimmed.spent;
      cost = omega (arith, trimmed.cost, cost, dearer);
    }
