-- The least of numbers with a property.
use Rattle.std.specs.Option.{option_eq}
use Rattle.std.proofs.lemmas.Bool.{eq-eqb, false≢true}
use Rattle.std.proofs.Common.{◌≡◌, ℕ, ◌+◌, ◌≤◌, true, false, eqb, subst, min, Option, Some, None, option_map, arith, refl, inl, inr, ◌⊎◌, ⊎_elim, ap, sym, ◌∙◌}
use Rattle.wp_classes.specs.Least.{lesser}
use Rattle.wp_classes.specs.Onward.{IsLeastOf}

-- where no number has the property, there is no least one
pub least_none : (P : ℕ → Type 0) → ((t : ℕ) → P t → ⊥) → IsLeastOf P None
least_none P no_one = no_one

-- two properties of the same numbers have the same least one
pub least_like : (P Q : ℕ → Type 0) (least : Option ℕ) → ((t : ℕ) → P t → Q t) → ((t : ℕ) → Q t → P t) → IsLeastOf P least → IsLeastOf Q least
least_like P Q None there back is = λ t h. is t (back t h)
least_like P Q (Some m) there back is = (there m is.0, λ t h. is.1 t (back t h))

-- a property has only one least number
pub least_same : (P : ℕ → Type 0) (a b : Option ℕ) → IsLeastOf P a → IsLeastOf P b → a ≡ b
least_same P None None is there = refl
least_same P None (Some n) is there = absurd (is n there.0)
least_same P (Some m) None is there = absurd (there m is.0)
least_same P (Some m) (Some n) is there = let up = is.1 n there.0 in let down = there.1 m is.0 in let same : m ≡ n = omega arith in ap (λ k. Some k) same

-- the lesser of the least numbers with two properties is the least with one of them
pub least_lesser : (P Q : ℕ → Type 0) (a b : Option ℕ) → IsLeastOf P a → IsLeastOf Q b → IsLeastOf (λ t. P t ⊎ Q t) (lesser a b)
least_lesser P Q None None is there = λ t h. ⊎_elim (is t) (there t) h
least_lesser P Q None (Some n) is there = (inr there.0, λ t h. ⊎_elim (λ p. absurd (is t p)) (there.1 t) h)
least_lesser P Q (Some m) None is there = (inl is.0, λ t h. ⊎_elim (is.1 t) (λ q. absurd (there t q)) h)
least_lesser P Q (Some m) (Some n) is there =
    (pick (cases_le m n), λ t h. ⊎_elim (λ p. let up = is.1 t p in omega arith) (λ q. let up = there.1 t q in omega arith) h)
  where
    cases_le : (a b : ℕ) → (a ≤ b) ⊎ (b ≤ a)
    cases_le a b = grind arith

    pick : (m ≤ n) ⊎ (n ≤ m) → P (min m n) ⊎ Q (min m n)
    pick (inl low) = let e : min m n ≡ m = omega arith in rw e (inl is.0)
    pick (inr low) = let e : min m n ≡ n = omega arith in rw e (inr there.0)

-- the least of numbers that are so much larger
pub least_more : (P : ℕ → Type 0) (a : ℕ) (least : Option ℕ) → IsLeastOf P least → IsLeastOf (λ t. (r : ℕ) × P r × (t ≡ a + r)) (option_map (λ r. a + r) least)
least_more P a None is = λ t h. is h.0 h.1
least_more P a (Some m) is = ((m, is.0, refl), λ t h. let up = is.1 h.0 h.1 in omega (arith, up, h.2))

-- the lesser of two is one of them
pub lesser_one : (a b : Option ℕ) → (lesser a b ≡ a) ⊎ (lesser a b ≡ b)
lesser_one None b = inr refl
lesser_one (Some m) None = inl refl
lesser_one (Some m) (Some n) = ⊎_elim (λ (low : m ≤ n). let e : min m n ≡ m = omega arith in inl (ap (λ k. Some k) e))
    (λ (low : n ≤ m). let e : min m n ≡ n = omega arith in inr (ap (λ k. Some k) e)) (cases_le m n)
  where
    cases_le : (a b : ℕ) → (a ≤ b) ⊎ (b ≤ a)
    cases_le a b = grind arith

other_one : (a b least : Option ℕ) → least ≡ lesser a b → (a ≡ least → ⊥) → least ≡ b
other_one a b least is not_first = ⊎_elim (λ e. absurd (not_first (sym (is ∙ e)))) (λ e. is ∙ e) (lesser_one a b)

-- of six, the last is the least where the first five are not
pub last_of_six : (a b c d e f least : Option ℕ) → least ≡ lesser a (lesser b (lesser c (lesser d (lesser e f)))) →
    (a ≡ least → ⊥) → (b ≡ least → ⊥) → (c ≡ least → ⊥) → (d ≡ least → ⊥) → (e ≡ least → ⊥) → f ≡ least
last_of_six a b c d e f least is na nb nc nd ne =
    sym (other_one e f least (other_one d _ least (other_one c _ least (other_one b _ least (other_one a _ least is na) nb) nc) nd) ne)

option_same : (a : Option ℕ) → option_eq eqb a a ≡ true
option_same None = refl
option_same (Some n) = eq-eqb n n refl

-- what a failed test tells of the values that it compared
pub unequal : (a b x y : Option ℕ) → a ≡ x → b ≡ y → false ≡ option_eq eqb a b → x ≡ y → ⊥
unequal a b x y ax bY fails same =
    let e : a ≡ b = ax ∙ same ∙ sym bY in
    false≢true (fails ∙ subst (λ o. option_eq eqb a o ≡ true) e (option_same a))
