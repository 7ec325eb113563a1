-- Dividing the orders of a batch, one order after another.
use Rattle.std.proofs.Common.{◌≡◌, ◌≢◌, ℕ, ◌<◌, ◌↔◌, List, [], length, get_or, arith, sym, ◌∙◌, subst, inl, inr, ◌⊎◌, ⊎_elim, Contains, All}
use Rattle.std.specs.Prelude.{Some, slice_get}
use Rattle.std.proofs.lemmas.Bool.{cases_eq}
use Rattle.std.proofs.lemmas.List.Elements.{All-contains}
use Rattle.std.proofs.lemmas.List.{get_or_default}
use Rattle.std.proofs.lemmas.Option.{get_or_from_slice_get, slice_get_within}
use Rattle.wp_lengths.specs.Batchings.{batch_at}
use Rattle.wp_batch.specs.declared.split.Split.{Split}
use Rattle.wp_batch.specs.Splits.{CanReplace, DividesInto, IsDivided, IsSplit}
use Rattle.wp_lengths.specs.Waves.{WavePicks}
use Rattle.wp_lengths.proofs.Unions.{all_from_contained, nothing_in}

-- what stands first in a list is in it
pub first_in : (xs : List ℕ) (x : ℕ) → slice_get xs 0 ≡ Some x → Contains xs x
first_in xs x is = (0, slice_get_within xs 0 x is, get_or_from_slice_get xs 0 x x is)

-- an order of the rest goes to the left
pub moved_left : (union left right rest more fewer : List ℕ) (order : ℕ) → Contains rest order
    → ((p : ℕ) → Contains more p ↔ (Contains left p ⊎ (p ≡ order))) → ((p : ℕ) → Contains fewer p ↔ (Contains rest p × (p ≢ order)))
    → DividesInto union left right rest → DividesInto union more right fewer
moved_left union left right rest more fewer order of with_one without_one d = record {
  of_all = λ p. (
    λ has. ⊎_elim (λ l. inl ((with_one p).1 (inl l)))
        (λ others. ⊎_elim (λ r. inr (inl r))
        (λ s. ⊎_elim (λ e. inl ((with_one p).1 (inr e))) (λ ne. inr (inr ((without_one p).1 (s, ne)))) (cases_eq p order)) others)
        ((d.of_all p).0 has),
    ⊎_elim
        (λ m. ⊎_elim (λ l. (d.of_all p).1 (inl l)) (λ e. (d.of_all p).1 (inr (inr (subst (Contains rest) (sym e) of)))) ((with_one p).0 m))
        (λ others. ⊎_elim (λ r. (d.of_all p).1 (inr (inl r))) (λ f. (d.of_all p).1 (inr (inr ((without_one p).0 f).0))) others),
  );
  apart = λ p m r. ⊎_elim (λ l. d.apart p l r) (λ e. d.right_rest p r (subst (Contains rest) (sym e) of)) ((with_one p).0 m);
  left_rest = λ p m f. let s = (without_one p).0 f in ⊎_elim (λ l. d.left_rest p l s.0) (λ e. s.1 e) ((with_one p).0 m);
  right_rest = λ p r f. d.right_rest p r ((without_one p).0 f).0;
}

-- the two sides exchanged
pub turned : (union left right rest : List ℕ) → DividesInto union left right rest → DividesInto union right left rest
turned union left right rest d = record {
  of_all = λ p. (
    λ has. ⊎_elim (λ l. inr (inl l)) (λ others. ⊎_elim (λ r. inl r) (λ s. inr (inr s)) others) ((d.of_all p).0 has),
    ⊎_elim (λ r. (d.of_all p).1 (inr (inl r))) (λ others. ⊎_elim (λ l. (d.of_all p).1 (inl l)) (λ s. (d.of_all p).1 (inr (inr s))) others),
  );
  apart = λ p r l. d.apart p l r;
  left_rest = d.right_rest;
  right_rest = d.left_rest;
}

-- at first all is to be divided
pub undivided : (left right rest : List ℕ) → left ≡ [] → right ≡ [] → DividesInto rest left right rest
undivided left right rest l r = record {
  of_all = λ p. (
    λ has. inr (inr has),
    ⊎_elim (λ h. absurd (nothing_in left p l h)) (λ others. ⊎_elim (λ h. absurd (nothing_in right p r h)) (λ s. s) others),
  );
  apart = λ p h i. nothing_in left p l h;
  left_rest = λ p h i. nothing_in left p l h;
  right_rest = λ p h i. nothing_in right p r h;
}

-- with nothing left a batch is divided
pub divided : (union rest : List ℕ) (split : Split) → length rest ≡ 0 → DividesInto union split.left split.right rest → IsDivided union split
divided union rest split none d = record {
  of_both = λ p. (
    λ has. ⊎_elim (λ l. inl l) (λ others. ⊎_elim (λ r. inr r) (λ s. absurd (omega (arith, none, s.1))) others) ((d.of_all p).0 has),
    ⊎_elim (λ l. (d.of_all p).1 (inl l)) (λ r. (d.of_all p).1 (inr (inl r))),
  );
  apart = d.apart;
}

-- a part of orders of the wave has orders of the wave alone
pub part_known : (orders : ℕ) (union part : List ℕ) → ((p : ℕ) → Contains part p → Contains union p) → All (λ order. order < orders) union
    → All (λ order. order < orders) part
part_known orders union part within known =
    all_from_contained (λ (order : ℕ). order < orders) part (λ p has. All-contains (λ (order : ℕ). order < orders) union p known (within p has))

-- two batches of a list, as they were read, may be replaced by the parts of their union
pub can_replace : (wave : WavePicks) (capacity : ℕ) (batches : List (List ℕ)) (i j : ℕ) (one other union : List ℕ) (split : Split) → i < j → j < length batches
    → one ≡ get_or batches i one → other ≡ get_or batches j other → ((p : ℕ) → Contains union p ↔ (Contains one p ⊎ Contains other p))
    → IsSplit wave capacity union split → CanReplace wave capacity batches i j split
can_replace wave capacity batches i j one other union split order within l r joined is =
    let l_is : one ≡ batch_at batches i = l ∙ get_or_default batches i one [] (omega (arith, order, within)) in
    let r_is : other ≡ batch_at batches j = r ∙ get_or_default batches j other [] within in
    record {
      order = order;
      within = within;
      of_both = λ p. (
        λ has. ⊎_elim (λ a. inl (subst (λ (xs : List ℕ). Contains xs p) l_is a)) (λ b. inr (subst (λ (xs : List ℕ). Contains xs p) r_is b))
            ((joined p).0 ((is.divided.of_both p).1 has)),
        λ has. (is.divided.of_both p).0 ((joined p).1 (⊎_elim (λ a. inl (subst (λ (xs : List ℕ). Contains xs p) (sym l_is) a))
            (λ b. inr (subst (λ (xs : List ℕ). Contains xs p) (sym r_is) b)) has)),
      );
      apart = is.divided.apart;
      left_fit = is.left;
      right_fit = is.right;
    }
