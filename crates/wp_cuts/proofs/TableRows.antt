-- How a table of cuts is made and used, row by row.
use Rattle.std.proofs.Common.{◌≡◌, ◌≢◌, ℕ, ◌+◌, ◌*◌, ◌/◌, ◌<◌, ◌≤◌, ◌++◌, List, [], ◌∷◌, Contains, length, set, arith, ap, sym, ◌∙◌, subst, ⊎_elim}
use Rattle.std.specs.Prelude.{replicate, slice_index, slice_index_or}
use Rattle.std.proofs.lemmas.Bool.{cases_eq, cases_lt}
use Rattle.std.proofs.lemmas.List.{get_or-replicate, get_or-set_same, get_or-set_other, get_or_append_left, get_or_default, get_or_past, get_or_push, length-replicate, length-set, length_push}
use Rattle.wp_pairs.proofs.SumsUnder.{sum_under, under_all, under_none, under_with, under_without}
use Rattle.std.specs.List.Sorted.{IsStrictlyIncreasing}
use Rattle.wp_cuts.specs.Cuts.{CutParts, cut_part, times_met}
use Rattle.wp_cuts.specs.Tables.{AreInverses, AreParts, IsEachSum, IsInverse, IsRow, IsTable}

-- the parts of an order in the cuts below an end
pub record IsRowBelow (cuts : List CutParts) (order : ℕ) (row : List ℕ) (end : ℕ) : Type 0 where
  pub whole : length row ≡ 64
  pub small : (at : ℕ) → slice_index row at ≤ 7
  pub parts : (at : ℕ) (cut : CutParts) → at < end → at < length cuts
      → slice_index row at ≡ cut_part (slice_index_or cuts at cut) order

-- the rows of the orders below an end
pub record AreRowsBelow (cuts : List CutParts) (rows : List (List ℕ)) (end : ℕ) : Type 0 where
  pub whole : length rows ≡ end
  pub each : (order : ℕ) → order < end → IsRow cuts order (slice_index_or rows order [])

-- what is added below an end, and the rest as it was
pub record AreAddedBelow (old row sums : List ℕ) (end : ℕ) : Type 0 where
  pub whole : length sums ≡ 64
  pub below : (at : ℕ) → at < end → slice_index sums at ≡ slice_index old at + slice_index row at
  pub rest : (at : ℕ) → end ≤ at → slice_index sums at ≡ slice_index old at

-- what the orders of a batch that are below an end have in parts of each cut
pub record ArePartsBelow (cuts : List CutParts) (batch sums : List ℕ) (end : ℕ) : Type 0 where
  pub whole : length sums ≡ 64
  pub small : (at : ℕ) → slice_index sums at ≤ 7 * end
  pub each : (at : ℕ) (cut : CutParts) → at < length cuts
      → slice_index sums at ≡ sum_under (cut_part (slice_index_or cuts at cut)) end batch

-- the inverses of the cuts below an end
pub record AreInversesBelow (cuts : List CutParts) (inverses : List ℕ) (end : ℕ) : Type 0 where
  pub whole : length inverses ≡ end
  pub each : (at : ℕ) (cut : CutParts) → at < end → IsInverse (slice_index_or cuts at cut).divisor (slice_index inverses at)

-- zeros alone
zero_at : (zeros : List ℕ) (at : ℕ) → zeros ≡ replicate 64 0 → slice_index zeros at ≡ 0
zero_at zeros at is = ap (λ (xs : List ℕ). slice_index xs at) is ∙ ⊎_elim
    (λ (low : at < 64). get_or-replicate 64 at 0 0 low)
    (λ (high : 64 ≤ at). get_or_past (replicate 64 0) at 0 (omega (arith, length-replicate {A = ℕ} 64 0, high)))
    (cases_lt at 64)

zeros_whole : (zeros : List ℕ) → zeros ≡ replicate 64 0 → length zeros ≡ 64
zeros_whole zeros is = ap (λ (xs : List ℕ). length xs) is ∙ length-replicate {A = ℕ} 64 0

-- a row before the first cut
pub row_none : (cuts : List CutParts) (order : ℕ) (row : List ℕ) → row ≡ replicate 64 0 → IsRowBelow cuts order row 0
row_none cuts order row is = record {
  whole = zeros_whole row is;
  small = λ at. omega (arith, zero_at row at is);
  parts = λ at cut low _. absurd (omega (arith, low));
}

-- with one cut more
pub row_more : (cuts : List CutParts) (order : ℕ) (row : List ℕ) (end part : ℕ) (here : CutParts) → IsRowBelow cuts order row end → end < 64
    → end < length cuts → part ≡ cut_part (slice_index_or cuts end here) order → part ≤ 7 → IsRowBelow cuts order (set row end part) (end + 1)
row_more cuts order row end part here before within known is few = record {
  whole = length-set row end part ∙ before.whole;
  small = λ at. ⊎_elim
      (λ (e : at ≡ end). omega (arith, ap (λ (k : ℕ). slice_index (set row end part) k) e, get_or-set_same row end part 0 (omega (arith, within, before.whole)), few))
      (λ (ne : at ≢ end). omega (arith, get_or-set_other row end at part 0 ne, before.small at))
      (cases_eq at end);
  parts = λ at cut low below. ⊎_elim
      (λ (e : at ≡ end). ap (λ (k : ℕ). slice_index (set row end part) k) e ∙ get_or-set_same row end part 0 (omega (arith, within, before.whole))
      ∙ is ∙ ap (λ (one : CutParts). cut_part one order) (get_or_default cuts end here cut known)
      ∙ ap (λ (k : ℕ). cut_part (slice_index_or cuts k cut) order) (sym e))
      (λ (ne : at ≢ end). get_or-set_other row end at part 0 ne ∙ before.parts at cut (omega (arith, low, ne)) below)
      (cases_eq at end);
}

-- after the last cut
pub row_whole : (cuts : List CutParts) (order : ℕ) (row : List ℕ) (end : ℕ) → IsRowBelow cuts order row end → length cuts ≤ end → IsRow cuts order row
row_whole cuts order row end before over = record {
  whole = before.whole;
  small = before.small;
  parts = λ at cut low. before.parts at cut (omega (arith, low, over)) low;
}

-- one row more
pub rows_more : (cuts : List CutParts) (rows : List (List ℕ)) (row : List ℕ) (end : ℕ) → AreRowsBelow cuts rows end → IsRow cuts end row
    → AreRowsBelow cuts (rows ++ row ∷ []) (end + 1)
rows_more cuts rows row end before is = record {
  whole = length_push rows row ∙ ap (λ (n : ℕ). n + 1) before.whole;
  each = λ order low. ⊎_elim
      (λ (e : order ≡ end). subst (λ (xs : List ℕ). IsRow cuts order xs) (sym (get_or_push rows row [] order (before.whole ∙ sym e)))
      (subst (λ (k : ℕ). IsRow cuts k row) (sym e) is))
      (λ (ne : order ≢ end). subst (λ (xs : List ℕ). IsRow cuts order xs)
      (sym (get_or_append_left rows (row ∷ []) [] order (omega (arith, low, ne, before.whole)))) (before.each order (omega (arith, low, ne))))
      (cases_eq order end);
}

-- all rows
pub rows_whole : (cuts : List CutParts) (rows : List (List ℕ)) (end : ℕ) → AreRowsBelow cuts rows end → end ≡ 64 → length cuts ≤ 64 → IsTable cuts rows
rows_whole cuts rows end before is few = record {
  few = few;
  whole = before.whole ∙ is;
  each = λ order low. before.each order (omega (arith, low, is));
}

-- one sum more
pub added_more : (old row sums : List ℕ) (end : ℕ) → AreAddedBelow old row sums end → end < 64
    → AreAddedBelow old row (set sums end (slice_index sums end + slice_index row end)) (end + 1)
added_more old row sums end before within =
    let more = slice_index sums end + slice_index row end in record {
      whole = length-set sums end more ∙ before.whole;
      below = λ at low. ⊎_elim
          (λ (e : at ≡ end). ap (λ (k : ℕ). slice_index (set sums end more) k) e ∙ get_or-set_same sums end more 0 (omega (arith, within, before.whole))
          ∙ ap (λ (n : ℕ). n + slice_index row end) (before.rest end (omega arith))
          ∙ ap (λ (k : ℕ). slice_index old k + slice_index row k) (sym e))
          (λ (ne : at ≢ end). get_or-set_other sums end at more 0 ne ∙ before.below at (omega (arith, low, ne)))
          (cases_eq at end);
      rest = λ at high. get_or-set_other sums end at more 0 (λ e. omega (arith, high, e)) ∙ before.rest at (omega (arith, high));
    }

-- all sums
pub added_whole : (old row sums : List ℕ) (end : ℕ) → AreAddedBelow old row sums end → 64 ≤ end → IsEachSum old row sums
added_whole old row sums end before over = record { whole = before.whole; each = λ at low. before.below at (omega (arith, low, over)) }

-- no order has any part yet
pub parts_none : (cuts : List CutParts) (batch sums : List ℕ) → sums ≡ replicate 64 0 → ArePartsBelow cuts batch sums 0
parts_none cuts batch sums is = record {
  whole = zeros_whole sums is;
  small = λ at. omega (arith, zero_at sums at is);
  each = λ at cut low. zero_at sums at is ∙ sym (under_none (cut_part (slice_index_or cuts at cut)) batch);
}

-- with the parts of one order more
pub parts_with : (cuts : List CutParts) (batch sums row new : List ℕ) (end : ℕ) → ArePartsBelow cuts batch sums end → length cuts ≤ 64
    → IsStrictlyIncreasing batch → Contains batch end → IsRow cuts end row → IsEachSum sums row new → ArePartsBelow cuts batch new (end + 1)
parts_with cuts batch sums row new end before few up has is added = record {
  whole = added.whole;
  small = λ at. ⊎_elim
      (λ (low : at < 64). omega (arith, added.each at low, before.small at, is.small at))
      (λ (high : 64 ≤ at). omega (arith, get_or_past new at 0 (omega (arith, added.whole, high))))
      (cases_lt at 64);
  each = λ at cut low. omega (
    arith,
    added.each at (omega (arith, low, few)),
    before.each at cut low,
    is.parts at cut low,
    under_with (cut_part (slice_index_or cuts at cut)) end batch up has,
  );
}

-- an order that isn't in the batch has none
pub parts_without : (cuts : List CutParts) (batch sums : List ℕ) (end : ℕ) → ArePartsBelow cuts batch sums end → (Contains batch end → ⊥)
    → ArePartsBelow cuts batch sums (end + 1)
parts_without cuts batch sums end before none = record {
  whole = before.whole;
  small = λ at. omega (arith, before.small at);
  each = λ at cut low. before.each at cut low ∙ sym (under_without (cut_part (slice_index_or cuts at cut)) end batch none);
}

-- the parts of all orders of a batch
pub parts_whole : (cuts : List CutParts) (batch sums : List ℕ) (end : ℕ) → ArePartsBelow cuts batch sums end → end ≡ 64
    → ((order : ℕ) → Contains batch order → order < 64) → AreParts cuts batch sums
parts_whole cuts batch sums end before is known = record {
  each = λ at cut low. before.each at cut low
      ∙ under_all (cut_part (slice_index_or cuts at cut)) end batch (λ order has. let low = known order has in omega (arith, low, is));
  small = λ at. omega (arith, before.small at, is);
}

-- what a cut takes off by the parts of a batch is its price as often as the batch meets it
pub off_met : (cuts : List CutParts) (batch parts inverses : List ℕ) (at : ℕ) (here : CutParts) (price off : ℕ) → AreParts cuts batch parts
    → AreInverses cuts inverses → at < length cuts
    → ((divisor : ℕ) → IsInverse divisor (slice_index inverses at) → off ≡ price * (slice_index parts at / divisor))
    → off ≡ price * times_met (slice_index_or cuts at here) batch
off_met cuts batch parts inverses at here price off are inverse low taken =
    taken (slice_index_or cuts at here).divisor (inverse.each at here low)
    ∙ ap (λ (n : ℕ). price * (n / (slice_index_or cuts at here).divisor)) (are.each at here low)

-- one inverse more
pub inverses_more : (cuts : List CutParts) (inverses : List ℕ) (end inverse : ℕ) (here : CutParts) → AreInversesBelow cuts inverses end → end < length cuts
    → IsInverse here.divisor inverse → here ≡ slice_index_or cuts end here → AreInversesBelow cuts (inverses ++ inverse ∷ []) (end + 1)
inverses_more cuts inverses end inverse here before known is read = record {
  whole = length_push inverses inverse ∙ ap (λ (n : ℕ). n + 1) before.whole;
  each = λ at cut low. ⊎_elim
      (λ (e : at ≡ end). subst (λ (n : ℕ). IsInverse (slice_index_or cuts at cut).divisor n) (sym (get_or_push inverses inverse 0 at (before.whole ∙ sym e)))
      (subst (λ (one : CutParts). IsInverse one.divisor inverse)
      (read ∙ get_or_default cuts end here cut known ∙ ap (λ (k : ℕ). slice_index_or cuts k cut) (sym e)) is))
      (λ (ne : at ≢ end). subst (λ (n : ℕ). IsInverse (slice_index_or cuts at cut).divisor n)
      (sym (get_or_append_left inverses (inverse ∷ []) 0 at (omega (arith, low, ne, before.whole)))) (before.each at cut (omega (arith, low, ne))))
      (cases_eq at end);
}

-- all inverses
pub inverses_whole : (cuts : List CutParts) (inverses : List ℕ) (end : ℕ) → AreInversesBelow cuts inverses end → end ≡ length cuts
    → AreInverses cuts inverses
inverses_whole cuts inverses end before is = record {
  whole = before.whole ∙ is;
  each = λ at cut low. before.each at cut (omega (arith, low, is));
}

-- divided by one divisor
by_one : (parts divisor inverse one : ℕ) → divisor ≡ one → inverse ≡ 65535 / divisor + 1 → parts * (65535 / one + 1) / 65536 ≡ parts / one
    → parts * inverse / 65536 ≡ parts / divisor
by_one parts divisor inverse one e is there = ap (λ (n : ℕ). parts * n / 65536) is
    ∙ subst (λ (k : ℕ). parts * (65535 / k + 1) / 65536 ≡ parts / k) (sym e) there

-- what is multiplied by an inverse and divided by 65,536 is divided by the divisor
pub by_inverse : (parts divisor inverse : ℕ) → parts ≤ 448 → IsInverse divisor inverse → parts * inverse / 65536 ≡ parts / divisor
by_inverse parts divisor inverse few of_it =
    ⊎_elim (λ (e : divisor ≡ 2). let there : parts * (65535 / 2 + 1) / 65536 ≡ parts / 2 = omega (arith, few) in
    by_one parts divisor inverse 2 e of_it.is there) (λ (not_2 : divisor ≢ 2).
    ⊎_elim (λ (e : divisor ≡ 3). let there : parts * (65535 / 3 + 1) / 65536 ≡ parts / 3 = omega (arith, few) in
    by_one parts divisor inverse 3 e of_it.is there) (λ (not_3 : divisor ≢ 3).
    ⊎_elim (λ (e : divisor ≡ 4). let there : parts * (65535 / 4 + 1) / 65536 ≡ parts / 4 = omega (arith, few) in
    by_one parts divisor inverse 4 e of_it.is there) (λ (not_4 : divisor ≢ 4).
    ⊎_elim (λ (e : divisor ≡ 5). let there : parts * (65535 / 5 + 1) / 65536 ≡ parts / 5 = omega (arith, few) in
    by_one parts divisor inverse 5 e of_it.is there) (λ (not_5 : divisor ≢ 5).
    ⊎_elim (λ (e : divisor ≡ 6). let there : parts * (65535 / 6 + 1) / 65536 ≡ parts / 6 = omega (arith, few) in
    by_one parts divisor inverse 6 e of_it.is there) (λ (not_6 : divisor ≢ 6).
    ⊎_elim (λ (e : divisor ≡ 7). let there : parts * (65535 / 7 + 1) / 65536 ≡ parts / 7 = omega (arith, few) in
    by_one parts divisor inverse 7 e of_it.is there) (λ (not_7 : divisor ≢ 7).
    ⊎_elim (λ (e : divisor ≡ 8). let there : parts * (65535 / 8 + 1) / 65536 ≡ parts / 8 = omega (arith, few) in
    by_one parts divisor inverse 8 e of_it.is there) (λ (not_8 : divisor ≢ 8).
    absurd (omega (arith, of_it.low, of_it.high, not_2, not_3, not_4, not_5, not_6, not_7, not_8))
    ) (cases_eq divisor 8)) (cases_eq divisor 7)) (cases_eq divisor 6)) (cases_eq divisor 5)) (cases_eq divisor 4)) (cases_eq divisor 3)) (cases_eq divisor 2)
