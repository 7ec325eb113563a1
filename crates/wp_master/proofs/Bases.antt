-- A pivot takes a basis to a basis.
use Rattle.std.proofs.Common.{◌≡◌, ◌≢◌, ◌⊎◌, ⊎_elim, ℕ, ◌+◌, ◌<◌, ◌≤◌, ℤ, pos, ◌+ℤ◌, ◌-ℤ◌, ◌*ℤ◌, ◌<ℤ◌, List, length, set, slice_index}
use Rattle.std.proofs.Common.{arith, ap, sym, subst, refl, ◌∙◌, length-set}
use Rattle.std.proofs.Math.IntN.{*ℤ_comm}
use Rattle.std.proofs.lemmas.Int.{ints}
use Rattle.std.proofs.lemmas.List.{get_or-set_same, get_or-set_other}
use Rattle.wp_master.proofs.Numbers.{product_of_product, product_of_sum}
use Rattle.wp_master.proofs.Ratios.{same_over}
use Rattle.wp_master.proofs.Sums.{factors_swapped, product_of_difference, total_changed, total_of_differences, total_times}
use Rattle.wp_master.specs.Bases.{IsBasis, basic_place, combined, total_below}
use Rattle.wp_master.specs.Pivots.{IsPivot, Table, entry_of, last_row, places}
use Rattle.wp_master.specs.Pools.{ColumnPool}

-- a factor above 0 that two equal products begin with can be left out
pub cancelled : (d x y : ℤ) → pos 0 <ℤ d → d *ℤ x ≡ d *ℤ y → x ≡ y
cancelled d x y some same = same_over d x y some (*ℤ_comm x d ∙ same ∙ *ℤ_comm d y)

-- a multiple of an entry that a pivot makes
exchanged_times : (d s next p t beside above : ℤ) → d *ℤ next ≡ (p *ℤ t) -ℤ (beside *ℤ above)
    → d *ℤ (s *ℤ next) ≡ (p *ℤ (s *ℤ t)) -ℤ (above *ℤ (s *ℤ beside))
exchanged_times d s next p t beside above e =
    let whole = factors_swapped d s next ∙ ap (λ (x : ℤ). s *ℤ x) e ∙ product_of_difference s (p *ℤ t) (beside *ℤ above) in
    let left = factors_swapped s p t in
    let right = sym (product_of_product s beside above) ∙ *ℤ_comm (s *ℤ beside) above in
    omega (arith, ints, whole, left, right)

own_times : (d p above s once sk t beside next : ℤ) → t ≡ above → beside ≡ p → next ≡ above → once ≡ sk
    → d *ℤ (once *ℤ next) ≡ ((p *ℤ (s *ℤ t)) -ℤ (above *ℤ (s *ℤ beside))) +ℤ (d *ℤ (sk *ℤ above))
own_times d p above s once sk t beside next e f g h =
    let left = ap (λ (x : ℤ). p *ℤ (s *ℤ x)) e ∙ ap (λ (x : ℤ). p *ℤ x) (*ℤ_comm s above) ∙ factors_swapped p above s in
    let right = ap (λ (x : ℤ). above *ℤ (s *ℤ x)) f ∙ ap (λ (x : ℤ). above *ℤ x) (*ℤ_comm s p) in
    let whole = ap (λ (x : ℤ). d *ℤ (x *ℤ next)) h ∙ ap (λ (x : ℤ). d *ℤ (sk *ℤ x)) g in
    omega (arith, ints, left, right, whole)

-- the sum of the rows that a pivot makes, each times what a start row has at the basic place
total_exchanged : (n row : ℕ) (d p above sk : ℤ) (s once t beside next : ℕ → ℤ) → row < n
    → ((k : ℕ) → k < n → k ≢ row → once k ≡ s k) → ((k : ℕ) → k < n → k ≢ row → d *ℤ next k ≡ (p *ℤ t k) -ℤ (beside k *ℤ above))
    → t row ≡ above → beside row ≡ p → next row ≡ above → once row ≡ sk
    → d *ℤ total_below n (λ k. once k *ℤ next k)
    ≡ ((p *ℤ total_below n (λ k. s k *ℤ t k)) -ℤ (above *ℤ total_below n (λ k. s k *ℤ beside k))) +ℤ (d *ℤ (sk *ℤ above))
total_exchanged n row d p above sk s once t beside next within kept exchanged own_t own_beside own_next own_once =
    let whole = total_times n d (λ k. once k *ℤ next k) in
    let changed = total_changed n row (λ k. d *ℤ (once k *ℤ next k)) (λ k. (p *ℤ (s k *ℤ t k)) -ℤ (above *ℤ (s k *ℤ beside k))) (d *ℤ (sk *ℤ above)) within
    (λ k low other. ap (λ (x : ℤ). d *ℤ (x *ℤ next k)) (kept k low other)
    ∙ exchanged_times d (s k) (next k) p (t k) (beside k) above (exchanged k low other))
    (own_times d p above (s row) (once row) sk (t row) (beside row) (next row) own_t own_beside own_next own_once) in
    let apart = total_of_differences n (λ k. p *ℤ (s k *ℤ t k)) (λ k. above *ℤ (s k *ℤ beside k)) in
    let left = total_times n p (λ k. s k *ℤ t k) in
    let right = total_times n above (λ k. s k *ℤ beside k) in
    omega (arith, ints, whole, changed, apart, left, right)

-- where a start row times the denominator is a sum of rows and a rest, at two places, it is so after a pivot
combination_stays : (d p above at there rest rest_there next_rest sum sum_there next_sum : ℤ) → pos 0 <ℤ d
    → d *ℤ at ≡ rest +ℤ sum → d *ℤ there ≡ rest_there +ℤ sum_there
    → d *ℤ next_rest ≡ (p *ℤ rest) -ℤ (rest_there *ℤ above)
    → d *ℤ next_sum ≡ ((p *ℤ sum) -ℤ (above *ℤ sum_there)) +ℤ (d *ℤ (there *ℤ above))
    → p *ℤ at ≡ next_rest +ℤ next_sum
combination_stays d p above at there rest rest_there next_rest sum sum_there next_sum some here beside next total =
    let left = factors_swapped d p at ∙ ap (λ (x : ℤ). p *ℤ x) here ∙ product_of_sum p rest sum in
    let right = product_of_sum d next_rest next_sum in
    let corner = sym (product_of_product d there above) ∙ *ℤ_comm (d *ℤ there) above ∙ ap (λ (x : ℤ). above *ℤ x) beside
    ∙ product_of_sum above rest_there sum_there in
    let turned = *ℤ_comm rest_there above in
    cancelled d (p *ℤ at) (next_rest +ℤ next_sum) some (omega (arith, ints, left, right, corner, turned, next, total))

pub is_or_not : (k row : ℕ) → (k ≡ row) ⊎ (k ≢ row)
is_or_not k row = grind arith

-- what holds of the place that is set and of the others holds of each
placed : (P : ℕ → ℕ → Type 0) (basis : List ℕ) (row place : ℕ) → row < length basis → P row place
    → ((k : ℕ) → k ≢ row → P k (slice_index basis k)) → (k : ℕ) → P k (slice_index (set basis row place) k)
placed P basis row place within own others k = ⊎_elim
    (λ (here : k ≡ row). subst (λ (r : ℕ). P r (slice_index (set basis row place) r)) (sym here)
    (subst (P row) (sym (get_or-set_same basis row place 0 within)) own))
    (λ (other : k ≢ row). subst (P k) (sym (get_or-set_other basis row k place 0 other)) (others k other))
    (is_or_not k row)

-- an entry that a pivot makes of one that is the denominator, where the pivot's row has 0
own_stays : (d p next t beside above : ℤ) → pos 0 <ℤ d → d *ℤ next ≡ (p *ℤ t) -ℤ (beside *ℤ above) → t ≡ d → above ≡ pos 0 → next ≡ p
own_stays d p next t beside above some e f g =
    let left = ap (λ (x : ℤ). p *ℤ x) f ∙ *ℤ_comm p d in
    let right = ap (λ (x : ℤ). beside *ℤ x) g in
    cancelled d next p some (omega (arith, ints, e, left, right))

-- an entry that a pivot makes of 0, where the pivot's row has 0
pub none_stays : (d p next t beside above : ℤ) → pos 0 <ℤ d → d *ℤ next ≡ (p *ℤ t) -ℤ (beside *ℤ above) → t ≡ pos 0 → above ≡ pos 0 → next ≡ pos 0
none_stays d p next t beside above some e f g =
    let left = ap (λ (x : ℤ). p *ℤ x) f in
    let right = ap (λ (x : ℤ). beside *ℤ x) g in
    cancelled d next (pos 0) some (omega (arith, ints, e, left, right))

-- an entry that a pivot makes at its own place
cleared : (d p next beside : ℤ) → pos 0 <ℤ d → d *ℤ next ≡ (p *ℤ beside) -ℤ (beside *ℤ p) → next ≡ pos 0
cleared d p next beside some e = cancelled d next (pos 0) some (omega (arith, ints, e, *ℤ_comm p beside))

-- a combination at two places, with a rest, stays one
row_stays : (pool : ColumnPool) (begun before after : Table) (basis : List ℕ) (row place i j : ℕ) (rest rest_there next_rest : ℤ) → row < length basis
    → before.rows ≡ last_row pool + 1 → before.width ≡ places pool → pos 0 <ℤ before.denominator → IsBasis pool begun before basis
    → IsPivot row place before after → j < places pool
    → before.denominator *ℤ entry_of begun i j ≡ rest +ℤ combined pool begun before basis i j
    → before.denominator *ℤ entry_of begun i place ≡ rest_there +ℤ combined pool begun before basis i place
    → before.denominator *ℤ next_rest ≡ (entry_of before row place *ℤ rest) -ℤ (rest_there *ℤ entry_of before row j)
    → after.denominator *ℤ entry_of begun i j ≡ next_rest +ℤ combined pool begun after (set basis row place) i j
row_stays pool begun before after basis row place i j rest rest_there next_rest within rows width some is pivot in_row here there next =
    let in_width : j < before.width = omega (arith, width, in_row) in
    let row_in : row < before.rows = omega (arith, pivot.not_last) in
    let total = total_exchanged (last_row pool) row before.denominator (entry_of before row place) (entry_of before row j) (entry_of begun i place)
    (λ k. entry_of begun i (basic_place basis k)) (λ k. entry_of begun i (basic_place (set basis row place) k)) (λ k. entry_of before k j)
    (λ k. entry_of before k place) (λ k. entry_of after k j) (omega (arith, within, is.count))
    (λ k low other. ap (λ (x : ℕ). entry_of begun i x) (get_or-set_other basis row k place 0 other))
    (λ k low other. (pivot.entries k j (omega (arith, rows, low)) in_width).others other)
    refl refl ((pivot.entries row j row_in in_width).stays refl) (ap (λ (x : ℕ). entry_of begun i x) (get_or-set_same basis row place 0 within)) in
    ap (λ (x : ℤ). x *ℤ entry_of begun i j) pivot.denominator
    ∙ combination_stays before.denominator (entry_of before row place) (entry_of before row j) (entry_of begun i j) (entry_of begun i place) rest rest_there
    next_rest (combined pool begun before basis i j) (combined pool begun before basis i place) (combined pool begun after (set basis row place) i j) some
    here there next total

zero_before : (x y : ℤ) → x ≡ y → x ≡ pos 0 +ℤ y
zero_before x y e = omega (arith, ints, e)

zero_dropped : (x y : ℤ) → x ≡ pos 0 +ℤ y → x ≡ y
zero_dropped x y e = omega (arith, ints, e)

no_rest : (d p above : ℤ) → d *ℤ pos 0 ≡ (p *ℤ pos 0) -ℤ (pos 0 *ℤ above)
no_rest d p above = let none = *ℤ_comm (pos 0) above in omega (arith, ints, none)

-- a pivot takes a basis to the basis in which its place is that of its row
pub basis_stays : (pool : ColumnPool) (begun before after : Table) (basis : List ℕ) (row place : ℕ)
    → before.rows ≡ last_row pool + 1 → before.width ≡ places pool → pos 0 <ℤ before.denominator → IsBasis pool begun before basis
    → IsPivot row place before after → IsBasis pool begun after (set basis row place)
basis_stays pool begun before after basis row place rows width some is pivot =
    let n = last_row pool in
    let within : row < length basis = omega (arith, pivot.not_last, rows, is.count) in
    let row_in : row < before.rows = omega (arith, pivot.not_last) in
    let low = λ (k : ℕ) (h : k < n). let l : k < before.rows = omega (arith, rows, h) in l in
    let under = λ (k : ℕ) (h : k ≤ n). let l : k < before.rows = omega (arith, rows, h) in l in
    let basic = λ (k : ℕ) (h : k < n). let l : slice_index basis k < before.width = omega (arith, width, is.within k h) in l in
    record {
      count = length-set basis row place ∙ is.count;
      not_first = placed (λ k x. k < n → 1 ≤ x) basis row place within (λ h. pivot.not_first) (λ k other h. is.not_first k h);
      within = placed (λ k x. k < n → x < places pool) basis row place within (λ h. omega (arith, width, pivot.within)) (λ k other h. is.within k h);
      own = placed (λ k x. k < n → entry_of after k x ≡ after.denominator) basis row place within
          (λ h. (pivot.entries row place row_in pivot.within).stays refl ∙ sym pivot.denominator)
          (λ k other h. own_stays before.denominator (entry_of before row place) _ _ _ _ some ((pivot.entries k _ (low k h) (basic k h)).others other)
          (is.own k h)
          (is.others row k (omega (arith, within, is.count)) h (λ e. other (sym e))) ∙ sym pivot.denominator);
      others = λ i k high h apart. placed (λ k x. k < n → i ≢ k → entry_of after i x ≡ pos 0) basis row place within
          (λ h apart. cleared before.denominator (entry_of before row place) _ (entry_of before i place) some
          ((pivot.entries i place (under i high) pivot.within).others apart))
          (λ k other h apart. ⊎_elim
          (λ (same : i ≡ row). subst (λ (r : ℕ). entry_of after r (slice_index basis k) ≡ pos 0) (sym same)
          ((pivot.entries row _ row_in (basic k h)).stays refl ∙ is.others row k (omega (arith, within, is.count)) h (λ e. other (sym e))))
          (λ (differ : i ≢ row). none_stays before.denominator (entry_of before row place) _ _ _ _ some
          ((pivot.entries i _ (under i high) (basic k h)).others differ) (is.others i k high h apart)
          (is.others row k (omega (arith, within, is.count)) h (λ e. other (sym e))))
          (is_or_not i row)) k h apart;
      columns = λ i j h in_row. zero_dropped _ _
          (row_stays pool begun before after basis row place i j (pos 0) (pos 0) (pos 0) within rows width some is pivot in_row
          (zero_before _ _ (is.columns i j h in_row)) (zero_before _ _ (is.columns i place h (omega (arith, width, pivot.within))))
          (no_rest before.denominator (entry_of before row place) (entry_of before row j)));
      last = λ j in_row. row_stays pool begun before after basis row place n j (entry_of before n j) (entry_of before n place) (entry_of after n j)
          within rows width some is pivot in_row (is.last j in_row) (is.last place (omega (arith, width, pivot.within)))
          ((pivot.entries n j (omega (arith, rows)) (omega (arith, width, in_row))).others (λ e. omega (arith, e, within, is.count)));
    }
