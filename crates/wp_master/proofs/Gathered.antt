-- A pivot keeps the rows combinations of the start table's rows.
use Rattle.std.proofs.Common.{◌≡◌, ◌≢◌, ⊎_elim, ℕ, ◌+◌, ◌<◌, ◌≤◌, ℤ, pos, ◌+ℤ◌, ◌-ℤ◌, ◌*ℤ◌, ◌<ℤ◌, arith, ap, sym, subst, refl, ◌∙◌}
use Rattle.std.proofs.Math.IntN.{*ℤ_comm}
use Rattle.std.proofs.lemmas.Int.{ints}
use Rattle.wp_master.proofs.Bases.{cancelled, is_or_not}
use Rattle.wp_master.proofs.Numbers.{product_of_product, product_of_sum}
use Rattle.wp_master.proofs.Sums.{factors_swapped, product_of_difference, total_of_differences, total_times}
use Rattle.wp_master.proofs.Totals.{same_total}
use Rattle.wp_master.specs.Bases.{total_below}
use Rattle.wp_master.specs.Pivots.{IsPivot, Table, column_place, entry_of, last_row, places}
use Rattle.wp_master.specs.Pools.{ColumnPool}
use Rattle.wp_master.specs.Runs.{AreGathered, gathered}

-- what a pivot makes of an entry, times a start row's entry
times_exchanged : (d s next p t beside above : ℤ) → d *ℤ next ≡ (p *ℤ t) -ℤ (beside *ℤ above)
    → d *ℤ (next *ℤ s) ≡ (p *ℤ (t *ℤ s)) -ℤ (beside *ℤ (above *ℤ s))
times_exchanged d s next p t beside above e =
    let whole = sym (product_of_product d next s) ∙ ap (λ (x : ℤ). x *ℤ s) e ∙ *ℤ_comm ((p *ℤ t) -ℤ (beside *ℤ above)) s
    ∙ product_of_difference s (p *ℤ t) (beside *ℤ above) in
    let left = *ℤ_comm s (p *ℤ t) ∙ product_of_product p t s in
    let right = *ℤ_comm s (beside *ℤ above) ∙ product_of_product beside above s in
    omega (arith, ints, whole, left, right)

-- the sum of such
total_gathered : (n : ℕ) (d p beside : ℤ) (s next t above : ℕ → ℤ) → ((k : ℕ) → k < n → d *ℤ next k ≡ (p *ℤ t k) -ℤ (beside *ℤ above k))
    → d *ℤ total_below n (λ k. next k *ℤ s k) ≡ (p *ℤ total_below n (λ k. t k *ℤ s k)) -ℤ (beside *ℤ total_below n (λ k. above k *ℤ s k))
total_gathered n d p beside s next t above each =
    let whole = total_times n d (λ k. next k *ℤ s k) in
    let same = same_total n (λ k. d *ℤ (next k *ℤ s k)) (λ k. (p *ℤ (t k *ℤ s k)) -ℤ (beside *ℤ (above k *ℤ s k)))
    (λ k low. times_exchanged d (s k) (next k) p (t k) beside (above k) (each k low)) in
    let apart = total_of_differences n (λ k. p *ℤ (t k *ℤ s k)) (λ k. beside *ℤ (above k *ℤ s k)) in
    let left = total_times n p (λ k. t k *ℤ s k) in
    let right = total_times n beside (λ k. above k *ℤ s k) in
    omega (arith, ints, whole, same, apart, left, right)

-- an entry that is a sum with a rest stays one
sum_stays : (d p beside at above next sum sum_above next_sum rest next_rest : ℤ) → pos 0 <ℤ d → d *ℤ next ≡ (p *ℤ at) -ℤ (beside *ℤ above)
    → at ≡ rest +ℤ sum → above ≡ sum_above → d *ℤ next_sum ≡ (p *ℤ sum) -ℤ (beside *ℤ sum_above) → d *ℤ next_rest ≡ p *ℤ rest → next ≡ next_rest +ℤ next_sum
sum_stays d p beside at above next sum sum_above next_sum rest next_rest some e f g h i =
    let left = ap (λ (x : ℤ). p *ℤ x) f ∙ product_of_sum p rest sum in
    let right = ap (λ (x : ℤ). beside *ℤ x) g in
    let whole = product_of_sum d next_rest next_sum in
    cancelled d next (next_rest +ℤ next_sum) some (omega (arith, ints, e, left, right, whole, h, i))

zero_before : (x y : ℤ) → x ≡ y → x ≡ pos 0 +ℤ y
zero_before x y e = omega (arith, ints, e)

zero_dropped : (x y : ℤ) → x ≡ pos 0 +ℤ y → x ≡ y
zero_dropped x y e = omega (arith, ints, e)

no_rest : (d p : ℤ) → d *ℤ pos 0 ≡ p *ℤ pos 0
no_rest d p = omega (arith, ints)

-- a row that isn't the pivot's, with a rest
row_gathered : (pool : ColumnPool) (begun before after : Table) (row place i j : ℕ) (rest next_rest : ℤ) → before.rows ≡ last_row pool + 1
    → before.width ≡ places pool → pos 0 <ℤ before.denominator → IsPivot row place before after → i ≤ last_row pool → i ≢ row → j < places pool
    → entry_of before i j ≡ rest +ℤ gathered pool begun before i j → entry_of before row j ≡ gathered pool begun before row j
    → before.denominator *ℤ next_rest ≡ entry_of before row place *ℤ rest → entry_of after i j ≡ next_rest +ℤ gathered pool begun after i j
row_gathered pool begun before after row place i j rest next_rest rows width some pivot high other in_row here above next =
    let low : i < before.rows = omega (arith, rows, high) in
    let total = total_gathered (last_row pool) before.denominator (entry_of before row place) (entry_of before i place) (λ k. entry_of begun k j)
    (λ k. entry_of after i (column_place k)) (λ k. entry_of before i (column_place k)) (λ k. entry_of before row (column_place k))
    (λ k known. (pivot.entries i (column_place k) low (omega (arith, width, known))).others other) in
    sum_stays before.denominator (entry_of before row place) (entry_of before i place) (entry_of before i j) (entry_of before row j) (entry_of after i j)
    (gathered pool begun before i j) (gathered pool begun before row j) (gathered pool begun after i j) rest next_rest some
    ((pivot.entries i j low (omega (arith, width, in_row))).others other) here above total next

-- the pivot's row stays as it is
own_gathered : (pool : ColumnPool) (begun before after : Table) (row place j : ℕ) → before.width ≡ places pool → IsPivot row place before after
    → j < places pool → entry_of before row j ≡ gathered pool begun before row j → entry_of after row j ≡ gathered pool begun after row j
own_gathered pool begun before after row place j width pivot in_row here =
    let same = λ (k : ℕ) (h : k < before.width). (pivot.entries row k (omega (arith, pivot.not_last)) h).stays refl in
    same j (omega (arith, width, in_row)) ∙ here ∙ sym (same_total (last_row pool) (λ (k : ℕ). entry_of after row (column_place k) *ℤ entry_of begun k j)
    (λ (k : ℕ). entry_of before row (column_place k) *ℤ entry_of begun k j)
    (λ k known. ap (λ (x : ℤ). x *ℤ entry_of begun k j) (same (column_place k) (omega (arith, width, known)))))

last_rest : (d p s after : ℤ) → after ≡ p → d *ℤ (after *ℤ s) ≡ p *ℤ (d *ℤ s)
last_rest d p s after e = ap (λ (x : ℤ). d *ℤ (x *ℤ s)) e ∙ factors_swapped d p s

-- a pivot keeps the rows combinations of the start table's rows
pub gathered_stays : (pool : ColumnPool) (begun before after : Table) (row place : ℕ) → before.rows ≡ last_row pool + 1 → before.width ≡ places pool
    → pos 0 <ℤ before.denominator → IsPivot row place before after → AreGathered pool begun before → AreGathered pool begun after
gathered_stays pool begun before after row place rows width some pivot are =
    let low : row < last_row pool = omega (arith, rows, pivot.not_last) in
    record {
      columns = λ i j known in_row. ⊎_elim
          (λ (here : i ≡ row). subst (λ (r : ℕ). entry_of after r j ≡ gathered pool begun after r j) (sym here)
          (own_gathered pool begun before after row place j width pivot in_row (are.columns row j low in_row)))
          (λ (other : i ≢ row). zero_dropped _ _ (row_gathered pool begun before after row place i j (pos 0) (pos 0) rows width some pivot
          (omega (arith, known))
          other in_row (zero_before _ _ (are.columns i j known in_row)) (are.columns row j low in_row)
          (no_rest before.denominator (entry_of before row place))))
          (is_or_not i row);
      last = λ j in_row. row_gathered pool begun before after row place (last_row pool) j (before.denominator *ℤ entry_of begun (last_row pool) j)
          (after.denominator *ℤ entry_of begun (last_row pool) j) rows width some pivot (omega arith) (λ e. omega (arith, e, low)) in_row
          (are.last j in_row) (are.columns row j low in_row)
          (last_rest before.denominator (entry_of before row place) (entry_of begun (last_row pool) j) after.denominator pivot.denominator);
    }
