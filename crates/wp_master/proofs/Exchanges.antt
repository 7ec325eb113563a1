-- The exchanges of a pivot, entry by entry and row by row.
use Rattle.std.proofs.Common.{◌≡◌, ◌≢◌, ◌⊎◌, ⊎_elim, ℕ, ◌+◌, ◌*◌, ◌/◌, ◌%◌, ◌<◌, ◌≤◌, ℤ, pos, ◌*ℤ◌, ◌-ℤ◌, ◌<ℤ◌, List, length, replicate, set, arith, refl, ap}
use Rattle.std.proofs.Common.{sym, subst, ◌∙◌}
use Rattle.std.proofs.Math.IntN.{*ℤ_comm}
use Rattle.std.proofs.lemmas.Int.{ints}
use Rattle.std.proofs.lemmas.List.{get_or-replicate, get_or-set_other, get_or-set_same, length-replicate, length-set}
use Rattle.std.proofs.lemmas.Nat.{div-mul-add, mod-mul-add}
use Rattle.std.specs.Prelude.{slice_index, slice_index_or}
use Rattle.wp_master.proofs.Entries.{same_exchange, wide_entries, within_rows}
use Rattle.wp_master.proofs.Products.{wide_along}
use Rattle.wp_master.specs.Exchanges.{AreExchanged, AreFactors, AreFilled, HaveOneShape, IsClear, IsEntryExchanged, IsPut, IsRowExchanged, IsRowWhole}
use Rattle.wp_master.specs.Exchanges.{IsRowWide, exchange_by}
use Rattle.wp_master.specs.declared.filled.Filled.{Filled}
use Rattle.wp_master.specs.declared.grid.Factors.{Factors}
use Rattle.wp_master.specs.Pivots.{AreWhole, AreWideEntries, IsPivot, IsTable, IsWideFor, Table, entry_of, exchange_of}

row_of_number : (i k w j l : ℕ) → j < w → l < w → i * w + j ≡ k * w + l → i ≡ k
row_of_number i k w j l low known same = sym (div-mul-add i w j low) ∙ ap (λ (n : ℕ). n / w) same ∙ div-mul-add k w l known

place_of_number : (i k w j l : ℕ) → j < w → l < w → i * w + j ≡ k * w + l → j ≡ l
place_of_number i k w j l low known same = sym (mod-mul-add i w j low) ∙ ap (λ (n : ℕ). n % w) same ∙ mod-mul-add k w l known

-- a table whose entries are those of another with one set
pub put_is : (before after : Table) (row place : ℕ) (entry : ℤ) → IsTable before → row < before.rows → place < before.width → after.rows ≡ before.rows
    → after.width ≡ before.width → after.denominator ≡ before.denominator
    → after.entries ≡ set before.entries (row * before.width + place) entry → IsPut before row place entry after
put_is before after row place entry is known within rows width denominator same =
    let at = λ (i j : ℕ). ap (λ (xs : List ℤ). slice_index_or xs (i * after.width + j) (pos 0)) same
    ∙ ap (λ (w : ℕ). slice_index_or (set before.entries (row * before.width + place) entry) (i * w + j) (pos 0)) width in
    record {
      shape = record { rows = rows; width = width; denominator = denominator };
      own = at row place ∙ get_or-set_same before.entries (row * before.width + place) entry (pos 0)
          (omega (arith, within_rows before.rows before.width row place known within, is.count));
      other_rows = λ i j low apart. at i j ∙ get_or-set_other before.entries (row * before.width + place) (i * before.width + j) entry (pos 0)
          (λ e. apart (row_of_number i row before.width j place low within e));
      other_places = λ j low apart. at row j ∙ get_or-set_other before.entries (row * before.width + place) (row * before.width + j) entry (pos 0)
          (λ e. apart (place_of_number row row before.width j place low within e));
    }

-- an entry stays where the pivot is the denominator and its row has 0 at the pivot's place
pub same_kept : (d p own beside above : ℤ) → p ≡ d → beside ≡ pos 0 → d *ℤ own ≡ (p *ℤ own) -ℤ (beside *ℤ above)
same_kept d p own beside above e f =
    let one = ap (λ (x : ℤ). x *ℤ own) e in
    let three = ap (λ (x : ℤ). x *ℤ above) f ∙ *ℤ_comm (pos 0) above in
    omega (arith, ints, one, three)

same_shape : (table : Table) → HaveOneShape table table
same_shape table = record { rows = refl; width = refl; denominator = refl }

-- no entry of a row is exchanged yet
pub row_untouched : (table : Table) (row place i : ℕ) → IsRowExchanged table table row place i 0
row_untouched table row place i = record {
  shape = same_shape table;
  done = λ j early low. absurd (omega (arith, early));
  later = λ j late low. refl;
  others = λ k j low apart. refl;
}

-- a row that has 0 at the pivot's place stays, where the pivot is the denominator
pub row_stays : (table : Table) (row place i : ℕ) → entry_of table i place ≡ pos 0 → entry_of table row place ≡ table.denominator
    → IsRowExchanged table table row place i table.width
row_stays table row place i none same = record {
  shape = same_shape table;
  done = λ j early low. same_kept table.denominator (entry_of table row place) (entry_of table i j) (entry_of table i place) (entry_of table row j) same none;
  later = λ j late low. absurd (omega (arith, late, low));
  others = λ k j low apart. refl;
}

is_or_not : (j k : ℕ) → (j ≡ k) ⊎ (j ≢ k)
is_or_not j k = grind arith

here_or_later : (j k : ℕ) → k ≤ j → (j ≡ k) ⊎ (k + 1 ≤ j)
here_or_later j k late = grind arith

lower_or_here : (j k : ℕ) → j < k + 1 → (j < k) ⊎ (j ≡ k)
lower_or_here j k h = grind arith

-- one more entry of a row is exchanged
row_more : (before now after : Table) (row place i j : ℕ) (entry : ℤ) → IsRowExchanged before now row place i j → IsPut now i j entry after
    → before.denominator *ℤ entry ≡ exchange_of before row place i j → IsRowExchanged before after row place i (j + 1)
row_more before now after row place i j entry is put new = record {
  shape = record {
    rows = put.shape.rows ∙ is.shape.rows;
    width = put.shape.width ∙ is.shape.width;
    denominator = put.shape.denominator ∙ is.shape.denominator;
  };
  done = λ l early low. ⊎_elim
      (λ (less : l < j). ap (λ (x : ℤ). before.denominator *ℤ x) (put.other_places l (omega (arith, low, is.shape.width)) (λ e. omega (arith, e, less)))
      ∙ is.done l less low)
      (λ (here : l ≡ j). subst (λ (n : ℕ). before.denominator *ℤ entry_of after i n ≡ exchange_of before row place i n) (sym here)
      (ap (λ (x : ℤ). before.denominator *ℤ x) put.own ∙ new))
      (lower_or_here l j early);
  later = λ l late low. put.other_places l (omega (arith, low, is.shape.width)) (λ e. omega (arith, e, late)) ∙ is.later l (omega (arith, late)) low;
  others = λ k l low apart. put.other_rows k l (omega (arith, low, is.shape.width)) apart ∙ is.others k l low apart;
}

-- an entry of a row that isn't exchanged yet, and what it is exchanged to
factors_exchange : (before now : Table) (row i j : ℕ) (by : Factors) → IsRowExchanged before now row by.place i j → j < before.width → i ≢ row
    → AreFactors before row i by → exchange_by by.pivot by.beside now row i j ≡ exchange_of before row by.place i j
factors_exchange before now row i j by is known apart are =
    same_exchange _ _ _ _ _ _ _ _ are.pivot (is.later j (omega arith) known) are.beside (is.others row j known (λ e. apart (sym e)))

-- which is a multiple of the denominator
pub factors_whole : (before now : Table) (row i j : ℕ) (by : Factors) → IsRowExchanged before now row by.place i j → j < before.width → i ≢ row
    → AreFactors before row i by → IsRowWhole before row by.place i → (x : ℤ) × (by.over.denominator *ℤ x ≡ exchange_by by.pivot by.beside now row i j)
factors_whole before now row i j by is known apart are whole =
    let entry = whole j known in
    (entry.0, ap (λ (x : ℤ). x *ℤ entry.0) are.denominator ∙ entry.1 ∙ sym (factors_exchange before now row i j by is known apart are))

-- factors that are too wide for it are so for the row
pub factors_wide : (before now : Table) (row i j : ℕ) (by : Factors) (left right : ℤ) → IsRowExchanged before now row by.place i j → j < before.width
    → i ≢ row → AreFactors before row i by → IsWideFor by.pivot (entry_of now i j) by.beside (entry_of now row j) left right
    → IsRowWide before row by.place i left right
factors_wide before now row i j by left right is known apart are wide = (
  j,
  known,
  wide_along _ _ _ _ _ _ _ _ left right are.pivot (is.later j (omega arith) known) are.beside (is.others row j known (λ e. apart (sym e))) wide,
)

-- one more entry of a row is exchanged
pub factors_more : (before now after : Table) (row i j : ℕ) (by : Factors) → IsRowExchanged before now row by.place i j → j < before.width → i ≢ row
    → AreFactors before row i by → IsEntryExchanged now by row i j after → IsRowExchanged before after row by.place i (j + 1)
factors_more before now after row i j by is known apart are next =
    row_more before now after row by.place i j next.entry is next.put (ap (λ (x : ℤ). x *ℤ next.entry) (sym are.denominator) ∙ next.is
    ∙ factors_exchange before now row i j by is known apart are)

-- an entry stays where the pivot is the denominator and the pivot's row has 0 in its column
kept_below : (d p own beside above : ℤ) → p ≡ d → above ≡ pos 0 → d *ℤ own ≡ (p *ℤ own) -ℤ (beside *ℤ above)
kept_below d p own beside above e f =
    let one = ap (λ (x : ℤ). x *ℤ own) e in
    let three = ap (λ (x : ℤ). beside *ℤ x) f in
    omega (arith, ints, one, three)

lower_or_later : (j k : ℕ) → (j < k) ⊎ (k ≤ j)
lower_or_later j k = grind arith

-- entries in whose columns the pivot's row has 0 are as they are to be, where the pivot is the denominator
pub clear_passed : (before now : Table) (row place i from next : ℕ) → IsRowExchanged before now row place i from → from ≤ next
    → IsClear before row from next → entry_of before row place ≡ before.denominator → IsRowExchanged before now row place i next
clear_passed before now row place i from next is order clear same = record {
  shape = is.shape;
  done = λ j early known. ⊎_elim (λ (less : j < from). is.done j less known)
      (λ (late : from ≤ j). ap (λ (x : ℤ). before.denominator *ℤ x) (is.later j late known)
      ∙ kept_below before.denominator _ _ _ _ same (clear j late early known))
      (lower_or_later j from);
  later = λ j late known. is.later j (omega (arith, late, order)) known;
  others = is.others;
}

-- what is cleared from the place behind one on is so from that one on, where the row has 0 there
pub clear_here : (table : Table) (row place behind : ℕ) → IsClear table row (place + 1) behind → entry_of table row place ≡ pos 0
    → IsClear table row place behind
clear_here table row place behind clear none = λ j late early known. ⊎_elim
    (λ (here : j ≡ place). subst (λ (n : ℕ). entry_of table row n ≡ pos 0) (sym here) none)
    (λ (later : place + 1 ≤ j). clear j later early known)
    (here_or_later j place late)

-- no row is exchanged yet
pub rows_untouched : (table : Table) (row place : ℕ) → AreExchanged table table row place 0
rows_untouched table row place = record {
  shape = same_shape table;
  done = λ i j early low apart known. absurd (omega (arith, early));
  own = λ j low. refl;
  later = λ i j late low known. refl;
}

not_at : (k row i : ℕ) → k ≢ row → i ≡ row → k ≢ i
not_at k row i apart here e = apart (e ∙ here)

-- the pivot's row is left out
pub row_left_out : (before now : Table) (row place i : ℕ) → i ≡ row → AreExchanged before now row place i → AreExchanged before now row place (i + 1)
row_left_out before now row place i here are = record {
  shape = are.shape;
  done = λ k j early low apart known. are.done k j (omega (arith, early, not_at k row i apart here)) low apart known;
  own = are.own;
  later = λ k j late low known. are.later k j (omega (arith, late)) low known;
}

-- the exchanges of a row that isn't exchanged yet
same_exchanges : (before now : Table) (row place i j : ℕ) → AreExchanged before now row place i → i < before.rows → place < before.width → j < before.width
    → exchange_of now row place i j ≡ exchange_of before row place i j
same_exchanges before now row place i j are low within known =
    same_exchange _ _ _ _ _ _ _ _ (are.own place within) (are.later i j (omega arith) low known) (are.later i place (omega arith) low within) (are.own j known)

-- one more row is exchanged
pub rows_more : (before now after : Table) (row place i : ℕ) → i < before.rows → place < before.width → i ≢ row → AreExchanged before now row place i
    → IsRowExchanged now after row place i now.width → AreExchanged before after row place (i + 1)
rows_more before now after row place i low within apart are is = record {
  shape = record {
    rows = is.shape.rows ∙ are.shape.rows;
    width = is.shape.width ∙ are.shape.width;
    denominator = is.shape.denominator ∙ are.shape.denominator;
  };
  done = λ k j early known other in_row. ⊎_elim
      (λ (less : k < i). ap (λ (x : ℤ). before.denominator *ℤ x) (is.others k j (omega (arith, in_row, are.shape.width)) (λ e. omega (arith, e, less)))
      ∙ are.done k j less known other in_row)
      (λ (here : k ≡ i). subst (λ (n : ℕ). before.denominator *ℤ entry_of after n j ≡ exchange_of before row place n j) (sym here)
      (ap (λ (x : ℤ). x *ℤ entry_of after i j) (sym are.shape.denominator)
      ∙ is.done j (omega (arith, in_row, are.shape.width)) (omega (arith, in_row, are.shape.width))
      ∙ same_exchanges before now row place i j are low within in_row))
      (lower_or_here k i early);
  own = λ j in_row. is.others row j (omega (arith, in_row, are.shape.width)) (λ e. apart (sym e)) ∙ are.own j in_row;
  later = λ k j late known in_row. is.others k j (omega (arith, in_row, are.shape.width)) (λ e. omega (arith, e, late)) ∙ are.later k j
      (omega (arith, late)) known in_row;
}

-- the exchanges of a row that isn't exchanged yet are multiples of the denominator
pub row_is_whole : (before now : Table) (row place i : ℕ) → AreExchanged before now row place i → AreWhole before row place → i < before.rows
    → place < before.width → i ≢ row → IsRowWhole now row place i
row_is_whole before now row place i are whole low within apart = λ j known.
    let in_row : j < before.width = omega (arith, known, are.shape.width) in
    let entry = whole i j low apart in_row in
    (entry.0, ap (λ (x : ℤ). x *ℤ entry.0) are.shape.denominator ∙ entry.1 ∙ sym (same_exchanges before now row place i j are low within in_row))

-- factors that are too wide for such a row are so for the table
pub row_is_wide : (before now : Table) (row place i : ℕ) (left right : ℤ) → AreExchanged before now row place i → i < before.rows → row < before.rows
    → place < before.width → IsRowWide now row place i left right → AreWideEntries before left right
row_is_wide before now row place i left right are low known within wide =
    let in_row : wide.0 < before.width = omega (arith, wide.1, are.shape.width) in
    wide_entries before _ _ _ _ left right (row, place, known, within, refl) (i, wide.0, low, in_row, refl) (i, place, low, within, refl)
    (row, wide.0, known, in_row, refl)
    (wide_along _ _ _ _ _ _ _ _ left right (are.own place within) (are.later i wide.0 (omega arith) low in_row) (are.later i place (omega arith) low within)
    (are.own wide.0 in_row) wide.2)

entries_same : (now after : Table) (i j : ℕ) → after.width ≡ now.width → after.entries ≡ now.entries → entry_of after i j ≡ entry_of now i j
entries_same now after i j width same = ap (λ (xs : List ℤ). slice_index_or xs (i * after.width + j) (pos 0)) same
    ∙ ap (λ (w : ℕ). slice_index_or now.entries (i * w + j) (pos 0)) width

-- a table with all rows exchanged, over the pivot, is the next
pub pivot_is : (before now after : Table) (row place : ℕ) → row + 1 < before.rows → 1 ≤ place → place < before.width → pos 0 <ℤ entry_of before row place
    → AreExchanged before now row place before.rows → after.rows ≡ now.rows → after.width ≡ now.width → after.entries ≡ now.entries
    → after.denominator ≡ entry_of now row place → IsPivot row place before after
pivot_is before now after row place not_last not_first within above are rows width same denominator =
    let at = λ (i j : ℕ). entries_same now after i j width same in
    record {
      not_last = not_last;
      not_first = not_first;
      within = within;
      above = above;
      rows = rows ∙ are.shape.rows;
      width = width ∙ are.shape.width;
      entries = λ i j low known. record {
        stays = λ here. at i j ∙ subst (λ (r : ℕ). entry_of now r j ≡ entry_of before row j) (sym here) (are.own j known);
        others = λ apart. ap (λ (x : ℤ). before.denominator *ℤ x) (at i j) ∙ are.done i j low low apart known;
      };
      denominator = denominator ∙ are.own place within;
    }

-- where nothing is listed yet, a row is clear from no place on
pub none_listed : (table : Table) (row many : ℕ) (filled : Filled) → filled.nexts ≡ replicate many 0 → AreFilled table row filled
none_listed table row many filled is = λ from low j late early known.
    let within : from < many = subst (λ (n : ℕ). from < n) (ap (λ (xs : List ℕ). length xs) is ∙ length-replicate many 0) low in
    let zero : slice_index filled.nexts from ≡ 0 = ap (λ (xs : List ℕ). slice_index xs from) is ∙ get_or-replicate many from 0 0 within in
    absurd (omega (arith, early, zero))

-- one more place is listed
pub more_listed : (table : Table) (row from next : ℕ) (before after : Filled) → after.nexts ≡ set before.nexts from next → AreFilled table row before
    → IsClear table row from next → AreFilled table row after
more_listed table row from next before after is filled clear = λ k low.
    let within : k < length before.nexts = subst (λ (n : ℕ). k < n) (ap (λ (xs : List ℕ). length xs) is ∙ length-set before.nexts from next) low in
    ⊎_elim
    (λ (here : k ≡ from).
    let at : slice_index after.nexts k ≡ next = ap (λ (xs : List ℕ). slice_index xs k) is ∙ ap (λ (n : ℕ). slice_index (set before.nexts from next) n) here
    ∙ get_or-set_same before.nexts from next 0 (subst (λ (n : ℕ). n < length before.nexts) here within) in
    subst (IsClear table row k) (sym at) (subst (λ (n : ℕ). IsClear table row n next) (sym here) clear))
    (λ (apart : k ≢ from).
    let at : slice_index after.nexts k ≡ slice_index before.nexts k = ap (λ (xs : List ℕ). slice_index xs k) is
    ∙ get_or-set_other before.nexts from k next 0 apart in
    subst (IsClear table row k) (sym at) (filled k within))
    (is_or_not k from)
