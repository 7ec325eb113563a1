-- Dealing in falling order, each length to a picker with the least load, leaves no load much above another.
use Rattle.std.proofs.Common.{◌≡◌, ◌≢◌, ℕ, ◌+◌, ◌*◌, ◌^◌, ◌<◌, ◌≤◌, List, length, get_or, set, replicate, arith, ap, sym, ◌∙◌, subst, inl, inr, sum, nat_lt}
use Rattle.std.specs.List.{IsFirstBest}
use Rattle.std.proofs.lemmas.Bool.{cases_eq}
use Rattle.std.proofs.lemmas.Bool.Decides.{nat_tests}
use Rattle.std.proofs.lemmas.List.{get_or-set_same, get_or-set_other, length-set, length-replicate, get_or-replicate}
use Rattle.std.proofs.lemmas.List.Elements.{All-replicate, All-from_get_or}
use Rattle.std.proofs.lemmas.List.Sums.{sum_by-le}
use Rattle.wp_crew.specs.Crews.{load}
use Rattle.wp_crew.specs.Turns.{AreFallingTurns, AreFew, AreTurns, IsBalanced, length_at, place_at}
use Rattle.wp_crew.specs.declared.turns.PlacedLength.{PlacedLength}
use Rattle.wp_crew.proofs.LoadSums.{load-set_same, load-set_other, load_nobody}

-- few lengths come to no more than fits
pub sum_of_few : (lengths : List ℕ) → AreFew lengths → sum lengths ≤ 1000000 * 2 ^ 40
sum_of_few lengths few = omega (arith, few.count, sum_by-le (λ (x : ℕ). x) (2 ^ 40) lengths few.each)

-- the first turns are done: their lengths are dealt, and the others aren't
pub record IsDealt (lengths : List ℕ) (turns : List PlacedLength) (pickers count : ℕ) (loads picker_of : List ℕ) : Type 0 where
  pub loaded : length loads ≡ pickers
  pub each : length picker_of ≡ length lengths
  pub sums : (picker : ℕ) → picker < pickers → get_or loads picker 0 ≡ load lengths picker_of picker
  pub given : (at : ℕ) → at < count → get_or picker_of (place_at turns at) 0 < pickers
  pub waiting : (at : ℕ) → count ≤ at → at < length turns → get_or picker_of (place_at turns at) 0 ≡ pickers
  pub balanced : (at other : ℕ) → at < count → other < pickers
      → get_or loads (get_or picker_of (place_at turns at) 0) 0 ≤ get_or loads other 0 + length_at turns at

pub none_dealt : (lengths : List ℕ) (turns : List PlacedLength) (pickers : ℕ) → AreTurns lengths turns
    → IsDealt lengths turns pickers 0 (replicate pickers 0) (replicate (length lengths) pickers)
none_dealt lengths turns pickers are = record {
  loaded = length-replicate pickers 0;
  each = length-replicate (length lengths) pickers;
  sums = λ picker low. get_or-replicate pickers picker 0 0 low
      ∙ sym (load_nobody lengths (replicate (length lengths) pickers) picker
      (All-replicate (λ owner. owner ≢ picker) (length lengths) pickers (omega arith)));
  given = λ at low. absurd (omega arith);
  waiting = λ at high low. get_or-replicate (length lengths) (place_at turns at) pickers 0 (are.within at low);
  balanced = λ at other low less. absurd (omega arith);
}

-- no load is below that of the picker who is taken
pub least_load : (loads : List ℕ) (picker other : ℕ) → IsFirstBest nat_lt loads (length loads) picker → other < length loads
    → get_or loads picker 0 ≤ get_or loads other 0
least_load loads picker other best low = let e = best.1 other 0 low in grind (arith, nat_tests)

-- the picker's load with the length of the turn
pub load_with : (lengths : List ℕ) (turns : List PlacedLength) (pickers count : ℕ) (loads picker_of : List ℕ) (picker : ℕ)
    → AreTurns lengths turns → IsDealt lengths turns pickers count loads picker_of → count < length turns → picker < pickers
    → load lengths (set picker_of (place_at turns count) picker) picker ≡ get_or loads picker 0 + length_at turns count
load_with lengths turns pickers count loads picker_of picker are is low less =
    omega (
      arith,
      load-set_same lengths picker_of (place_at turns count) picker is.each (are.within count low)
          (omega (arith, is.waiting count (omega arith) low)),
      is.sums picker less,
      are.right count low,
    )

pub one_dealt : (lengths : List ℕ) (turns : List PlacedLength) (pickers count : ℕ) (loads picker_of : List ℕ) (picker : ℕ)
    → AreFallingTurns lengths turns → IsDealt lengths turns pickers count loads picker_of → count < length turns
    → IsFirstBest nat_lt loads (length loads) picker
    → IsDealt lengths turns pickers (count + 1) (set loads picker (get_or loads picker 0 + length_at turns count))
    (set picker_of (place_at turns count) picker)
one_dealt lengths turns pickers count loads picker_of picker falling is low best =
    let are = falling.one_each in
    let place = place_at turns count in
    let more = get_or loads picker 0 + length_at turns count in
    let less : picker < pickers = omega (arith, best.0, is.loaded) in
    let mine = get_or-set_same loads picker more 0 (omega (arith, less, is.loaded)) in
    let here = get_or-set_same picker_of place picker 0 (omega (arith, are.within count low, is.each)) in
    let moved = λ (at : ℕ) (within : at < length turns) (ne : at ≢ count).
    get_or-set_other picker_of place (place_at turns at) picker 0 (λ same. ne (are.apart at count within low same)) in
    let others = λ (other : ℕ) (ne : other ≢ picker). get_or-set_other loads picker other more 0 ne in
    let least = λ (other : ℕ) (in_list : other < pickers). least_load loads picker other best (omega (arith, in_list, is.loaded)) in
    record {
      loaded = length-set loads picker more ∙ is.loaded;
      each = length-set picker_of place picker ∙ is.each;
      sums = λ other in_list. elim (cases_eq other picker) [
        | inl e ↦ subst (λ k. get_or (set loads picker more) k 0 ≡ load lengths (set picker_of place picker) k) (sym e)
            (mine ∙ sym (load_with lengths turns pickers count loads picker_of picker are is low less))
        | inr ne ↦ others other ne ∙ is.sums other in_list ∙ sym (load-set_other lengths picker_of place picker other is.each (are.within count low)
            (omega (arith, is.waiting count (omega arith) low)) (λ e. ne (sym e)))
      ];
      given = λ at before. elim (cases_eq at count) [
        | inl e ↦ subst (λ k. get_or (set picker_of place picker) (place_at turns k) 0 < pickers) (sym e) (omega (arith, here, less))
        | inr ne ↦ omega (arith, moved at (omega arith) ne, is.given at (omega (arith, ne)))
      ];
      waiting = λ at after within. moved at within (omega arith) ∙ is.waiting at (omega arith) within;
      balanced = λ at other before in_list. elim (cases_eq at count) [
        | inl e ↦ subst (λ k. get_or (set loads picker more) (get_or (set picker_of place picker) (place_at turns k) 0) 0
            ≤ get_or (set loads picker more) other 0 + length_at turns k) (sym e)
            (let own = ap (λ k. get_or (set loads picker more) k 0) here ∙ mine in
            elim (cases_eq other picker) [
              | inl same ↦ omega (arith, own, ap (λ k. get_or (set loads picker more) k 0) same, mine)
              | inr apart ↦ omega (arith, own, others other apart, least other in_list)
            ])
        | inr ne ↦
            let within : at < length turns = omega arith in
            let owner = get_or picker_of (place_at turns at) 0 in
            let same_owner = ap (λ k. get_or (set loads picker more) k 0) (moved at within ne) in
            let old = is.balanced at other (omega (arith, ne)) in_list in
            let falls = falling.falling at count (omega arith) low in
            elim (cases_eq owner picker) [
              | inl e ↦
                  let own = same_owner ∙ ap (λ k. get_or (set loads picker more) k 0) e ∙ mine in
                  elim (cases_eq other picker) [
                    | inl same ↦ omega (arith, own, ap (λ k. get_or (set loads picker more) k 0) same, mine)
                    | inr apart ↦ omega (arith, own, others other apart, least other in_list, falls)
                  ]
              | inr away ↦
                  let own = same_owner ∙ others owner away in
                  elim (cases_eq other picker) [
                    | inl same ↦ omega (arith, own, old, ap (λ k. get_or (set loads picker more) k 0) same, mine, ap (λ k. get_or loads k 0) same)
                    | inr apart ↦ omega (arith, own, old, others other apart)
                  ]
            ]
      ];
    }

pub all_dealt : (lengths : List ℕ) (turns : List PlacedLength) (pickers count : ℕ) (loads picker_of : List ℕ) → AreTurns lengths turns
    → length turns ≤ count → IsDealt lengths turns pickers count loads picker_of → IsBalanced lengths pickers picker_of
all_dealt lengths turns pickers count loads picker_of are all is =
    let below = λ (place : ℕ) (within : place < length lengths).
    let turn = are.every place within in
    subst (λ k. get_or picker_of k 0 < pickers) turn.2 (is.given turn.0 (omega (arith, turn.1))) in
    record {
      assigned = record {
        each = is.each;
        below = All-from_get_or (λ picker. picker < pickers) picker_of 0 (λ place within. below place (omega (arith, within, is.each)));
      };
      balanced = λ place other within in_list.
          let turn = are.every place within in
          let own = is.sums (get_or picker_of place 0) (below place within) in
          let right = are.right turn.0 turn.1 ∙ ap (λ k. get_or lengths k 0) turn.2 in
          let old = subst (λ k. get_or loads (get_or picker_of k 0) 0 ≤ get_or loads other 0 + length_at turns turn.0) turn.2
          (is.balanced turn.0 other (omega (arith, turn.1)) in_list) in
          omega (arith, own, right, old, is.sums other in_list);
    }
