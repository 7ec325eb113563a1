-- Loads that are added up length by length.
use Rattle.std.proofs.Common.{◌≡◌, ℕ, suc, ◌+◌, ◌*◌, ◌^◌, ◌<◌, ◌≤◌, List, [], length, get_or, set, take, replicate, ap, sym, ◌∙◌, subst, refl, arith, inl, inr}
use Rattle.std.proofs.lemmas.Bool.{cases_eq}
use Rattle.std.proofs.lemmas.List.{get_or-replicate, get_or-set_other, get_or-set_same, length-replicate, length-set, take_all}
use Rattle.std.proofs.lemmas.List.Elements.{All-get_or}
use Rattle.wp_crew.specs.Crews.{AreLoads, IsAssignment, load}
use Rattle.wp_crew.specs.Turns.{AreFew}
use Rattle.wp_crew.proofs.Deals.{sum_of_few}
use Rattle.wp_crew.proofs.LoadSums.{load-nil, load-take-le, load_more_other, load_more_same}

-- the loads of so many pickers over the first lengths
pub record AreFirstLoads (lengths picker_of : List ℕ) (pickers count : ℕ) (loads : List ℕ) : Type 0 where
  pub loaded : length loads ≡ pickers
  pub sums : (picker : ℕ) → picker < pickers → get_or loads picker 0 ≡ load (take count lengths) (take count picker_of) picker

pub no_loads : (lengths picker_of : List ℕ) (pickers : ℕ) (loads : List ℕ) → loads ≡ replicate pickers 0
    → AreFirstLoads lengths picker_of pickers 0 loads
no_loads lengths picker_of pickers loads is = record {
  loaded = ap length is ∙ length-replicate pickers 0;
  sums = λ picker low. ap (λ (xs : List ℕ). get_or xs picker 0) is ∙ get_or-replicate pickers picker 0 0 low ∙ sym (load-nil [] picker);
}

pub owner_below : (lengths picker_of : List ℕ) (pickers place : ℕ) → IsAssignment lengths pickers picker_of → place < length lengths
    → get_or picker_of place 0 < pickers
owner_below lengths picker_of pickers place is low = All-get_or (λ (k : ℕ). k < pickers) picker_of place 0 (omega (arith, low, is.each)) is.below

pub load_fits : (lengths picker_of : List ℕ) (pickers place had : ℕ) (loads : List ℕ) → AreFew lengths → IsAssignment lengths pickers picker_of
    → AreFirstLoads lengths picker_of pickers place loads → place < length lengths → had ≡ get_or loads (get_or picker_of place 0) 0
    → had + get_or lengths place 0 ≤ 1000000 * 2 ^ 40
load_fits lengths picker_of pickers place had loads few is are low e =
    let owner = get_or picker_of place 0 in
    omega (
      arith,
      e,
      are.sums owner (owner_below lengths picker_of pickers place is low),
      load_more_same lengths picker_of place owner is.each low refl,
      load-take-le lengths (take (suc place) picker_of) (suc place) owner,
      sum_of_few lengths few,
    )

pub one_load : (lengths picker_of : List ℕ) (pickers place had : ℕ) (loads : List ℕ) → IsAssignment lengths pickers picker_of
    → AreFirstLoads lengths picker_of pickers place loads → place < length lengths → had ≡ get_or loads (get_or picker_of place 0) 0
    → AreFirstLoads lengths picker_of pickers (place + 1) (set loads (get_or picker_of place 0) (had + get_or lengths place 0))
one_load lengths picker_of pickers place had loads is are low e =
    let owner = get_or picker_of place 0 in
    let less = owner_below lengths picker_of pickers place is low in
    let more = had + get_or lengths place 0 in
    let next : suc place ≡ place + 1 = omega arith in
    subst (λ n. AreFirstLoads lengths picker_of pickers n (set loads owner more)) next (record {
      loaded = length-set loads owner more ∙ are.loaded;
      sums = λ picker within. elim (cases_eq picker owner) [
        | inl same ↦ ap (λ k. get_or (set loads owner more) k 0) same ∙ get_or-set_same loads owner more 0 (omega (arith, less, are.loaded))
            ∙ omega (arith, e, are.sums owner less, load_more_same lengths picker_of place owner is.each low refl)
            ∙ ap (λ k. load (take (suc place) lengths) (take (suc place) picker_of) k) (sym same)
        | inr other ↦ get_or-set_other loads owner picker more 0 other ∙ are.sums picker within
            ∙ sym (load_more_other lengths picker_of place picker is.each low (λ back. other (sym back)))
      ];
    })

pub all_loads : (lengths picker_of : List ℕ) (pickers place : ℕ) (loads : List ℕ) → IsAssignment lengths pickers picker_of
    → AreFirstLoads lengths picker_of pickers place loads → length lengths ≤ place → AreLoads lengths pickers picker_of loads
all_loads lengths picker_of pickers place loads is are all = record {
  count = are.loaded;
  sums = λ picker low. are.sums picker low
      ∙ ap (λ (xs : List ℕ). load xs (take place picker_of) picker) (take_all place lengths all)
      ∙ ap (λ (os : List ℕ). load lengths os picker) (take_all place picker_of (omega (arith, all, is.each)));
}
