-- A sheet grows part by part.
use Rattle.std.proofs.Common.{◌≡◌, ◌∙◌, refl, sym, ap, subst, Bool, ℕ, ◌+◌, List, [], ◌∷◌, ◌++◌, length, arith, append-nil, append_assoc}
use Rattle.std.proofs.Common.{Some, add-one, slice_get, take}
use Rattle.std.proofs.Math.Seq.{take-suc}
use Rattle.std.proofs.lemmas.List.{length-take-le}
use Rattle.std.proofs.lemmas.Option.{get_or_from_slice_get, slice_get_within}
use Rattle.wp_machine.specs.declared.outcome.WaveHolds.{WaveHolds}
use Rattle.wp_lengths.specs.Waves.{WavePicks}
use Rattle.wp_model.specs.Opening.{Stock}
use Rattle.wp_outside.specs.Sections.{GrowsBy}
use Rattle.wp_planner.specs.Sheets.{AreParts, IsBatchPart}

-- what is added after a part is added makes one longer part
pub then_more : (old part more mid new : List ℕ) → mid ≡ old ++ part → new ≡ mid ++ more → new ≡ old ++ (part ++ more)
then_more old part more mid new one two = two ∙ (ap (λ (text : List ℕ). text ++ more) one ∙ append_assoc old part more)

-- the parts of batches and that of one more, which has the next number
parts_more : (stock : Stock) (released : WaveHolds) (wave : WavePicks) (rules : Bool) (number last : ℕ) (batches : List (List ℕ)) (batch parts part : List ℕ)
    → last ≡ number + length batches → AreParts stock released wave rules number batches parts → IsBatchPart stock released wave rules last batch part
    → AreParts stock released wave rules number (batches ++ batch ∷ []) (parts ++ part)
parts_more stock released wave rules number last [] batch parts part counted are is =
    let first : last ≡ number = omega (arith, counted) in (
      part,
      [],
      subst (λ (n : ℕ). IsBatchPart stock released wave rules n batch part) first is,
      refl,
      ap (λ (before : List ℕ). before ++ part) are ∙ sym (append-nil part),
    )
parts_more stock released wave rules number last (b ∷ batches) batch parts part counted are is = (
  are.0,
  are.1 ++ part,
  are.2,
  parts_more stock released wave rules (number + 1) last batches batch are.1 part (omega (arith, counted)) are.3 is,
  ap (λ (before : List ℕ). before ++ part) are.4 ∙ append_assoc are.0 are.1 part,
)

-- a text that has grown by parts grows by one more
pub grown_more : (stock : Stock) (released : WaveHolds) (wave : WavePicks) (rules : Bool) (last : ℕ) (batches : List (List ℕ)) (batch old mid new : List ℕ)
    → last ≡ 1 + length batches → GrowsBy (AreParts stock released wave rules 1 batches) old mid
    → GrowsBy (IsBatchPart stock released wave rules last batch) mid new
    → GrowsBy (AreParts stock released wave rules 1 (batches ++ batch ∷ [])) old new
grown_more stock released wave rules last batches batch old mid new counted before here = (
  before.0 ++ here.0,
  parts_more stock released wave rules 1 last batches batch before.0 here.0 counted before.1 here.1,
  then_more old before.0 here.0 mid new before.2 here.2,
)

-- the items up to a place and the one that stands there
pub one_more_item : {X : Type 0} (items : List X) (place : ℕ) (item : X) → slice_get items place ≡ Some item
    → (take (place + 1) items ≡ take place items ++ item ∷ []) × (place + 1 ≡ 1 + length (take place items))
one_more_item {X} items place item there =
    let within = slice_get_within items place item there in
    let next = take-suc items place item within in
    let is = get_or_from_slice_get items place item item there in
    let count : length (take place items) ≡ place = length-take-le place items (omega (arith, within)) in (
      ap (λ (n : ℕ). take n items) (add-one place) ∙ (next ∙ ap (λ (one : X). take place items ++ one ∷ []) is),
      omega (arith, count),
    )

-- a first line, parts, what is shown, a bracket, and a last line, one behind the other
pub sheet_grown : (old first parts shown bracket last a b c d e : List ℕ) → a ≡ old ++ first → b ≡ a ++ parts → c ≡ b ++ shown → d ≡ c ++ bracket
    → e ≡ d ++ last → e ≡ old ++ ((((first ++ parts) ++ shown) ++ bracket) ++ last)
sheet_grown old first parts shown bracket last a b c d e one two three four five =
    let shown_too = then_more old first parts a b one two in
    let so_far = then_more old (first ++ parts) shown b c shown_too three in
    let bracketed = then_more old ((first ++ parts) ++ shown) bracket c d so_far four in
    then_more old (((first ++ parts) ++ shown) ++ bracket) last d e bracketed five
