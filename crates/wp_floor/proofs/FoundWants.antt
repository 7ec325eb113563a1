-- The want of an article among those from a place on.
use Rattle.std.proofs.Common.{◌≡◌, ◌≢◌, ◌∙◌, refl, sym, ap, ℕ, ◌+◌, ◌-◌, ◌<◌, ◌≤◌, ◌==◌, nat_lt, Bool, true, false, List, length, take, drop, get_or, Option}
use Rattle.std.proofs.Common.{Some, None, slice_get, if◌then◌else◌, arith, eq-eqb, length-drop}
use Rattle.std.proofs.lemmas.Bool.{eqb-true}
use Rattle.std.proofs.lemmas.Bool.Decides.{nat_tests}
use Rattle.std.proofs.lemmas.List.{get_or-drop, take_all}
use Rattle.std.proofs.lemmas.List.Sums.{fails_before_first, passes_at_first}
use Rattle.std.proofs.lemmas.Option.{cond_some, get_or_from_slice_get, slice_get_within}
use Rattle.std.specs.List.{position, position_or_len}
use Rattle.wp_allot.specs.declared.want.Want.{Want}

-- a want is of the article
abbrev is_of : ℕ → Want → Bool
is_of article want = want.article == article

-- the want that is found
pub record IsFoundWant (wants : List Want) (start article at : ℕ) : Type 0 where
  pub within : at < length wants
  pub late : start ≤ at
  pub article_is : (d : Want) → (get_or wants at d).article ≡ article

found_from : (wants : List Want) (start article offset : ℕ) → start ≤ length wants → position (is_of article) (drop start wants) ≡ Some offset
    → IsFoundWant wants start article (start + offset)
found_from wants start article offset upto found =
    let rest = drop start wants in
    let parts = cond_some (nat_lt (position_or_len (is_of article) rest) (length rest)) (position_or_len (is_of article) rest) offset found in
    let below : position_or_len (is_of article) rest < length rest = let test = parts.0 in grind (arith, nat_tests) in
    record {
      within = omega (arith, below, parts.1, length-drop start wants);
      late = omega arith;
      article_is = λ d.
          let passes = passes_at_first (is_of article) rest d below in
          let there : get_or rest (position_or_len (is_of article) rest) d ≡ get_or wants (start + offset) d =
          ap (λ k. get_or rest k d) parts.1 ∙ get_or-drop start wants offset d in
          ap (λ (want : Want). want.article) (sym there) ∙ eqb-true _ article passes;
    }

-- where none is found, none is there
none_from : (wants : List Want) (start article k : ℕ) (want : Want) → position (is_of article) (drop start wants) ≡ None → slice_get wants k ≡ Some want
    → start ≤ k → want.article ≢ article
none_from wants start article k want none there late same =
    let rest = drop start wants in
    let past = none_if (nat_lt (position_or_len (is_of article) rest) (length rest)) (position_or_len (is_of article) rest) none in
    let beyond : length rest ≤ position_or_len (is_of article) rest = grind (arith, nat_tests) in
    let fails = fails_before_first (is_of article) rest (k - start) want
    (omega (arith, beyond, length-drop start wants, slice_get_within wants k want there)) in
    let at : get_or rest (k - start) want ≡ want =
    get_or-drop start wants (k - start) want ∙ (ap (λ n. get_or wants n want) (let e : start + (k - start) ≡ k = omega arith in e)
    ∙ get_or_from_slice_get wants k want want there) in
    let is : is_of article want ≡ true = eq-eqb want.article article same in
    let isnt : is_of article want ≡ false = ap (is_of article) (sym at) ∙ fails in
    absurd (cc)
  where
    none_if : (b : Bool) (n : ℕ) → (if b then Some n else None) ≡ None → b ≡ false
    none_if true n e = absurd (cc e)
    none_if false n e = refl

-- the same of the wants from the start on as a slice has them
tail_is : (xs wants : List Want) (start : ℕ) → xs ≡ wants → take (length xs - start) (drop start xs) ≡ drop start wants
tail_is xs wants start same =
    let short : length (drop start xs) ≤ length xs - start = omega (arith, length-drop start xs) in
    take_all (length xs - start) (drop start xs) short ∙ ap (drop start) same

-- the first want of an article in the slice from a start on is found among all wants
pub found_in : (xs wants : List Want) (start article offset : ℕ) (found : Option ℕ) → xs ≡ wants → start ≤ length wants
    → found ≡ position (is_of article) (take (length xs - start) (drop start xs)) → found ≡ Some offset
    → IsFoundWant wants start article (start + offset)
found_in xs wants start article offset found same upto is some =
    found_from wants start article offset upto (ap (position (is_of article)) (sym (tail_is xs wants start same)) ∙ (sym is ∙ some))

-- and where that slice has none, no want from the start on is of the article
pub none_in : (xs wants : List Want) (start article : ℕ) (found : Option ℕ) → xs ≡ wants
    → found ≡ position (is_of article) (take (length xs - start) (drop start xs)) → found ≡ None
    → (k : ℕ) (want : Want) → slice_get wants k ≡ Some want → start ≤ k → want.article ≢ article
none_in xs wants start article found same is none k want there late =
    none_from wants start article k want (ap (position (is_of article)) (sym (tail_is xs wants start same)) ∙ (sym is ∙ none)) there late
