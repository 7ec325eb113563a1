-- Shares of first items while these are dealt out.
use Rattle.std.proofs.Common.{◌≡◌, ◌≢◌, ℕ, ◌<◌, List, [], length, arith, sym, subst, inl, inr, ◌⊎◌, ⊎_elim, ◌↔◌, Contains, set}
use Rattle.std.specs.Prelude.{slice_index_or}
use Rattle.std.proofs.lemmas.Bool.{cases_eq}
use Rattle.std.proofs.lemmas.List.{get_or-set_other, get_or-set_same, length-set}
use Rattle.wp_price.specs.Shares.{IsDealt}

-- with one more order in one share, that order and all that were dealt before are dealt
pub dealt_on : (shares : List (List ℕ)) (worker : ℕ) (share : List ℕ) (order other : ℕ) → worker < length shares
    → ((p : ℕ) → Contains share p ↔ (Contains (slice_index_or shares worker []) p ⊎ (p ≡ order))) → IsDealt shares other ⊎ (other ≡ order)
    → IsDealt (set shares worker share) other
dealt_on shares worker share order other within is either =
    let many = length-set shares worker share in
    let here : Contains share other → IsDealt (set shares worker share) other = λ has.
    (worker, omega (arith, within, many), subst (λ (s : List ℕ). Contains s other) (sym (get_or-set_same shares worker share [] within)) has) in
    ⊎_elim
    (λ (dealt : IsDealt shares other). ⊎_elim
    (λ (same : dealt.0 ≡ worker). here ((is other).1 (inl (subst (λ (w : ℕ). Contains (slice_index_or shares w []) other) same dealt.2))))
    (λ (apart : dealt.0 ≢ worker). (
      dealt.0,
      omega (arith, dealt.1, many),
      subst (λ (s : List ℕ). Contains s other) (sym (get_or-set_other shares worker dealt.0 share [] apart)) dealt.2,
    ))
    (cases_eq dealt.0 worker))
    (λ (same : other ≡ order). here ((is other).1 (inr same))) either
