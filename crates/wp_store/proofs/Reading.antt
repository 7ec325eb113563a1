-- Reading records one after the other.
use Rattle.std.proofs.Common.{◌≡◌, refl, sym, ◌∙◌, ap, ℕ, suc, ◌+◌, ◌-◌, ◌≤◌, List, [], ◌∷◌, ◌++◌, length, take, drop, map, Option, Some, None, arith}
use Rattle.std.specs.Prelude.{option_map}
use Rattle.std.proofs.lemmas.List.{append-nil, append_assoc, map-append, take_rest}
use Rattle.std.proofs.lemmas.Grind.{elements}
use Rattle.std.proofs.lemmas.List.Sums.{sum_by_push}
use Rattle.wp_store.specs.Records.{First, first_record, records_of, records_up_to, stored_bytes, head_bytes, most_records}
use Rattle.wp_store.specs.Spans.{body_at, LieWithin}
use Rattle.wp_store.specs.declared.bodies.BodySpan.{BodySpan}
use Rattle.wp_store.proofs.Framing.{read_at, read_one, read_none}

pub record Found (o : Option First) (n : ℕ) : Type 0 where
  pub first : First
  pub is : o ≡ Some first
  pub length_is : length first.body ≡ n

found : (o : Option First) (n : ℕ) → option_map (λ first. length first.body) o ≡ Some n → Found o n
found None n says = absurd (cc (says))
found (Some first) n says = record { first = first; is = refl; length_is = cc (says) }

none_found : (o : Option First) → option_map (λ first. length first.body) o ≡ None → o ≡ None
none_found None says = refl
none_found (Some first) says = absurd (cc (says))

abbrev pub span : ℕ → ℕ → BodySpan
span end n = record { place = end + 5; length = n }

module _ (bytes : List ℕ) (spans : List BodySpan) (end : ℕ) (within : end ≤ length bytes) where
  abbrev so_far : List (List ℕ)
  so_far = map (body_at bytes) spans

  -- one record more
  module _ (n left : ℕ) (says : option_map (λ first. length first.body) (first_record (drop end bytes)) ≡ Some n) where
    f : Found (first_record (drop end bytes)) n
    f = found (first_record (drop end bytes)) n says

    at : (take n (drop (end + 5) bytes) ≡ f.first.body) × (drop (end + (5 + n)) bytes ≡ f.first.rest) × (end + (5 + n) ≤ length bytes)
    at =
        let here = read_at bytes end f.first within f.is in (
          ap (λ (k : ℕ). take k (drop (end + 5) bytes)) (sym f.length_is) ∙ here.0,
          ap (λ (k : ℕ). drop (end + (5 + k)) bytes) (sym f.length_is) ∙ here.1,
          omega (arith, here.2, f.length_is),
        )

    more : map (body_at bytes) (spans ++ span end n ∷ []) ≡ so_far ++ f.first.body ∷ []
    more = map-append (body_at bytes) spans (span end n ∷ []) ∙ ap (λ (b : List ℕ). so_far ++ b ∷ []) at.0

    pub read_more : so_far ++ records_up_to (suc left) (drop end bytes) ≡ records_of bytes
        → map (body_at bytes) (spans ++ span end n ∷ []) ++ records_up_to left (drop (end + 5 + n) bytes) ≡ records_of bytes
    read_more read =
        let rest : drop (end + 5 + n) bytes ≡ f.first.rest = ap (λ (k : ℕ). drop k bytes) (omega arith) ∙ at.1 in
        ap (λ (l : List (List ℕ)). l ++ records_up_to left (drop (end + 5 + n) bytes)) more
        ∙ ap (λ (l : List ℕ). so_far ++ f.first.body ∷ [] ++ records_up_to left l) rest
        ∙ append_assoc so_far (f.first.body ∷ []) (records_up_to left f.first.rest)
        ∙ ap (λ (l : List (List ℕ)). so_far ++ l) (sym (read_one left (drop end bytes) f.first f.is))
        ∙ read

    pub stored_more_bytes : end ≡ stored_bytes so_far → end + 5 + n ≡ stored_bytes (map (body_at bytes) (spans ++ span end n ∷ []))
    stored_more_bytes stored =
        let all : stored_bytes (map (body_at bytes) (spans ++ span end n ∷ [])) ≡ stored_bytes (so_far ++ f.first.body ∷ []) = ap stored_bytes more in
        omega (arith, stored, all, f.length_is, sum_by_push (λ (b : List ℕ). head_bytes + length b) so_far f.first.body)

  -- none more
  pub read_all : (left : ℕ) → so_far ++ records_up_to left (drop end bytes) ≡ records_of bytes
      → option_map (λ first. length first.body) (first_record (drop end bytes)) ≡ None → so_far ≡ records_of bytes
  read_all left read none =
      sym (append-nil so_far) ∙ ap (λ (l : List (List ℕ)). so_far ++ l) (sym (read_none left (drop end bytes) (none_found _ none))) ∙ read

  pub read_most : (left : ℕ) → left ≡ 0 → so_far ++ records_up_to left (drop end bytes) ≡ records_of bytes → so_far ≡ records_of bytes
  read_most left is read = sym (append-nil so_far) ∙ ap (λ (k : ℕ). so_far ++ records_up_to k (drop end bytes)) (sym is) ∙ read

pub read_first : (bytes : List ℕ) → records_up_to most_records bytes ≡ records_of bytes
unfolding records_of
read_first bytes = refl

-- one span more that lies within
pub within_more : (bytes : List ℕ) (spans : List BodySpan) (s : BodySpan) → LieWithin bytes spans → s.place + s.length ≤ length bytes
    → LieWithin bytes (spans ++ s ∷ [])
within_more bytes spans s all here = grind (arith, elements)

-- what stands behind a place, by its length
pub says_there : (bytes : List ℕ) (end : ℕ) (r : Option ℕ)
    → r ≡ option_map (λ first. length first.body) (first_record (take (length bytes - end) (drop end bytes)))
    → option_map (λ first. length first.body) (first_record (drop end bytes)) ≡ r
says_there bytes end r is = ap (λ (l : List ℕ). option_map (λ first. length first.body) (first_record l)) (sym (take_rest bytes end)) ∙ sym is
