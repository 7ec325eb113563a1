-- Lists of calls that grow by one call.
use Rattle.std.proofs.Common.{◌≡◌, ◌≢◌, ℕ, List, [], ◌∷◌, ◌++◌, refl, ap, sym, ◌∙◌, cond, eqb, eq-eqb, ne_eqb, append-nil, append_assoc, true, false, Bool}
use mathlib.Core.List.{IsPrefix}
use Rattle.wp_turn.specs.Calls.{entries_of, calls_of}

module _ {A : Type 0} where
  -- each list begins itself
  pub prefix_self : (xs : List A) → IsPrefix xs xs
  prefix_self xs = ([], append-nil xs)

  -- the empty list begins each list
  pub prefix_none : (xs : List A) → IsPrefix [] xs
  prefix_none xs = (xs, refl)

  -- what begins a list begins each longer one
  pub prefix_more : (xs ys zs : List A) → IsPrefix xs ys → IsPrefix xs (ys ++ zs)
  prefix_more xs ys zs p = (p.0 ++ zs, sym (append_assoc xs p.0 zs) ∙ ap (λ w. w ++ zs) p.1)

  -- what begins a beginning begins the list
  pub prefix_trans : (xs ys zs : List A) → IsPrefix xs ys → IsPrefix ys zs → IsPrefix xs zs
  prefix_trans xs ys zs p q = (p.0 ++ q.0, sym (append_assoc xs p.0 q.0) ∙ (ap (λ w. w ++ q.0) p.1 ∙ q.1))

  -- the first item, or another
  abbrev pub first_or : A → List A → A
  first_or a [] = a
  first_or a (x ∷ xs) = x

  abbrev rest_of : List A → List A
  rest_of [] = []
  rest_of (x ∷ xs) = xs

  -- two lists that grow to the same list by one item each grew by the same item
  pub snoc_same : (xs : List A) (a b : A) → xs ++ a ∷ [] ≡ xs ++ b ∷ [] → a ≡ b
  snoc_same [] a b e = ap (first_or a) e
  snoc_same (x ∷ xs) a b e = snoc_same xs a b (ap rest_of e)

module _ {E : Type 0} where
  -- the entries of calls that grow by one
  pub entries_of-snoc : (calls : List (ℕ × E)) (caller : ℕ) (entry : E) → entries_of (calls ++ (caller, entry) ∷ []) ≡ entries_of calls ++ entry ∷ []
  entries_of-snoc [] caller entry = refl
  entries_of-snoc (call ∷ calls) caller entry = ap (λ l. call.1 ∷ l) (entries_of-snoc calls caller entry)

  by_cases : (mine : Bool) (e : E) (xs ys : List E) (entry : E) → xs ≡ ys ++ entry ∷ [] → cond mine (e ∷ xs) xs ≡ cond mine (e ∷ ys) ys ++ entry ∷ []
  by_cases true e xs ys entry is = ap (λ l. e ∷ l) is
  by_cases false e xs ys entry is = is

  -- a caller's calls grow by its own call
  pub calls_of-own : (calls : List (ℕ × E)) (caller : ℕ) (entry : E) → calls_of caller (calls ++ (caller, entry) ∷ []) ≡ calls_of caller calls ++ entry ∷ []
  calls_of-own [] caller entry = ap (λ b. cond b (entry ∷ []) []) (eq-eqb caller caller refl)
  calls_of-own (call ∷ calls) caller entry =
      let more = calls_of-own calls caller entry in
      by_cases (eqb call.0 caller) call.1 _ _ entry more

  -- and by no other's
  pub calls_of-other : (calls : List (ℕ × E)) (caller other : ℕ) (entry : E) → other ≢ caller
      → calls_of caller (calls ++ (other, entry) ∷ []) ≡ calls_of caller calls
  calls_of-other [] caller other entry ne = ap (λ b. cond b (entry ∷ []) []) (ne_eqb other caller ne)
  calls_of-other (call ∷ calls) caller other entry ne = ap (λ l. cond (eqb call.0 caller) (call.1 ∷ l) l) (calls_of-other calls caller other entry ne)
