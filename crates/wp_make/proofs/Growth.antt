-- Text that grows by what is written for one number after another.
use Rattle.std.proofs.Common.{◌≡◌, ◌∙◌, refl, sym, ap, ℕ, zero, suc, ◌+◌, List, [], ◌∷◌, ◌++◌, arith}
use Rattle.std.specs.Prelude.{map}
use Rattle.std.specs.List.{flat_map, range_with_len}
use Rattle.std.proofs.lemmas.Grind.{flat_map-append}
use Rattle.std.proofs.lemmas.List.{flat_map_more}
use Rattle.std.proofs.lemmas.List.Folds.{flat_map-map}

-- the numbers with the next
pub range_more : (first n : ℕ) → range_with_len first (suc n) ≡ range_with_len first n ++ (first + n) ∷ []
range_more first zero = let e : first ≡ first + 0 = omega arith in ap (λ (k : ℕ). k ∷ []) e
range_more first (suc n) =
    let e : (first + 1) + n ≡ first + suc n = omega arith in
    ap (λ rest. first ∷ rest) (range_more (first + 1) n ∙ ap (λ (k : ℕ). range_with_len (first + 1) n ++ k ∷ []) e)

-- text that has grown by what some numbers write grows by what the next one writes
pub grown : (f : ℕ → List ℕ) (first n k more : ℕ) (old text new : List ℕ) → k ≡ first + n → more ≡ n + 1
    → text ≡ old ++ flat_map f (range_with_len first n) → new ≡ text ++ f k → new ≡ old ++ flat_map f (range_with_len first more)
grown f first n k more old text new is next so_far by =
    let step : more ≡ suc n = omega arith in
    by ∙ (ap (λ (t : List ℕ). t ++ f k) so_far ∙ (flat_map_more f old (range_with_len first n) k
    ∙ ap (λ numbers. old ++ flat_map f numbers) (ap (λ (j : ℕ). range_with_len first n ++ j ∷ []) is
    ∙ (sym (range_more first n) ∙ ap (range_with_len first) (sym step)))))

-- what was written for each number is what is written for all together, where each writes a list of parts
pub parts_written : {P : Type 0} (write : P → List ℕ) (parts : ℕ → List P) (numbers : List ℕ)
    → flat_map (λ k. flat_map write (parts k)) numbers ≡ flat_map write (flat_map parts numbers)
parts_written write parts [] = refl
parts_written write parts (k ∷ numbers) =
    ap (λ rest. flat_map write (parts k) ++ rest) (parts_written write parts numbers) ∙ sym (flat_map-append write (parts k) (flat_map parts numbers))

-- text that has grown by what the parts of so many numbers write
pub grown_by_parts : {P : Type 0} (write : P → List ℕ) (parts : ℕ → List P) (first n count : ℕ) (old text : List ℕ) → n ≡ count
    → text ≡ old ++ flat_map (λ k. flat_map write (parts k)) (range_with_len first n)
    → text ≡ old ++ flat_map write (flat_map parts (range_with_len first count))
grown_by_parts write parts first n count old text all is =
    is ∙ ap (λ rest. old ++ rest) (ap (λ m. flat_map (λ k. flat_map write (parts k)) (range_with_len first m)) all
    ∙ parts_written write parts (range_with_len first count))

-- and where each writes one part
pub grown_by_each : {P : Type 0} (write : P → List ℕ) (part : ℕ → P) (first n count : ℕ) (old text : List ℕ) → n ≡ count
    → text ≡ old ++ flat_map (λ k. write (part k)) (range_with_len first n) → text ≡ old ++ flat_map write (map part (range_with_len first count))
grown_by_each write part first n count old text all is =
    is ∙ ap (λ rest. old ++ rest) (ap (λ m. flat_map (λ k. write (part k)) (range_with_len first m)) all
    ∙ sym (flat_map-map write part (range_with_len first count)))

-- one list made of another is made of what that one was made of
pub mapped : {A B C : Type 0} (g : B → C) (f : A → B) (xs : List A) → map (λ x. g (f x)) xs ≡ map g (map f xs)
mapped g f [] = refl
mapped g f (x ∷ xs) = ap (λ rest. g (f x) ∷ rest) (mapped g f xs)
