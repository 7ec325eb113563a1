-- Each section has some text, whichever of its parts were printed.
use Rattle.std.proofs.Common.{◌≡◌, refl, sym, subst, ℕ, zero, suc, ◌+◌, add-one, ◌≤◌, inl, inr, List, [], ◌++◌, append_assoc, append-nil, arith}
use Rattle.std.proofs.lemmas.Bool.{cases_lt}
use Rattle.wp_outside.specs.Sections.{AreParts, HaveText, IsSection}

-- one more part
pub part_more : (Says : ℕ → List ℕ → Type 0) (number : ℕ) (before part : List ℕ) → AreParts Says number before → Says number part
    → AreParts Says (number + 1) (before ++ part)
part_more Says number before part are says = rw add-one (before, are, (part, says, refl))

-- the parts after some have some text
pub others_after : (Says : ℕ → List ℕ → Type 0) (printed count : ℕ) (before : List ℕ) → HaveText Says count → printed ≤ count → AreParts Says printed before
    → (others : List ℕ) × AreParts Says count (before ++ others)
others_after Says printed zero before any within are =
    let none : printed ≡ zero = omega arith in
    ([], rw (append-nil before) (subst (λ (n : ℕ). AreParts Says n before) none are))
others_after Says printed (suc last) before any within are = elim (cases_lt printed (suc last)) [
  | inl more ↦
      let so_far = others_after Says printed last before (λ number below. any number (omega arith)) (omega arith) are in
      let here = any last (omega arith) in
      (so_far.0 ++ here.0, (before ++ so_far.0, so_far.1, (here.0, here.1, sym (append_assoc before so_far.0 here.0))))
  | inr all ↦
      let same : printed ≡ suc last = omega arith in
      ([], rw (append-nil before) (subst (λ (n : ℕ). AreParts Says n before) same are))
]

-- parts that have text have it one after the other
pub parts_text : (Says : ℕ → List ℕ → Type 0) (count : ℕ) → HaveText Says count → (text : List ℕ) × AreParts Says count text
parts_text Says count any = others_after Says zero count [] any (omega arith) refl

-- a section whose parts have text has some
pub section_text : (heading : List ℕ) (count : ℕ) (Says : ℕ → List ℕ → Type 0) (ending : List ℕ) → HaveText Says count
    → (text : List ℕ) × IsSection heading count Says ending text
section_text heading count Says ending any =
    let middle = parts_text Says count any in
    (heading ++ middle.0 ++ ending, (middle.0, middle.1, refl))
