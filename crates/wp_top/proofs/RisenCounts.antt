-- Counts of faults that stand, and those that rose.
use Rattle.std.proofs.Common.{◌≡◌, ◌∙◌, refl, sym, ap, ap₂, subst, ℕ, ◌<◌, ◌⊎◌, inl, inr, List, [], ◌∷◌, ◌++◌, append_assoc}
use Rattle.std.proofs.Common.{arith}
use Rattle.wp_outside.specs.Outside.{FilesTold}
use Rattle.wp_top.specs.Ends.{EndsAt, HasRisen}
use Rattle.wp_top.specs.Promise.{FilesStand, HaveBadFile}
use Rattle.wp_top.specs.Texts.{File, file_of}
use Rattle.wp_top.specs.declared.input.Input.{Input}
use Rattle.wp_top.proofs.ToldFiles.{all_first, all_here, first_file, none_told, other_files}

-- no count rose of a name that stands
pub none_rose : (files : List File) (old new : FilesTold) (kind : Input) → FilesStand old new files → EndsAt old new files kind (HasRisen old new) → ⊥
none_rose files old new kind stand risen =
    let at : new.faults risen.name ≡ old.faults risen.name =
    all_here (λ (f : File). new.faults f.name ≡ old.faults f.name) risen.before (file_of kind risen.name) risen.later
    (subst (FilesStand old new) risen.place stand) in
    omega (arith, risen.why, at)

-- two places in one list: the same, or one before the other
abbrev Comes : List File → File → List File → Type 0
Comes xs x ys = (zs : List File) × (ys ≡ xs ++ x ∷ zs)

abbrev Places : List File → File → List File → File → Type 0
Places xs x ys y = ((xs ≡ ys) × (x ≡ y)) ⊎ Comes xs x ys ⊎ Comes ys y xs

one_on : (f g : File) (xs : List File) (x : File) (ys : List File) (y : File) → f ≡ g → Places xs x ys y → Places (f ∷ xs) x (g ∷ ys) y
one_on f g xs x ys y same (inl (a, b)) = inl (ap₂ (λ (h : File) (hs : List File). h ∷ hs) same a, b)
one_on f g xs x ys y same (inr (inl (zs, a))) = inr (inl (zs, ap₂ (λ (h : File) (hs : List File). h ∷ hs) (sym same) a))
one_on f g xs x ys y same (inr (inr (zs, a))) = inr (inr (zs, ap₂ (λ (h : File) (hs : List File). h ∷ hs) same a))

places : (xs : List File) (x : File) (xs' ys : List File) (y : File) (ys' : List File) → xs ++ x ∷ xs' ≡ ys ++ y ∷ ys' → Places xs x ys y
places [] x xs' [] y ys' same = inl (refl, first_file x y xs' ys' same)
places [] x xs' (g ∷ ys) y ys' same = inr (inl (ys, ap (λ (h : File). h ∷ ys) (sym (first_file x g xs' (ys ++ y ∷ ys') same))))
places (f ∷ xs) x xs' [] y ys' same = inr (inr (xs, ap (λ (h : File). h ∷ xs) (first_file f y (xs ++ x ∷ xs') ys' same)))
places (f ∷ xs) x xs' (g ∷ ys) y ys' same =
    one_on f g xs x ys y (first_file f g (xs ++ x ∷ xs') (ys ++ y ∷ ys') same) (places xs x xs' ys y ys' (other_files f g (xs ++ x ∷ xs') (ys ++ y ∷ ys') same))

up_to_file : (before : List File) (file : File) (later : List File) → before ++ file ∷ later ≡ (before ++ file ∷ []) ++ later
up_to_file before file later = sym (append_assoc before (file ∷ []) later)

-- where a file is told and refused, no count rose of a file behind it
pub bad_before_rise : (files : List File) (old new : FilesTold) (kind : Input) → HaveBadFile old new files → EndsAt old new files kind (HasRisen old new) → ⊥
bad_before_rise files old new kind bad risen =
    elim (places risen.before (file_of kind risen.name) risen.later bad.before bad.file bad.later (sym risen.place ∙ bad.place)) as (λ _. ⊥) [
      | inl same ↦
          (let at : new.faults bad.file.name ≡ old.faults bad.file.name = all_here
          (λ (f : File). new.faults f.name ≡ old.faults f.name) bad.before bad.file [] bad.stand in
          let name = ap (λ (f : File). f.name) same.1 in
          omega (arith, subst (λ (n : List ℕ). old.faults n < new.faults n) name risen.why, at))
      | inr other ↦ elim other as (λ _. ⊥) [
        | inl earlier ↦
            (let stand : FilesStand old new ((risen.before ++ file_of kind risen.name ∷ earlier.0) ++ bad.file ∷ []) = subst
            (λ (fs : List File). FilesStand old new (fs ++ bad.file ∷ [])) earlier.1 bad.stand in
            let at : new.faults risen.name ≡ old.faults risen.name =
            all_here (λ (f : File). new.faults f.name ≡ old.faults f.name) risen.before (file_of kind risen.name) earlier.0
            (all_first (λ (f : File). new.faults f.name ≡ old.faults f.name) (risen.before ++ file_of kind risen.name ∷ earlier.0)
            (bad.file ∷ []) stand) in
            omega (arith, risen.why, at))
        | inr later ↦ none_told old.holds risen.before bad.before bad.file later.0 risen.said bad.said bad.text bad.why risen.accepted later.1
            bad.accepted
            bad.told bad.refused
      ]
    ]
