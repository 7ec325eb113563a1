-- Lengths that a wave keeps: none, one in a part of them, and one that is read.
use Rattle.std.proofs.Common.{◌≡◌, ℕ, ◌<◌, List, [], arith, length, get_or, sym, subst}
use Rattle.std.proofs.lemmas.List.Elements.{All-get_or, All-nil}
use Rattle.wp_lengths.specs.declared.lengths.Length.{Length}
use Rattle.wp_lengths.specs.KeptLengths.{HaveLengths, IsKeptLength}
use Rattle.wp_lengths.specs.Lengths.{IsLengthOf}
use Rattle.wp_lengths.specs.Waves.{WavePicks}

-- where nothing is kept, nothing is wrong
pub none_kept : (wave : WavePicks) (lengths : List Length) → lengths ≡ [] → HaveLengths wave lengths
none_kept wave lengths empty =
    subst (λ (xs : List Length). HaveLengths wave xs) (sym empty) (All-nil (IsKeptLength wave))

-- what is read is kept
pub kept_there : (now wave : WavePicks) (lengths : List Length) (place : ℕ) (kept : Length) → wave ≡ now → HaveLengths wave lengths
    → place < length lengths → kept ≡ get_or lengths place kept → IsKeptLength now kept
kept_there now wave lengths place kept view all within is =
    let there = All-get_or (IsKeptLength wave) lengths place kept within all in
    subst (λ (v : WavePicks). IsKeptLength v kept) view (subst (IsKeptLength wave) (sym is) there)

-- what is read for a batch is its length
pub kept_read : (now wave : WavePicks) (lengths : List Length) (place : ℕ) (kept : Length) (batch : List ℕ) → wave ≡ now → HaveLengths wave lengths
    → place < length lengths → kept ≡ get_or lengths place kept → kept.batch ≡ batch → IsLengthOf now batch kept.length
kept_read now wave lengths place kept batch view all within is same =
    subst (λ (xs : List ℕ). IsLengthOf now xs kept.length) same (kept_there now wave lengths place kept view all within is).is

-- what stands in a part is kept
pub kept_in_part : (wave : WavePicks) (part : List Length) (count offset : ℕ) (kept default : Length) → HaveLengths wave part → length part ≡ count
    → offset < count → get_or part offset default ≡ kept → IsKeptLength wave kept
kept_in_part wave part count offset kept default all same within is =
    subst (IsKeptLength wave) is (all offset default (omega (arith, same, within)))
