-- The names of waves that go out.
use Rattle.std.specs.Prelude.{◌≡◌, ℕ, ◌<◌, ◌≤◌, ⊤, true, false, List, [], ◌∷◌, ◌++◌, length}
use Rattle.std.specs.Fmt.{decimal}
use Rattle.wp_model.specs.State.{Wave}
use Rattle.wp_model.specs.Step.{is_among}
use Rattle.wp_waves.specs.OpenFile.{most_group_bytes}
use Rattle.wp_waves.specs.declared.open_orders.OpenOrder.{OpenOrder}

-- the name of a wave of a group by its number: the group, a dot and the number
abbrev pub numbered_name : List ℕ → ℕ → List ℕ
numbered_name group number = group ++ (46 ∷ decimal number)

-- the group of a wave is that of its first order
abbrev pub group_of : List OpenOrder → List ℕ
group_of [] = []
group_of (one ∷ others) = one.group

-- the name of a submitted wave
abbrev pub name_of : Wave → List ℕ
name_of w = w.name

-- the least number from 1 whose name none of these is
pub record IsLeastNumber (taken : List (List ℕ)) (group : List ℕ) (number : ℕ) : Type 0 where
  pub from_one : 1 ≤ number
  pub new : is_among taken (numbered_name group number) ≡ false
  pub least : (k : ℕ) → 1 ≤ k → k < number → is_among taken (numbered_name group k) ≡ true

-- the name of a wave of a group, where these are taken
pub record IsNameOf (taken : List (List ℕ)) (group name : List ℕ) : Type 0 where
  pub number : ℕ
  pub least : IsLeastNumber taken group number
  pub is : name ≡ numbered_name group number

-- the names of waves, one after the other: of each the group, a dot and the least number from 1 that is neither taken
-- nor that of a wave before it
abbrev pub AreNamesOf : List (List ℕ) → List (List OpenOrder) → List (List ℕ) → Type 0
AreNamesOf taken [] [] = ⊤
AreNamesOf taken [] (name ∷ names) = ⊥
AreNamesOf taken (wave ∷ waves) [] = ⊥
AreNamesOf taken (wave ∷ waves) (name ∷ names) =
    IsNameOf taken (group_of wave) name × AreNamesOf (taken ++ name ∷ []) waves names

-- a wave has an order, and the name of its group isn't too long
pub record HasShortGroup (wave : List OpenOrder) : Type 0 where
  pub some : 0 < length wave
  pub short : length (group_of wave) ≤ most_group_bytes
