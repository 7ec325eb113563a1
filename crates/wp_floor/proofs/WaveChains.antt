-- Waves in chains by their names.
use Rattle.std.proofs.Common.{◌≡◌, ◌≢◌, ◌∙◌, refl, sym, ap, ap₂, subst, ℕ, zero, suc, ◌+◌, ◌*◌, ◌%◌, ◌<◌, ◌≤◌, ◌==◌, ◌||◌, Bool, true, false, inl, inr}
use Rattle.std.proofs.Common.{List, [], ◌∷◌, ◌++◌}
use Rattle.std.proofs.Common.{length, get_or, Some, slice_get, slice_set, bytes_eq, if◌then◌else◌, replicate, reverse, arith, length-append, length-set}
use Rattle.std.proofs.Common.{eq-eqb, ne_eqb}
use Rattle.std.proofs.lemmas.Bool.{cases_eq}
use Rattle.std.proofs.lemmas.List.{append-nil, length-replicate}
use Rattle.std.proofs.lemmas.Option.{slice_get-get_or, slice_get_within}
use Rattle.std.proofs.lemmas.Slice.Eq.{bytes_eq-Decides}
use Rattle.std.specs.List.{list_any}
use Rattle.wp_model.proofs.Elements.{slice_get-set, slice_get-set_same}
use Rattle.wp_floor.specs.Waves.{AreSameWaves, AreWaves, HaveWaves, IsFound, IsReturned, by_number, chain_count, chain_of, has_name, in_chain, is_named}
use Rattle.wp_floor.specs.Waves.{numbered_in, numbered_of, place_after, waves_of, with_number}
use Rattle.wp_floor.specs.declared.waves.Found.{Found}
use Rattle.wp_floor.specs.declared.waves.KeptWave.{KeptWave}
use Rattle.wp_floor.specs.declared.waves.NumberedWave.{NumberedWave}
use Rattle.wp_floor.specs.declared.waves.Waves.{Waves}

-- a number with a wave
abbrev pub numbered : ℕ → KeptWave → NumberedWave
numbered number kept = record { number = number; wave = kept }

-- a wave of another number is passed over, whether it stands in the chain or not
other_first : (b : Bool) (x : NumberedWave) (chain : List NumberedWave) (number : ℕ) → x.number ≢ number
    → numbered_in number (if b then x ∷ chain else chain) ≡ numbered_in number chain
other_first true x chain number other = ap (λ b. if b then x.wave ∷ numbered_in number chain else numbered_in number chain) (ne_eqb x.number number other)
other_first false x chain number other = refl

-- a wave of the number is the only one, where it stands in the chain
only_first : (b : Bool) (x : NumberedWave) (chain : List NumberedWave) (number : ℕ) → x.number ≡ number → numbered_in number chain ≡ []
    → numbered_in number (if b then x ∷ chain else chain) ≡ (if b then x.wave ∷ [] else [])
only_first true x chain number same none =
    ap (λ b. if b then x.wave ∷ numbered_in number chain else numbered_in number chain) (eq-eqb x.number number same)
    ∙ ap (λ (ks : List KeptWave). x.wave ∷ ks) none
only_first false x chain number same none = none

-- no wave that is numbered from a number on has a lower one
lower : (number from place : ℕ) (list : List KeptWave) → number < from → numbered_in number (in_chain place from list) ≡ []
lower number from place [] low = refl
lower number from place (kept ∷ list) low =
    other_first (chain_of kept.name == place) (numbered from kept) (in_chain place (from + 1) list) number (omega arith)
    ∙ lower number (from + 1) place list (omega arith)

-- the waves of a number in the chain at a place: the one that it numbers, where its name gives the place
one_in_chain : (from i number place : ℕ) (list : List KeptWave) (kept : KeptWave) → number ≡ from + i → slice_get list i ≡ Some kept
    → numbered_in number (in_chain place from list) ≡ (if chain_of kept.name == place then kept ∷ [] else [])
one_in_chain from i number place [] kept at there = absurd (cc)
one_in_chain from zero number place (k ∷ list) kept at there =
    let same : k ≡ kept = cc in
    only_first (chain_of k.name == place) (numbered from k) (in_chain place (from + 1) list) number (omega arith)
    (lower number (from + 1) place list (omega arith))
    ∙ ap (λ (w : KeptWave). if chain_of w.name == place then w ∷ [] else []) same
one_in_chain from (suc i) number place (k ∷ list) kept at there =
    other_first (chain_of k.name == place) (numbered from k) (in_chain place (from + 1) list) number (omega arith)
    ∙ one_in_chain (from + 1) i number place list kept (omega arith) there

-- chains from a place on are those of a list of waves
abbrev AreFrom : ℕ → List KeptWave → List (List NumberedWave) → Type 0
AreFrom from list chains = (i : ℕ) (chain : List NumberedWave) → slice_get chains i ≡ Some chain → chain ≡ in_chain (from + i) 0 list

rest_from : (from : ℕ) (list : List KeptWave) (chain : List NumberedWave) (chains : List (List NumberedWave)) → AreFrom from list (chain ∷ chains)
    → AreFrom (from + 1) list chains
rest_from from list chain chains are i c there = let e : from + suc i ≡ from + 1 + i = omega arith in are (suc i) c there ∙ ap (λ n. in_chain n 0 list) e

first_from : (from : ℕ) (list : List KeptWave) (chain : List NumberedWave) (chains : List (List NumberedWave)) → AreFrom from list (chain ∷ chains)
    → chain ≡ in_chain from 0 list
first_from from list chain chains are = let e : from + 0 ≡ from = omega arith in are 0 chain refl ∙ ap (λ n. in_chain n 0 list) e

-- no chain past that of a wave has it
none_past : (from number : ℕ) (list : List KeptWave) (kept : KeptWave) (chains : List (List NumberedWave)) → AreFrom from list chains
    → slice_get list number ≡ Some kept → chain_of kept.name < from → with_number number chains ≡ []
none_past from number list kept [] are there past = refl
none_past from number list kept (chain ∷ chains) are there past =
    let here : numbered_in number chain ≡ [] = ap (numbered_in number) (first_from from list chain chains are)
    ∙ (one_in_chain 0 number number from list kept (omega arith) there
    ∙ ap (λ b. if b then kept ∷ [] else []) (ne_eqb (chain_of kept.name) from (omega arith))) in
    let rest = none_past (from + 1) number list kept chains (rest_from from list chain chains are) there (omega arith) in
    ap₂ (λ (a b : List KeptWave). a ++ b) here rest

-- all chains together have a wave once
one_of_all : (from number : ℕ) (list : List KeptWave) (kept : KeptWave) (chains : List (List NumberedWave)) → AreFrom from list chains
    → slice_get list number ≡ Some kept → from ≤ chain_of kept.name → chain_of kept.name < from + length chains → with_number number chains ≡ kept ∷ []
one_of_all from number list kept [] are there low high = absurd (omega arith)
one_of_all from number list kept (chain ∷ chains) are there low high =
    let in_first : numbered_in number chain ≡ (if chain_of kept.name == from then kept ∷ [] else []) =
    ap (numbered_in number) (first_from from list chain chains are) ∙ one_in_chain 0 number number from list kept (omega arith) there in
    elim (cases_eq (chain_of kept.name) from) [
      | inl here ↦
          ap₂ (λ (a b : List KeptWave). a ++ b) (in_first ∙ ap (λ b. if b then kept ∷ [] else []) (eq-eqb (chain_of kept.name) from here))
          (none_past (from + 1) number list kept chains (rest_from from list chain chains are) there (omega arith))
      | inr later ↦
          ap₂ (λ (a b : List KeptWave). a ++ b) (in_first ∙ ap (λ b. if b then kept ∷ [] else []) (ne_eqb (chain_of kept.name) from later))
          (one_of_all (from + 1) number list kept chains (rest_from from list chain chains are) there (omega arith) (omega arith))
    ]

-- what bytes give is the place of a chain
place_within : (place : ℕ) (bytes : List ℕ) → place < chain_count → place_after place bytes < chain_count
place_within place [] within = within
place_within place (byte ∷ bytes) within = place_within ((place * 31 + byte) % chain_count) bytes (omega arith)

-- waves that are found by their numbers one by one
all_by_number : (from : ℕ) (list : List KeptWave) (chains : List (List NumberedWave))
    → ((i : ℕ) (kept : KeptWave) → slice_get list i ≡ Some kept → with_number (from + i) chains ≡ kept ∷ []) → by_number (length list) from chains ≡ list
all_by_number from [] chains each = refl
all_by_number from (kept ∷ list) chains each =
    let e : from + 0 ≡ from = omega arith in
    let first = sym (ap (λ n. with_number n chains) e) ∙ each 0 kept refl in
    let rest = all_by_number (from + 1) list chains (λ i k there.
    let e : from + 1 + i ≡ from + suc i = omega arith in ap (λ n. with_number n chains) e ∙ each (suc i) k there) in
    ap₂ (λ (a b : List KeptWave). a ++ b) first rest

-- the waves that stand in chains are read from them by their numbers
pub read_back : (list : List KeptWave) (many : ℕ) (chains : List (List NumberedWave)) → HaveWaves list many chains → by_number many 0 chains ≡ list
read_back list many chains have =
    ap (λ n. by_number n 0 chains) have.count
    ∙ all_by_number 0 list chains (λ i kept there.
    let e : 0 + i ≡ i = omega arith in
    ap (λ n. with_number n chains) e
    ∙ one_of_all 0 i list kept chains (λ k chain at. let e : k ≡ 0 + k = omega arith in have.each k chain at ∙ ap (λ n. in_chain n 0 list) e) there
    (omega arith) (omega (arith, have.chains, place_within 0 kept.name (omega arith))))

-- waves that stand in chains are those that are read from them
are_read : (list : List KeptWave) (waves : Waves) → HaveWaves list waves.count waves.chains.items → AreWaves waves × (waves_of waves ≡ list)
are_read list waves have =
    let is = read_back list waves.count waves.chains.items have in
    (subst (λ (ks : List KeptWave). HaveWaves ks waves.count waves.chains.items) (sym is) have, is)

-- a chain of nothing
abbrev pub the_empty : List NumberedWave
the_empty = []

nothing : (n place : ℕ) (chain : List NumberedWave) → slice_get (replicate n the_empty) place ≡ Some chain → chain ≡ []
nothing zero place chain there = absurd (cc)
nothing (suc n) zero chain there = let e : the_empty ≡ chain = cc in sym e
nothing (suc n) (suc place) chain there = nothing n place chain there

-- what is read at a place of a list stands there
pub value_at : {A : Type 0} (xs : List A) (i : ℕ) (default x : A) → i < length xs → x ≡ get_or xs i default → slice_get xs i ≡ Some x
value_at xs i default x within is = slice_get-get_or xs i default within ∙ ap Some (sym is)

-- chains of nothing have no waves
pub none_in_empty : (waves : Waves) → waves.count ≡ 0 → waves.chains.items ≡ replicate chain_count the_empty → AreWaves waves × (waves_of waves ≡ [])
none_in_empty waves count chains = are_read [] waves (record {
  count = count;
  chains = ap length chains ∙ length-replicate chain_count the_empty;
  each = λ place chain there. nothing chain_count place chain (ap (λ (cs : List (List NumberedWave)). slice_get cs place) (sym chains) ∙ there);
})

-- the same waves are the same list
pub same_waves : (old new : Waves) → AreWaves old → AreSameWaves old new → AreWaves new × (waves_of new ≡ waves_of old)
same_waves old new are same = are_read (waves_of old) new (record {
  count = same.count ∙ are.count;
  chains = ap length same.chains ∙ are.chains;
  each = λ place chain there. are.each place chain (ap (λ (cs : List (List NumberedWave)). slice_get cs place) (sym same.chains) ∙ there);
})

-- a wave after the others stands last in the chain of its name
in_chain-push : (place from : ℕ) (list : List KeptWave) (kept : KeptWave) → in_chain place from (list ++ kept ∷ [])
    ≡ in_chain place from list ++ (if chain_of kept.name == place then numbered (from + length list) kept ∷ [] else [])
in_chain-push place from [] kept =
    let e : from ≡ from + 0 = omega arith in ap (λ n. if chain_of kept.name == place then numbered n kept ∷ [] else []) e
in_chain-push place from (k ∷ list) kept =
    let e : from + 1 + length list ≡ from + suc (length list) = omega arith in
    let rest = in_chain-push place (from + 1) list kept
    ∙ ap (λ n. in_chain place (from + 1) list ++ (if chain_of kept.name == place then numbered n kept ∷ [] else [])) e in
    by (chain_of k.name == place) _ rest
  where
    by : (b : Bool) (last : List NumberedWave) → in_chain place (from + 1) (list ++ kept ∷ []) ≡ in_chain place (from + 1) list ++ last
        → (if b then numbered from k ∷ in_chain place (from + 1) (list ++ kept ∷ []) else in_chain place (from + 1) (list ++ kept ∷ []))
        ≡ (if b then numbered from k ∷ in_chain place (from + 1) list else in_chain place (from + 1) list) ++ last
    by true last rest = ap (λ (ns : List NumberedWave). numbered from k ∷ ns) rest
    by false last rest = rest

-- one more wave is the last of the list, once it stands last in its chain
pub pushed : (old new : Waves) (kept : KeptWave) (chain : List NumberedWave) → AreWaves old
    → slice_get old.chains.items (chain_of kept.name) ≡ Some chain
    → new.chains.items ≡ slice_set old.chains.items (chain_of kept.name) (chain ++ numbered old.count kept ∷ []) → new.count ≡ old.count + 1
    → AreWaves new × (waves_of new ≡ waves_of old ++ kept ∷ [])
pushed old new kept chain are was now count = are_read (waves_of old ++ kept ∷ []) new (record {
  count = omega (arith, count, are.count, length-append (waves_of old) (kept ∷ []));
  chains = ap length now ∙ (length-set old.chains.items (chain_of kept.name) _ ∙ are.chains);
  each = λ place c there.
      let last = λ (b : Bool). in_chain place 0 (waves_of old) ++ (if b then numbered (0 + length (waves_of old)) kept ∷ [] else []) in
      let all = in_chain-push place 0 (waves_of old) kept in
      elim (slice_get-set old.chains.items (chain_of kept.name) place c (chain ++ numbered old.count kept ∷ [])
      (ap (λ (cs : List (List NumberedWave)). slice_get cs place) (sym now) ∙ there)) [
        | inl here ↦
            let e : old.count ≡ 0 + length (waves_of old) = omega (arith, are.count) in
            let was_all : chain ≡ in_chain place 0 (waves_of old) = are.each (chain_of kept.name) chain was
            ∙ ap (λ n. in_chain n 0 (waves_of old)) (sym here.0) in
            here.1 ∙ (ap₂ (λ (ns : List NumberedWave) (n : ℕ). ns ++ numbered n kept ∷ []) was_all e
            ∙ sym (all ∙ ap last (eq-eqb (chain_of kept.name) place (sym here.0))))
        | inr other ↦
            are.each place c other.1 ∙ sym (all ∙ (ap last (ne_eqb (chain_of kept.name) place (λ e. other.0 (sym e)))
            ∙ append-nil (in_chain place 0 (waves_of old))))
      ];
})

-- whether a wave has a name is told by the chain of the name
pub any_in_chain : (name : List ℕ) (from : ℕ) (list : List KeptWave)
    → list_any (is_named name) (in_chain (chain_of name) from list) ≡ list_any (has_name name) list
any_in_chain name from [] = refl
any_in_chain name from (kept ∷ list) =
    by (bytes_eq kept.name name) refl (any_in_chain name (from + 1) list)
  where
    chain : List NumberedWave
    chain = in_chain (chain_of name) (from + 1) list

    by : (b : Bool) → bytes_eq kept.name name ≡ b → list_any (is_named name) chain ≡ list_any (has_name name) list
        → list_any (is_named name) (if chain_of kept.name == chain_of name then numbered from kept ∷ chain else chain)
        ≡ (bytes_eq kept.name name || list_any (has_name name) list)
    by true is rest =
        let same = (bytes_eq-Decides kept.name name).0 is in
        ap (λ b. list_any (is_named name) (if b then numbered from kept ∷ chain else chain)) (eq-eqb (chain_of kept.name) (chain_of name) (ap chain_of same))
        ∙ ap (λ t. bytes_eq kept.name name || t) rest
    by false is rest = skip (chain_of kept.name == chain_of name) is rest
      where
        skip : (t : Bool) → bytes_eq kept.name name ≡ false → list_any (is_named name) chain ≡ list_any (has_name name) list
            → list_any (is_named name) (if t then numbered from kept ∷ chain else chain) ≡ (bytes_eq kept.name name || list_any (has_name name) list)
        skip true is rest = ap (λ t. bytes_eq kept.name name || t) rest
        skip false is rest = rest ∙ sym (ap (λ t. t || list_any (has_name name) list) is)

-- a wave of a chain is the one that its number gives; once it is another of its name, so is the one in the list
pub record StandsAt (place from : ℕ) (list : List KeptWave) (before : List NumberedWave) (x : NumberedWave) (after : List NumberedWave) : Type 0 where
  pub i : ℕ
  pub number : x.number ≡ from + i
  pub there : slice_get list i ≡ Some x.wave
  pub place_is : chain_of x.wave.name ≡ place
  pub changed : (left : KeptWave) → left.name ≡ x.wave.name → in_chain place from (slice_set list i left) ≡ before ++ numbered x.number left ∷ after

-- what stands in the chain of the rest of a list stands in that of the whole
stands_later : (place from : ℕ) (kept : KeptWave) (list : List KeptWave) (before rest : List NumberedWave) (x : NumberedWave) (after : List NumberedWave)
    → StandsAt place (from + 1) list rest x after
    → ((tail : List NumberedWave) → (if chain_of kept.name == place then numbered from kept ∷ (rest ++ tail) else rest ++ tail) ≡ before ++ tail)
    → StandsAt place from (kept ∷ list) before x after
stands_later place from kept list before rest x after stands join =
    let i = stands.i in
    let number = stands.number in
    record {
      i = suc i;
      number = omega (arith, number);
      there = stands.there;
      place_is = stands.place_is;
      changed = λ left named.
          ap (λ (ns : List NumberedWave). if chain_of kept.name == place then numbered from kept ∷ ns else ns) (stands.changed left named)
          ∙ join (numbered x.number left ∷ after);
    }

stands_first : (place from : ℕ) (kept : KeptWave) (list : List KeptWave) (before : List NumberedWave) (x : NumberedWave) (after : List NumberedWave)
    → chain_of kept.name ≡ place → numbered from kept ∷ in_chain place (from + 1) list ≡ before ++ x ∷ after
    → ((rest : List NumberedWave) → in_chain place (from + 1) list ≡ rest ++ x ∷ after → StandsAt place (from + 1) list rest x after)
    → StandsAt place from (kept ∷ list) before x after
stands_first place from kept list [] x after here is later =
    let same : numbered from kept ≡ x = cc in
    let rest : in_chain place (from + 1) list ≡ after = cc in
    let wave = ap (λ (n : NumberedWave). n.wave) same in
    let number = ap (λ (n : NumberedWave). n.number) same in
    record {
      i = 0;
      number = omega (arith, number);
      there = ap Some wave;
      place_is = ap (λ (k : KeptWave). chain_of k.name) (sym wave) ∙ here;
      changed = λ left named.
          ap (λ b. if b then numbered from left ∷ in_chain place (from + 1) list else in_chain place (from + 1) list)
          (eq-eqb (chain_of left.name) place (ap chain_of named ∙ (ap (λ (k : KeptWave). chain_of k.name) (sym wave) ∙ here)))
          ∙ ap₂ (λ (n : ℕ) (ns : List NumberedWave). numbered n left ∷ ns) number rest;
    }
stands_first place from kept list (b ∷ before) x after here is later =
    let same : numbered from kept ≡ b = cc in
    let rest : in_chain place (from + 1) list ≡ before ++ x ∷ after = cc in
    stands_later place from kept list (b ∷ before) before x after (later before rest) (λ tail.
    ap (λ t. if t then numbered from kept ∷ (before ++ tail) else before ++ tail) (eq-eqb (chain_of kept.name) place here)
    ∙ ap (λ (n : NumberedWave). n ∷ (before ++ tail)) same)

-- each wave of a chain stands so
pub stands_at : (place from : ℕ) (list : List KeptWave) (before : List NumberedWave) (x : NumberedWave) (after : List NumberedWave)
    → in_chain place from list ≡ before ++ x ∷ after → StandsAt place from list before x after
stands_at place from [] [] x after is = absurd (cc)
stands_at place from [] (b ∷ before) x after is = absurd (cc)
stands_at place from (kept ∷ list) before x after is = elim (cases_eq (chain_of kept.name) place) [
  | inl here ↦
      stands_first place from kept list before x after here
      (sym (ap (λ t. if t then numbered from kept ∷ in_chain place (from + 1) list else in_chain place (from + 1) list)
      (eq-eqb (chain_of kept.name) place here))
      ∙ is)
      (λ rest is. stands_at place (from + 1) list rest x after is)
  | inr other ↦
      let passed = ne_eqb (chain_of kept.name) place other in
      stands_later place from kept list before before x after
      (stands_at place (from + 1) list before x after
      (sym (ap (λ t. if t then numbered from kept ∷ in_chain place (from + 1) list else in_chain place (from + 1) list) passed) ∙ is))
      (λ tail. ap (λ t. if t then numbered from kept ∷ (before ++ tail) else before ++ tail) passed)
]

-- a wave that changes and keeps its name leaves the chains of other places as they are
in_chain-set : (place from i : ℕ) (list : List KeptWave) (kept left : KeptWave) → slice_get list i ≡ Some kept → left.name ≡ kept.name
    → chain_of kept.name ≢ place → in_chain place from (slice_set list i left) ≡ in_chain place from list
in_chain-set place from i [] kept left there named other = refl
in_chain-set place from zero (k ∷ list) kept left there named other =
    let same : k ≡ kept = cc in
    let was = ne_eqb (chain_of k.name) place (λ e. other (sym (ap (λ (w : KeptWave). chain_of w.name) same) ∙ e)) in
    let now = ne_eqb (chain_of left.name) place (λ e. other (sym (ap chain_of named) ∙ e)) in
    ap (λ t. if t then numbered from left ∷ in_chain place (from + 1) list else in_chain place (from + 1) list) now
    ∙ sym (ap (λ t. if t then numbered from k ∷ in_chain place (from + 1) list else in_chain place (from + 1) list) was)
in_chain-set place from (suc i) (k ∷ list) kept left there named other =
    ap (λ (ns : List NumberedWave). if chain_of k.name == place then numbered from k ∷ ns else ns)
    (in_chain-set place (from + 1) i list kept left there named other)

-- the wave that was taken out is the one that its number gives
pub found_there : (name : List ℕ) (old rest : Waves) (found : Found) → AreWaves old → IsFound name old rest found
    → slice_get (waves_of old) found.number ≡ Some found.wave
found_there name old rest found are is =
    let stands = stands_at found.place 0 (waves_of old) is.before (numbered_of found) (reverse found.after) (sym (are.each found.place _ is.was)) in
    let e : found.number ≡ stands.i = omega (arith, stands.number) in
    ap (slice_get (waves_of old)) e ∙ stands.there

-- once the wave is put back under its name, it is the one that its number gives, and all others are as they were
pub waves_back : (name : List ℕ) (old rest new : Waves) (found : Found) (left : KeptWave) → AreWaves old → IsFound name old rest found
    → left.name ≡ found.wave.name → IsReturned rest (record found { wave = left }) new
    → AreWaves new × (waves_of new ≡ slice_set (waves_of old) found.number left)
waves_back name old rest new found left are is named put =
    let list = waves_of old in
    let stands = stands_at found.place 0 list is.before (numbered_of found) (reverse found.after) (sym (are.each found.place _ is.was)) in
    let e : stands.i ≡ found.number = omega (arith, stands.number) in
    let within = slice_get_within old.chains.items found.place _ is.was in
    let left_there = ap (λ (cs : List (List NumberedWave)). slice_get cs found.place) is.is
    ∙ slice_get-set_same old.chains.items found.place is.before within in
    let chain : List NumberedWave = is.before ++ numbered found.number left ∷ reverse found.after in
    let now : new.chains.items ≡ slice_set old.chains.items found.place chain = put.chains is.before left_there
    ∙ (ap (λ (cs : List (List NumberedWave)). slice_set cs found.place chain) is.is ∙ set_twice old.chains.items found.place is.before chain) in
    are_read (slice_set list found.number left) new (record {
      count = omega (arith, put.count, is.count, are.count, length-set list found.number left);
      chains = ap length now ∙ (length-set old.chains.items found.place chain ∙ are.chains);
      each = λ place c there. elim (slice_get-set old.chains.items found.place place c chain
          (ap (λ (cs : List (List NumberedWave)). slice_get cs place) (sym now) ∙ there)) [
            | inl here ↦
                here.1 ∙ (sym (stands.changed left named) ∙ ap₂ (λ (k i : ℕ). in_chain k 0 (slice_set list i left)) (sym here.0) e)
            | inr other ↦
                are.each place c other.1 ∙ sym (in_chain-set place 0 found.number list found.wave left (ap (slice_get list) (sym e) ∙ stands.there) named
                (λ same. other.0 (sym same ∙ stands.place_is)))
          ];
    })
  where
    set_twice : {A : Type 0} (xs : List A) (i : ℕ) (x y : A) → slice_set (slice_set xs i x) i y ≡ slice_set xs i y
    set_twice [] i x y = refl
    set_twice (z ∷ xs) zero x y = refl
    set_twice (z ∷ xs) (suc i) x y = ap (λ rest. z ∷ rest) (set_twice xs i x y)

-- a wave that stands in the chain of its name is one of the list
pub chain_is_there : (waves : Waves) (name : List ℕ) (chain before after : List NumberedWave) (x : NumberedWave) → AreWaves waves
    → slice_get waves.chains.items (chain_of name) ≡ Some chain → chain ≡ before ++ x ∷ after
    → (number : ℕ) × (slice_get (waves_of waves) number ≡ Some x.wave)
chain_is_there waves name chain before after x are there is =
    let stands = stands_at (chain_of name) 0 (waves_of waves) before x after (sym (are.each (chain_of name) chain there) ∙ is) in
    (stands.i, stands.there)

-- where no wave of the chain of a name has it, no wave of all has it
pub nobody_named : (waves : Waves) (name : List ℕ) (chain : List NumberedWave) → AreWaves waves
    → slice_get waves.chains.items (chain_of name) ≡ Some chain → list_any (is_named name) chain ≡ false → list_any (has_name name) (waves_of waves) ≡ false
nobody_named waves name chain are there none =
    sym (any_in_chain name 0 (waves_of waves)) ∙ (ap (list_any (is_named name)) (sym (are.each (chain_of name) chain there)) ∙ none)

-- some wave has a name that one at a place has
pub some_named : (list : List KeptWave) (number : ℕ) (kept : KeptWave) (name : List ℕ) → slice_get list number ≡ Some kept → kept.name ≡ name
    → list_any (has_name name) list ≡ true
some_named [] number kept name there named = absurd (cc)
some_named (k ∷ list) zero kept name there named =
    let same : k ≡ kept = cc in
    ap (λ b. b || list_any (has_name name) list) ((bytes_eq-Decides k.name name).1 (ap (λ (w : KeptWave). w.name) same ∙ named))
some_named (k ∷ list) (suc number) kept name there named =
    or_right (has_name name k) (list_any (has_name name) list) (some_named list number kept name there named)
  where
    or_right : (a b : Bool) → b ≡ true → (a || b) ≡ true
    or_right true b e = refl
    or_right false b e = e
