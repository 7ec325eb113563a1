-- Commands on a wave, as the whole floor answers them.
use Rattle.std.proofs.Common.{◌≡◌, ◌∙◌, refl, sym, ap, ap₂, subst, ℕ, zero, suc, ◌+◌, ◌&&◌, Bool, true, false, inl, inr, List, [], ◌∷◌, length, map}
use Rattle.std.proofs.Common.{Option, Some, None, IfSome, slice_get, slice_set, option_map, bytes_eq, if◌then◌else◌, arith, length-set}
use Rattle.std.proofs.Math.Path.{fun_ext}
use Rattle.std.proofs.lemmas.Bool.{or_cases, or_parts}
use Rattle.std.proofs.lemmas.Option.{slice_get-map, slice_get_within}
use Rattle.std.proofs.lemmas.Slice.Eq.{bytes_eq-Decides}
use Rattle.std.specs.List.{list_any}
use Rattle.std.specs.Option.{option_map_or}
use Rattle.wp_model.proofs.Elements.{at_some, if_some, slice_get-set, slice_get-set_same}
use Rattle.wp_model.proofs.Sound.{step_keeps_sound}
use Rattle.wp_model.specs.Book.{Book, held_for, held_list}
use Rattle.wp_model.specs.Opening.{IsOpening, Opening}
use Rattle.wp_model.specs.Sound.{IsSound}
use Rattle.wp_model.specs.State.{State, Wave}
use Rattle.wp_model.specs.Step.{Stepped, at_wave, is_among, is_live, refuse, step, taker_of, wave_from}
use Rattle.wp_model.specs.Tables.{IsReadOpening}
use Rattle.wp_model.specs.declared.command.Command.{Command}
use Rattle.wp_model.specs.declared.reply.Reply.{Reply}
use Rattle.wp_model.specs.declared.reply.Reply.TheVariants as reply
use Rattle.wp_model.specs.declared.reply.WaveState.TheVariants as wave
use Rattle.wp_floor.specs.Floor.{AreSameRows, AreTakers, HasAnswered, HasPapers, HasStepped, IsAt, IsFloor, IsKeptWave, state_at, state_in, state_of, wave_of}
use Rattle.wp_floor.specs.Takers.{HasPut, frees}
use Rattle.wp_floor.specs.Waves.{AreSameWaves, IsFound, IsReturned, has_name, waves_of}
use Rattle.wp_floor.specs.declared.floor.Floor.{Floor}
use Rattle.wp_floor.specs.declared.waves.Found.{Found}
use Rattle.wp_floor.specs.declared.waves.KeptWave.{KeptWave}
use Rattle.wp_floor.specs.declared.waves.Stage.{Stage}
use Rattle.wp_floor.specs.declared.waves.Stage.TheVariants as stage
use Rattle.wp_floor.specs.declared.waves.Waves.{Waves}
use Rattle.wp_floor.proofs.WaveChains.{found_there, same_waves, waves_back}
use Rattle.wp_floor.proofs.SameRows.{step_keeps_rows}

-- an opening that was read is an opening
pub is_opening : (opening : Opening) → IsReadOpening opening → IsOpening opening
is_opening opening is = record { rows = is.stock.rows; orders = is.orders.each }

map-set : {A B : Type 0} (f : A → B) (xs : List A) (i : ℕ) (y : A) → map f (slice_set xs i y) ≡ slice_set (map f xs) i (f y)
map-set f [] i y = refl
map-set f (x ∷ xs) zero y = refl
map-set f (x ∷ xs) (suc i) y = ap (λ rest. f x ∷ rest) (map-set f xs i y)

-- the one wave of a name is the one that is found
pub wave_by : (waves : List Wave) (name : List ℕ) (n k : ℕ) (w : Wave) → slice_get waves k ≡ Some w → w.name ≡ name
    → ((i j : ℕ) (u v : Wave) → slice_get waves i ≡ Some u → slice_get waves j ≡ Some v → u.name ≡ v.name → i ≡ j) → wave_from n waves name ≡ Some (n + k, w)
wave_by [] name n k w there named apart = absurd (cc)
wave_by (v ∷ waves) name n zero w there named apart =
    let same : v ≡ w = cc in
    let is : bytes_eq v.name name ≡ true = (bytes_eq-Decides v.name name).1 (ap (λ (u : Wave). u.name) same ∙ named) in
    let e : n + zero ≡ n = omega arith in
    ap (λ b. if b then Some (n, v) else wave_from (n + 1) waves name) is ∙ ap₂ (λ (m : ℕ) (u : Wave). Some (m, u)) (sym e) same
wave_by (v ∷ waves) name n (suc k) w there named apart =
    let other : bytes_eq v.name name ≡ false = differs (bytes_eq v.name name) (bytes_eq-Decides v.name name).0 in
    let e : n + 1 + k ≡ n + suc k = omega arith in
    ap (λ b. if b then Some (n, v) else wave_from (n + 1) waves name) other
    ∙ (wave_by waves name (n + 1) k w there named (λ i j u x at_i at_j same. let e : suc i ≡ suc j = apart (suc i) (suc j) u x at_i at_j same in omega arith)
    ∙ ap (λ (m : ℕ). Some (m, w)) e)
  where
    differs : (b : Bool) → (b ≡ true → v.name ≡ name) → b ≡ false
    differs true to = let e : zero ≡ suc k = apart zero (suc k) v w refl there (to refl ∙ sym named) in absurd (omega arith)
    differs false to = refl

-- no wave has a name that none of the kept ones has
pub none_by : (kepts : List KeptWave) (name : List ℕ) (n : ℕ) → list_any (has_name name) kepts ≡ false → wave_from n (map wave_of kepts) name ≡ None
none_by [] name n none = refl
none_by (kept ∷ kepts) name n none =
    let parts = or_parts (bytes_eq kept.name name) (list_any (has_name name) kepts) none in
    ap (λ b. if b then Some (n, wave_of kept) else wave_from (n + 1) (map wave_of kepts) name) parts.0 ∙ none_by kepts name (n + 1) parts.1

-- a command on a wave that isn't there
pub unknown_wave : (opening : Opening) (command : Command) (name : List ℕ) (change : ℕ → Wave → Stepped) (old : Floor) (ws : Waves)
    → IsFloor opening old
    → step opening (state_of old) command ≡ at_wave (state_of old) name change → AreSameWaves old.waves ws
    → list_any (has_name name) (waves_of old.waves) ≡ false
    → HasStepped opening command old (record old { waves = ws }) reply.UnknownWave
unknown_wave opening command name change old ws floor is same none =
    let kept = same_waves old.waves ws floor.chains same in
    let back : waves_of old.waves ≡ waves_of ws = sym kept.1 in
    let unknown = is
    ∙ ap (λ found. option_map_or (λ (f : ℕ × Wave). change f.0 f.1) found (refuse (state_of old) reply.UnknownWave))
    (none_by (waves_of old.waves) name 0 none) in
    record {
      is = unknown ∙ ap (λ (ks : List KeptWave). refuse (state_at old.book (map wave_of ks)) reply.UnknownWave) back;
      floor = record {
        read = floor.read;
        sound = subst (λ (ks : List KeptWave). IsSound opening (state_at old.book (map wave_of ks))) back floor.sound;
        rows = floor.rows;
        chains = kept.0;
        waves = λ n. subst (λ (ks : List KeptWave). IfSome (slice_get ks n) (IsKeptWave opening old.book n)) back (floor.waves n);
        takers = subst (λ (ks : List KeptWave). AreTakers opening (map wave_of ks) old.takers.items) back floor.takers;
      };
      most = omega (arith, ap length back);
    }

-- the wave that was taken out has its place
pub found_at : (opening : Opening) (name : List ℕ) (old : Floor) (rest : Waves) (found : Found) → IsFloor opening old
    → IsFound name old.waves rest found
    → IsAt opening old.book (map wave_of (waves_of old.waves)) found.number found.wave
found_at opening name old rest found floor is =
    let there = found_there name old.waves rest found floor.chains is in
    record {
      read = floor.read;
      sound = floor.sound;
      there = slice_get-map wave_of (waves_of old.waves) found.number ∙ ap (option_map wave_of) there;
      keeps = at_some (slice_get (waves_of old.waves) found.number) (IsKeptWave opening old.book found.number) found.wave there (floor.waves found.number);
    }

-- a wave that holds what it did is kept as it was
papers_same : (opening : Opening) (old new : Book) (number : ℕ) (kept : KeptWave) (s : Stage) → length new.rows ≡ length old.rows
    → held_for new number ≡ held_for old number → HasPapers opening s old number kept → HasPapers opening s new number kept
papers_same opening old new number kept (stage.Submitted needs) rows held papers = papers
papers_same opening old new number kept (stage.Allotted sheet) rows held papers =
    (papers.0, papers.1 ∙ ap₂ (λ n h. held_list (length kept.orders) n h) (sym rows) (sym held))
papers_same opening old new number kept stage.Released rows held papers = tt
papers_same opening old new number kept stage.Cancelled rows held papers = tt
papers_same opening old new number kept stage.Done rows held papers = tt

-- a wave that holds what it held is kept as it should be in a book of as many rows
pub kept_same : (opening : Opening) (old new : Book) (number : ℕ) (kept : KeptWave) → length new.rows ≡ length old.rows
    → ((order row : ℕ) → held_for new number order row ≡ held_for old number order row) → IsKeptWave opening old number kept
    → IsKeptWave opening new number kept
kept_same opening old new number kept rows held keeps = record {
  numbered = keeps.numbered;
  papers = papers_same opening old new number kept kept.stage rows (fun_ext (λ order. fun_ext (λ row. held order row))) keeps.papers;
}

-- what was answered at a wave, with who has the orders then
pub record IsAnswered (opening : Opening) (name : List ℕ) (old : Floor) (rest : Waves) (found : Found) (new : Floor) (left : KeptWave)
    (stepped : Stepped) (answer : Reply) : Type 0 where
  pub floor : IsFloor opening old
  pub is_found : IsFound name old.waves rest found
  pub answers : HasAnswered opening stepped old.book new.book (map wave_of (waves_of old.waves)) found.number found.wave left answer
  pub waves : IsReturned rest (record found { wave = left }) new.waves
  pub takers : AreTakers opening (map wave_of (waves_of new.waves)) new.takers.items

-- the waves, once the one that was taken out is back under its name, are those that were with this one in its place
pub waves_put : (opening : Opening) (name : List ℕ) (old : Floor) (new rest : Waves) (found : Found) (left : KeptWave) → IsFloor opening old
    → IsFound name old.waves rest found → left.name ≡ found.wave.name → IsReturned rest (record found { wave = left }) new
    → map wave_of (waves_of new) ≡ slice_set (map wave_of (waves_of old.waves)) found.number (wave_of left)
waves_put opening name old new rest found left floor is named put =
    ap (map wave_of) (waves_back name old.waves rest new found left floor.chains is named put).1 ∙ map-set wave_of (waves_of old.waves) found.number left

-- the wave that is back is the one that its number gives
pub back_there : (opening : Opening) (name : List ℕ) (old : Floor) (new rest : Waves) (found : Found) (left : KeptWave) → IsFloor opening old
    → IsFound name old.waves rest found → left.name ≡ found.wave.name → IsReturned rest (record found { wave = left }) new
    → slice_get (map wave_of (waves_of new)) found.number ≡ Some (wave_of left)
back_there opening name old new rest found left floor is named put =
    let at = found_at opening name old rest found floor is in
    ap (λ (ws : List Wave). slice_get ws found.number) (waves_put opening name old new rest found left floor is named put)
    ∙ slice_get-set_same (map wave_of (waves_of old.waves)) found.number (wave_of left)
    (slice_get_within (map wave_of (waves_of old.waves)) found.number (wave_of found.wave) at.there)

-- the floor answers as the wave does
pub answered : (opening : Opening) (command : Command) (name : List ℕ) (change : ℕ → Wave → Stepped) (old : Floor) (rest : Waves) (found : Found)
    (new : Floor) (left : KeptWave) (answer : Reply)
    → step opening (state_of old) command ≡ at_wave (state_of old) name change
    → IsAnswered opening name old rest found new left (change found.number (wave_of found.wave)) answer
    → HasStepped opening command old new answer
answered opening command name change old rest found new left answer is done =
    let at = found_at opening name old rest found done.floor done.is_found in
    let by = wave_by (map wave_of (waves_of old.waves)) name 0 found.number (wave_of found.wave) at.there done.is_found.named done.floor.sound.names in
    let back = waves_back name old.waves rest new.waves found left done.floor.chains done.is_found done.answers.name done.waves in
    let zero : 0 + found.number ≡ found.number = omega arith in
    let put = waves_put opening name old new.waves rest found left done.floor done.is_found done.answers.name done.waves in
    let all = is ∙ (ap (λ (f : Option (ℕ × Wave)). option_map_or (λ (f : ℕ × Wave). change f.0 f.1) f (refuse (state_of old) reply.UnknownWave))
    (by ∙ ap (λ (n : ℕ). Some (n, wave_of found.wave)) zero)
    ∙ (done.answers.is ∙ ap (λ (ws : List Wave). let s : Stepped = record { reply = answer; state = state_at new.book ws } in s) (sym put))) in
    let after : (step opening (state_of old) command).state ≡ state_of new = ap (λ (s : Stepped). s.state) all in
    record {
      is = all;
      floor = record {
        read = done.floor.read;
        sound = subst (IsSound opening) after (step_keeps_sound opening (state_of old) command (is_opening opening done.floor.read) done.floor.sound);
        rows = subst (λ (s : State). AreSameRows opening s.rows) after (step_keeps_rows opening (state_of old) command done.floor.rows);
        chains = back.0;
        waves = λ n. subst (λ (ws : List KeptWave). IfSome (slice_get ws n) (IsKeptWave opening new.book n)) (sym back.1)
            (if_some (slice_get (slice_set (waves_of old.waves) found.number left) n) (IsKeptWave opening new.book n)
            (λ kept there. elim (slice_get-set (waves_of old.waves) found.number n kept left there) [
              | inl here ↦ subst (λ (k : KeptWave). IsKeptWave opening new.book n k) (sym here.1)
                  (subst (λ (m : ℕ). IsKeptWave opening new.book m left) (sym here.0) done.answers.keeps)
              | inr other ↦ kept_same opening old.book new.book n kept done.answers.rows (λ order row. done.answers.others n order row other.0)
                  (at_some (slice_get (waves_of old.waves) n) (IsKeptWave opening old.book n) kept other.1 (done.floor.waves n))
            ]));
        takers = done.takers;
      };
      most = omega (arith, ap length back.1, length-set (waves_of old.waves) found.number left);
    }

-- a wave that is still live, or still isn't, leaves its orders where they are
taker-set : (waves : List Wave) (k : ℕ) (w v : Wave) (order : List ℕ) → slice_get waves k ≡ Some w → v.name ≡ w.name → v.orders ≡ w.orders
    → is_live v.state ≡ is_live w.state → taker_of (slice_set waves k v) order ≡ taker_of waves order
taker-set [] k w v order there name orders live = refl
taker-set (x ∷ waves) zero w v order there name orders live =
    let same : x ≡ w = cc in
    ap (λ b. if b && is_among v.orders order then Some v.name else taker_of waves order) (live ∙ ap (λ (u : Wave). is_live u.state) (sym same))
    ∙ ap₂ (λ (os : List (List ℕ)) (n : List ℕ). if is_live x.state && is_among os order then Some n else taker_of waves order)
    (orders ∙ ap (λ (u : Wave). u.orders) (sym same)) (name ∙ ap (λ (u : Wave). u.name) (sym same))
taker-set (x ∷ waves) (suc k) w v order there name orders live =
    ap (λ rest. if is_live x.state && is_among x.orders order then Some x.name else rest) (taker-set waves k w v order there name orders live)

-- a wave that is live or not as before and has its name and orders leaves all orders to those that have them
pub takers_same : (opening : Opening) (name : List ℕ) (old : Floor) (new rest : Waves) (found : Found) (left : KeptWave) → IsFloor opening old
    → IsFound name old.waves rest found → IsReturned rest (record found { wave = left }) new
    → left.name ≡ found.wave.name → left.orders ≡ found.wave.orders → is_live (state_in left.stage) ≡ is_live (state_in found.wave.stage)
    → AreTakers opening (map wave_of (waves_of new)) old.takers.items
takers_same opening name old new rest found left floor is put named orders live =
    let at = found_at opening name old rest found floor is in
    record {
      count = floor.takers.count;
      each = λ i order there. floor.takers.each i order there
          ∙ ap Some (sym (ap (λ (ws : List Wave). taker_of ws order.name) (waves_put opening name old new rest found left floor is named put)
          ∙ taker-set (map wave_of (waves_of old.waves)) found.number (wave_of found.wave) (wave_of left) order.name at.there named orders live));
    }

-- a name that is among names stands in their list
pub member : (names : List (List ℕ)) (name : List ℕ) → is_among names name ≡ true → (k : ℕ) × (slice_get names k ≡ Some name)
member [] name e = absurd (cc)
member (n ∷ names) name e = elim (or_cases (bytes_eq n name) (is_among names name) e) [
  | inl here ↦ (0, ap Some ((bytes_eq-Decides n name).0 here))
  | inr later ↦ let rest = member names name later in (suc rest.0, rest.1)
]

both_fail : (a b : Bool) → (a ≡ true → b ≡ true → ⊥) → (a && b) ≡ false
both_fail true true f = absurd (f refl refl)
both_fail true false f = refl
both_fail false b f = refl

-- an order that no live wave has is taken by none
pub no_taker : (waves : List Wave) (order : List ℕ) → ((i k : ℕ) (v : Wave) → slice_get waves i ≡ Some v → is_live v.state ≡ true
    → slice_get v.orders k ≡ Some order → ⊥) → taker_of waves order ≡ None
no_taker [] order none = refl
no_taker (w ∷ waves) order none =
    let rest = no_taker waves order (λ i k v there live has. none (suc i) k v there live has) in
    let here = both_fail (is_live w.state) (is_among w.orders order) (λ live has. let at = member w.orders order has in none 0 at.0 w refl live at.1) in
    ap (λ b. if b then Some w.name else taker_of waves order) here ∙ rest

-- a wave that doesn't have an order leaves it where it is
taker-without : (waves : List Wave) (k : ℕ) (w v : Wave) (order : List ℕ) → slice_get waves k ≡ Some w → v.orders ≡ w.orders → is_among w.orders order ≡ false
    → taker_of (slice_set waves k v) order ≡ taker_of waves order
taker-without [] k w v order there orders none = refl
taker-without (x ∷ waves) zero w v order there orders none =
    let same : x ≡ w = cc in
    let fails = λ (u : Wave) (e : is_among u.orders order ≡ false). both_fail (is_live u.state) (is_among u.orders order)
    (λ live has. let c : true ≡ false = sym has ∙ e in absurd (cc)) in
    ap (λ b. if b then Some v.name else taker_of waves order) (fails v (ap (λ (os : List (List ℕ)). is_among os order) orders ∙ none))
    ∙ sym (ap (λ b. if b then Some x.name else taker_of waves order) (fails x (ap (λ (u : Wave). is_among u.orders order) same ∙ none)))
taker-without (x ∷ waves) (suc k) w v order there orders none =
    ap (λ rest. if is_live x.state && is_among x.orders order then Some x.name else rest) (taker-without waves k w v order there orders none)

-- the orders of a wave that is given up are free
pub takers_freed : (opening : Opening) (name : List ℕ) (old : Floor) (new rest : Waves) (found : Found) (left : KeptWave)
    (takers : List (Option (List ℕ))) → IsFloor opening old → IsFound name old.waves rest found
    → IsReturned rest (record found { wave = left }) new → left.name ≡ found.wave.name → left.orders ≡ found.wave.orders
    → is_live (state_in found.wave.stage) ≡ true → is_live (state_in left.stage) ≡ false
    → HasPut opening found.wave.orders None old.takers.items takers
    → AreTakers opening (map wave_of (waves_of new)) takers
takers_freed opening name old new rest found left takers floor is back named orders live gone put =
    let at = found_at opening name old rest found floor is in
    let waves = map wave_of (waves_of old.waves) in
    let set = waves_put opening name old new rest found left floor is named back in
    record {
      count = put.count ∙ floor.takers.count;
      each = λ i order there.
          let was = floor.takers.each i order there in
          put.each i order there ∙ (by_cases (is_among found.wave.orders order.name) (slice_get old.takers.items i)
          (taker_of (map wave_of (waves_of new)) order.name)
          (λ has. ap (λ (ws : List Wave). taker_of ws order.name) set
          ∙ no_taker (slice_set waves found.number (wave_of left)) order.name (nobody order.name has))
          (λ none. was ∙ ap Some (sym (ap (λ (ws : List Wave). taker_of ws order.name) set
          ∙ taker-without waves found.number (wave_of found.wave) (wave_of left) order.name at.there orders none))));
    }
  where
    by_cases : (b : Bool) (before : Option (Option (List ℕ))) (now : Option (List ℕ)) → (b ≡ true → now ≡ None) → (b ≡ false → before ≡ Some now)
        → (if b then Some None else before) ≡ Some now
    by_cases true before now freed kept = ap Some (sym (freed refl))
    by_cases false before now freed kept = kept refl

    nobody : (order : List ℕ) → is_among found.wave.orders order ≡ true → (i k : ℕ) (v : Wave)
        → slice_get (slice_set (map wave_of (waves_of old.waves)) found.number (wave_of left)) i ≡ Some v → is_live v.state ≡ true
        → slice_get v.orders k ≡ Some order → ⊥
    nobody order has i k v there lives stands =
        let at = found_at opening name old rest found floor is in
        let mine = member found.wave.orders order has in
        elim (slice_get-set (map wave_of (waves_of old.waves)) found.number i v (wave_of left) there) [
          | inl here ↦ let dead : is_live v.state ≡ false = ap (λ (u : Wave). is_live u.state) here.1 ∙ gone in
              let c : true ≡ false = sym lives ∙ dead in absurd (cc)
          | inr other ↦ other.0 (floor.sound.once i found.number v (wave_of found.wave) k mine.0 order other.1 at.there lives live stands mine.1)
        ]

-- who has the orders once a wave was asked to be given up
pub takers_after_cancel : (opening : Opening) (name : List ℕ) (old : Floor) (new rest : Waves) (found : Found) (left : KeptWave)
    (takers : List (Option (List ℕ))) (answer : Reply) → IsFloor opening old → IsFound name old.waves rest found
    → IsReturned rest (record found { wave = left }) new → left.name ≡ found.wave.name → left.orders ≡ found.wave.orders
    → (frees answer ≡ true → (is_live (state_in found.wave.stage) ≡ true) × (state_in left.stage ≡ wave.Cancelled)) → (frees answer ≡ false → left ≡ found.wave)
    → (frees answer ≡ true → HasPut opening left.orders None old.takers.items takers) → (frees answer ≡ false → takers ≡ old.takers.items)
    → AreTakers opening (map wave_of (waves_of new)) takers
takers_after_cancel opening name old new rest found left takers answer floor is back named orders gone kept freed same = by (frees answer) refl
  where
    by : (b : Bool) → frees answer ≡ b → AreTakers opening (map wave_of (waves_of new)) takers
    by true e =
        takers_freed opening name old new rest found left takers floor is back named orders (gone e).0 (ap is_live (gone e).1)
        (subst (λ (os : List (List ℕ)). HasPut opening os None old.takers.items takers) orders (freed e))
    by false e =
        let was = kept e in
        subst (λ (ts : List (Option (List ℕ))). AreTakers opening (map wave_of (waves_of new)) ts) (sym (same e))
        (takers_same opening name old new rest found left floor is back (ap (λ (k : KeptWave). k.name) was) orders
        (ap (λ (k : KeptWave). is_live (state_in k.stage)) was))
