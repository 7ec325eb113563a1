-- Waves that go out, one by one.
use Rattle.std.proofs.Common.{◌≡◌, ◌∙◌, sym, ap, ap₂, ℕ, ◌+◌, ◌<◌, List, [], ◌∷◌, ◌++◌, length, map, take, get_or, add-one, Vec, arith}
use Rattle.std.proofs.Math.Seq.{take-suc}
use Rattle.std.proofs.lemmas.List.{map-append}
use Rattle.std.specs.declared.alloc.Global.{Global}
use Rattle.wp_outgoing.specs.WavesOut.{AreOut, name_out, orders_out, start_out}
use Rattle.wp_outgoing.specs.declared.lines.WaveOut.{WaveOut}
use Rattle.wp_waves.specs.Filling.{waves_kept}
use Rattle.wp_waves.specs.declared.open_orders.OpenOrder.{OpenOrder}
use Rattle.wp_outgoing.proofs.NamesSoFar.{kept_more}

-- one item more
take_more : {X : Type 0} (xs : List X) (i : ℕ) (x : X) → i < length xs → x ≡ get_or xs i x → take (i + 1) xs ≡ take i xs ++ x ∷ []
take_more {X} xs i x within is = rw add-one (take-suc xs i x within ∙ ap (λ (y : X). take i xs ++ y ∷ []) (sym is))

push_map : {Y : Type 0} (f : WaveOut → Y) (out new : List WaveOut) (wave : WaveOut) (y : Y) (before after : List Y) → new ≡ out ++ wave ∷ []
    → map f out ≡ before → f wave ≡ y → after ≡ before ++ y ∷ [] → map f new ≡ after
push_map {Y} f out new wave y before after pushed was is more =
    ap (map f) pushed ∙ (map-append f out (wave ∷ []) ∙ (ap₂ (λ (l : List Y) (z : Y). l ++ z ∷ []) was is ∙ sym more))

-- a wave that goes out with the next name and the next start
pub record IsNext (names : List (List ℕ)) (waves : List (Vec OpenOrder Global)) (starts : List ℕ) (i : ℕ) (wave : WaveOut) : Type 0 where
  pub name : List ℕ
  pub orders : Vec OpenOrder Global
  pub start : ℕ
  pub name_at : name ≡ get_or names i name
  pub orders_at : orders ≡ get_or waves i orders
  pub start_at : start ≡ get_or starts i start
  pub named : wave.name ≡ name
  pub filled : wave.orders.items ≡ orders.items
  pub begun : wave.start ≡ start

-- one wave more
pub out_more : (names : List (List ℕ)) (waves : List (Vec OpenOrder Global)) (starts : List ℕ) (i : ℕ) (out new : List WaveOut) (wave : WaveOut)
    → length names ≡ length waves → length starts ≡ length waves → i < length waves → new ≡ out ++ wave ∷ []
    → IsNext names waves starts i wave → AreOut (take i names) (waves_kept (take i waves)) (take i starts) out
    → AreOut (take (i + 1) names) (waves_kept (take (i + 1) waves)) (take (i + 1) starts) new
out_more names waves starts i out new wave long_names long_starts within pushed next are =
    let in_names : i < length names = omega arith in
    let in_starts : i < length starts = omega arith in
    record {
      named = push_map name_out out new wave next.name (take i names) (take (i + 1) names) pushed are.named next.named
          (take_more names i next.name in_names next.name_at);
      filled = push_map orders_out out new wave next.orders.items (waves_kept (take i waves)) (waves_kept (take (i + 1) waves)) pushed are.filled next.filled
          (kept_more waves i next.orders within next.orders_at);
      begun = push_map start_out out new wave next.start (take i starts) (take (i + 1) starts) pushed are.begun next.begun
          (take_more starts i next.start in_starts next.start_at);
    }
