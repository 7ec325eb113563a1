use Rattle.std.proofs.Common.{◌≡◌, ◌∙◌, refl, sym, ap, subst, ℕ, List, Option, length, map, None, Some, [], ◌∷◌, ◌++◌, arith}
use Rattle.std.proofs.lemmas.List.{with_items_is}
use Rattle.wp_model.specs.Step.{first_order_fault}
use Rattle.wp_floor.specs.Floor.{AreTakers, order_number, wave_of}
use Rattle.std.specs.Vec.{with_items}
use Rattle.wp_floor.specs.NewWaves.{wave_of_new}
use Rattle.wp_floor.specs.Takers.{HasPut, HaveTakers}
use Rattle.wp_floor.specs.Waves.{waves_of}
use Rattle.wp_floor.specs.declared.waves.KeptWave.{KeptWave}
use Rattle.wp_floor.proofs.SubmittedWaves.{faulted, known, submitted}
use Rattle.wp_floor.proofs.floor.Floor.submit.Goals as goal

pub returns-then-has : goal.returns-then-has
returns-then-has c =
    known c.args.opening.now c.args.self.now (wave_of_new c.args.new) c.requires.floor c.requires.new (sym c.has.ensures ∙ c.if-has.true)

pub returns-in-Some : goal.returns-in-Some
returns-in-Some c =
    let opening = c.args.opening.now in
    let old = c.args.self.now in
    let first : first_order_fault opening (map wave_of (waves_of old.waves)) [] c.args.new.needs.orders ≡ Some c.in-Some.fault =
    ap (λ (names : List (List ℕ)). first_order_fault opening (map wave_of (waves_of old.waves)) [] names) (sym c.as_slice-orders.ensures)
    ∙ (sym (c.first_order_fault.ensures (map wave_of (waves_of old.waves))
    (subst (AreTakers opening (map wave_of (waves_of old.waves))) (sym c.as_slice.ensures.value) c.requires.floor.takers)) ∙ c.in-Some.is) in
    faulted opening old (wave_of_new c.args.new) c.in-Some.fault c.requires.floor c.requires.new (sym c.has.ensures ∙ c.if-has.false) first

-- the orders of the new wave may have takers
pub put_takers-requires : goal.put_takers-requires
put_takers-requires c =
    let opening = c.args.opening.now in (
      opening,
      subst (λ (kept : KeptWave). HaveTakers opening kept c.deref_mut.result.now) (sym c.into_wave-wave.ensures)
          (subst (HaveTakers opening (wave_of_new c.args.new)) (sym c.deref_mut.ensures.value)
          (record { read = c.requires.floor.read.orders; count = c.requires.floor.takers.count; numbered = c.requires.new.numbered })),
    )

pub returns : goal.returns
returns c =
    let opening = c.args.opening.now in
    let old = c.args.self.now in
    let new = wave_of_new c.args.new in
    let kept = c.into_wave-wave.result.0 in
    let is : kept ≡ new = c.into_wave-wave.ensures in
    let first : first_order_fault opening (map wave_of (waves_of old.waves)) [] new.orders ≡ None =
    ap (λ (names : List (List ℕ)). first_order_fault opening (map wave_of (waves_of old.waves)) [] names) (sym c.as_slice-orders.ensures)
    ∙ sym (c.in_default.ensures (map wave_of (waves_of old.waves)) (subst (AreTakers opening (map wave_of (waves_of old.waves)))
    (sym c.as_slice.ensures.value) c.requires.floor.takers)) in
    let takers = c.put_takers.new.takers in
    let long : length takers ≡ old.takers.len = omega (arith, c.put_takers.auto.takers, c.deref_mut.ensures.len) in
    let have : HaveTakers opening kept c.deref_mut.result.now = subst (λ (k : KeptWave). HaveTakers opening k c.deref_mut.result.now) (sym is)
    (subst (HaveTakers opening new) (sym c.deref_mut.ensures.value)
    (record { read = c.requires.floor.read.orders; count = c.requires.floor.takers.count; numbered = c.requires.new.numbered })) in
    let put = subst (λ (ts : List (Option (List ℕ))). HasPut opening new.orders (Some new.name) old.takers.items ts)
    (sym (with_items_is old.takers takers long))
    (subst (λ (ts : List (Option (List ℕ))). HasPut opening new.orders (Some new.name) ts takers) c.deref_mut.ensures.value
    (subst (λ (k : KeptWave). HasPut opening k.orders (Some k.name) c.deref_mut.result.now takers) is (c.put_takers.ensures opening have))) in
    submitted opening old (record { book = old.book; waves = c.push.new.self; takers = with_items old.takers takers }) new c.requires.floor
    c.requires.new (sym c.has.ensures ∙ c.if-has.false) first refl c.push.ensures.waves
    (c.push.ensures.pushed ∙ ap (λ (k : KeptWave). waves_of old.waves ++ k ∷ []) is) put

pub first_order_fault-requires-clause-numbered : goal.first_order_fault-requires-clause-numbered
first_order_fault-requires-clause-numbered c =
    c.as_slice-numbers.ensures.value
    ∙ (c.requires.new.numbered ∙ ap (map (order_number c.args.opening.now)) (sym c.as_slice-orders.ensures))
