-- The batches of a day are listed wave by wave.
use Rattle.std.proofs.Common.{◌≡◌, ◌∙◌, ℕ, ◌+◌, ◌*◌, ◌≤◌, All, List, [], ◌∷◌, ◌++◌, Some, ap, append_assoc, arith, length, length-append, map, refl, subst, sym}
use Rattle.std.proofs.Common.{take, slice_get}
use Rattle.std.specs.List.{flat_map}
use Rattle.std.proofs.lemmas.Grind.{flat_map-append}
use Rattle.std.proofs.lemmas.List.{append-nil}
use Rattle.std.proofs.lemmas.List.Elements.{All-head, All-nil, All-push, All-tail}
use Rattle.wp_lengths.specs.Lengths.{IsLengthOf}
use Rattle.wp_lengths.specs.Waves.{WavePicks}
use Rattle.wp_model.specs.Opening.{Opening}
use Rattle.wp_model.specs.Warehouse.{Layout}
use Rattle.wp_planner.proofs.BatchLengths.{few_batches}
use Rattle.wp_planner.proofs.SheetParts.{one_more_item}
use Rattle.wp_planner.specs.Crews.{AreLengths, AreListed, DayBatch, MayBeDealt, day_batches, sent_batches, wave_batches}
use Rattle.wp_planner.specs.Sent.{ArePlanned, IsPlanned, Sent, plans_of, sent_waves}
use Rattle.wp_planner.specs.Terms.{Terms}
use Rattle.wp_planner.specs.declared.crew.DayBatches.{DayBatches}

-- no batches are listed
pub none_listed : (listed : DayBatches) → listed.waves.items ≡ [] → listed.numbers.items ≡ [] → listed.lengths.items ≡ [] → AreListed [] listed
none_listed listed waves numbers lengths = record {
  waves = waves;
  numbers = numbers;
  lengths = subst (AreLengths []) (sym lengths) tt;
  each = subst (All MayBeDealt) (sym lengths) (All-nil MayBeDealt);
}

-- the lengths of batches and of one more
lengths_more : (batches : List DayBatch) (batch : DayBatch) (lengths : List ℕ) (one : ℕ) → AreLengths batches lengths
    → IsLengthOf batch.planned batch.orders one → AreLengths (batches ++ batch ∷ []) (lengths ++ one ∷ [])
lengths_more [] batch [] one are is = (is, tt)
lengths_more [] batch (first ∷ lengths) one are is = absurd are
lengths_more (b ∷ batches) batch [] one are is = absurd are
lengths_more (b ∷ batches) batch (first ∷ lengths) one (own, others) is = (own, lengths_more batches batch lengths one others is)

map-more : {X Y : Type 0} (f : X → Y) (xs : List X) (x : X) → map f (xs ++ x ∷ []) ≡ map f xs ++ f x ∷ []
map-more f [] x = refl
map-more f (y ∷ xs) x = ap (λ ys. f y ∷ ys) (map-more f xs x)

-- batches are listed with one more
pub listed_more : (batches : List DayBatch) (batch : DayBatch) (old new : DayBatches) (one : ℕ) → AreListed batches old
    → new.waves.items ≡ old.waves.items ++ batch.wave ∷ [] → new.numbers.items ≡ old.numbers.items ++ batch.number ∷ []
    → new.lengths.items ≡ old.lengths.items ++ one ∷ [] → IsLengthOf batch.planned batch.orders one → MayBeDealt one
    → AreListed (batches ++ batch ∷ []) new
listed_more batches batch old new one are waves numbers lengths is may = record {
  waves = waves ∙ (ap (λ (names : List (List ℕ)). names ++ batch.wave ∷ []) are.waves ∙ sym (map-more (λ (b : DayBatch). b.wave) batches batch));
  numbers = numbers ∙ (ap (λ (ns : List ℕ). ns ++ batch.number ∷ []) are.numbers ∙ sym (map-more (λ (b : DayBatch). b.number) batches batch));
  lengths = subst (AreLengths (batches ++ batch ∷ [])) (sym lengths) (lengths_more batches batch old.lengths.items one are.lengths is);
  each = subst (All MayBeDealt) (sym lengths) (All-push MayBeDealt old.lengths.items one are.each may);
}

-- the batches of a wave with one more, which has the next number
wave_batches_more : (name : List ℕ) (planned : WavePicks) (number last : ℕ) (batches : List (List ℕ)) (orders : List ℕ) → last ≡ number + length batches
    → wave_batches name planned number (batches ++ orders ∷ [])
    ≡ wave_batches name planned number batches ++ record { wave = name; number = last; planned = planned; orders = orders } ∷ []
unfolding wave_batches
wave_batches_more name planned number last [] orders counted =
    let first : number ≡ last = omega (arith, counted) in
    let one : ℕ → DayBatch = λ n. record { wave = name; number = n; planned = planned; orders = orders } in
    ap (λ (n : ℕ). one n ∷ []) first
wave_batches_more name planned number last (b ∷ batches) orders counted =
    let here : DayBatch = record { wave = name; number = number; planned = planned; orders = b } in
    ap (λ (more : List DayBatch). here ∷ more)
    (wave_batches_more name planned (number + 1) last batches orders (omega (arith, counted)))

-- at first a wave has no batches
pub no_wave_batches : (before : List DayBatch) (name : List ℕ) (planned : WavePicks) (listed : DayBatches) → AreListed before listed
    → AreListed (before ++ wave_batches name planned 1 []) listed
unfolding wave_batches
no_wave_batches before name planned listed are = subst (λ (batches : List DayBatch). AreListed batches listed) (sym (append-nil before)) are

-- the batches of a wave up to a place are listed with the one that stands there
pub wave_listed_more : (before : List DayBatch) (name : List ℕ) (planned : WavePicks) (list : List (List ℕ)) (place : ℕ) (orders : List ℕ)
    (old new : DayBatches) (one : ℕ) → slice_get list place ≡ Some orders
    → AreListed (before ++ wave_batches name planned 1 (take place list)) old
    → new.waves.items ≡ old.waves.items ++ name ∷ [] → new.numbers.items ≡ old.numbers.items ++ (place + 1) ∷ []
    → new.lengths.items ≡ old.lengths.items ++ one ∷ [] → IsLengthOf planned orders one → MayBeDealt one
    → AreListed (before ++ wave_batches name planned 1 (take (place + 1) list)) new
wave_listed_more before name planned list place orders old new one there are waves numbers lengths is may =
    let more = one_more_item list place orders there in
    let batch : DayBatch = record { wave = name; number = place + 1; planned = planned; orders = orders } in
    let so_far = wave_batches name planned 1 (take place list) in
    let grown : before ++ wave_batches name planned 1 (take (place + 1) list) ≡ (before ++ so_far) ++ batch ∷ [] =
    ap (λ (batches : List DayBatch). before ++ batches)
    (ap (wave_batches name planned 1) more.0 ∙ wave_batches_more name planned 1 (place + 1) (take place list) orders more.1)
    ∙ sym (append_assoc before so_far (batch ∷ [])) in
    subst (λ (batches : List DayBatch). AreListed batches new) (sym grown)
    (listed_more (before ++ so_far) batch old new one are waves numbers lengths is may)

-- the batches of one more wave that went out
pub sent_more : (sent : List Sent) (i : ℕ) (one : Sent) → slice_get sent i ≡ Some one
    → flat_map sent_batches (take (i + 1) sent) ≡ flat_map sent_batches (take i sent) ++ sent_batches one
sent_more sent i one there =
    ap (flat_map sent_batches) (one_more_item sent i one there).0
    ∙ (flat_map-append sent_batches (take i sent) (one ∷ [])
    ∙ ap (λ (more : List DayBatch). flat_map sent_batches (take i sent) ++ more) (append-nil (sent_batches one)))

-- the batches of waves that have plans, wave by wave
pub day_batches_are : (layout : Layout) (opening : Opening) (terms : Terms) (sent : List Sent) → ArePlanned layout opening terms sent
    → flat_map sent_batches sent ≡ day_batches (sent_waves sent) (plans_of sent)
unfolding day_batches
day_batches_are layout opening terms [] planned = refl
day_batches_are layout opening terms (one ∷ sent) planned =
    let P : Sent → Type 0 = IsPlanned layout opening terms in
    let is = All-head P one sent planned in
    let others = day_batches_are layout opening terms sent (All-tail P one sent planned) in
    rw is.there (ap (λ (more : List DayBatch). wave_batches one.wave.wave is.plan.wave 1 is.plan.planned.batching ++ more) others)

-- there are as many batches of a wave as it has
count_wave_batches : (name : List ℕ) (planned : WavePicks) (number : ℕ) (batches : List (List ℕ))
    → length (wave_batches name planned number batches) ≡ length batches
unfolding wave_batches
count_wave_batches name planned number [] = refl
count_wave_batches name planned number (orders ∷ batches) = omega (arith, count_wave_batches name planned (number + 1) batches)

-- a wave that went out has 64 batches at most
few_sent : (layout : Layout) (opening : Opening) (terms : Terms) (one : Sent) → IsPlanned layout opening terms one → length (sent_batches one) ≤ 64
few_sent layout opening terms one is =
    let plan = is.plan in
    let sound = is.good.good.sound in
    let count : length (sent_batches one) ≡ length plan.planned.batching =
    rw is.there (count_wave_batches one.wave.wave plan.wave 1 plan.planned.batching) in
    omega (
      arith,
      count,
      few_batches plan.wave terms.capacity plan.planned.batching sound.batching sound.listed,
      is.good.wave.orders,
      is.released.listed.most,
    )

-- so all of them together have 64 times as many at most
few_day : (layout : Layout) (opening : Opening) (terms : Terms) (sent : List Sent) → ArePlanned layout opening terms sent
    → length (flat_map sent_batches sent) ≤ 64 * length sent
few_day layout opening terms [] planned = omega arith
few_day layout opening terms (one ∷ sent) planned =
    let P : Sent → Type 0 = IsPlanned layout opening terms in
    omega (
      arith,
      length-append (sent_batches one) (flat_map sent_batches sent),
      few_sent layout opening terms one (All-head P one sent planned),
      few_day layout opening terms sent (All-tail P one sent planned),
    )

-- there are as many lengths as batches
pub count_lengths : (batches : List DayBatch) (lengths : List ℕ) → AreLengths batches lengths → length lengths ≡ length batches
count_lengths [] [] are = refl
count_lengths [] (one ∷ lengths) are = absurd are
count_lengths (batch ∷ batches) [] are = absurd are
count_lengths (batch ∷ batches) (one ∷ lengths) are = omega (arith, count_lengths batches lengths are.1)

-- so up to 10,000 waves have few enough to be dealt
pub few_lengths : (layout : Layout) (opening : Opening) (terms : Terms) (sent : List Sent) (listed : DayBatches) → ArePlanned layout opening terms sent
    → length sent ≤ 10000 → AreListed (flat_map sent_batches sent) listed → length listed.lengths.items ≤ 1000000
few_lengths layout opening terms sent listed planned few are =
    omega (
      arith,
      few,
      few_day layout opening terms sent planned,
      count_lengths (flat_map sent_batches sent) listed.lengths.items are.lengths,
    )
