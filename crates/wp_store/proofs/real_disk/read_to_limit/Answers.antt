use Rattle.std.proofs.Common.{rules, ◌≡◌, ◌∙◌, ◌+◌, ◌≤◌, vec_len, ◌-◌, arith}
use Rattle.std.proofs.lemmas.Grind.{common_steps}
use Rattle.wp_store.specs.Records.{most_store_bytes}
use Rattle.wp_store.proofs.Overwriting.{front_read, front_is_whole}
use Rattle.wp_store.proofs.Pieces.{read_more}
use Rattle.wp_store.proofs.real_disk.read_to_limit.Goals as goal

pub returns-in_err-count-clause-most : goal.returns-in_err-count-clause-most
returns-in_err-count-clause-most g c bytes told =
    let so_far = c.loop-bytes.invariant in
    let here = so_far.4 bytes told in
    let there = c.in_err-count.ensures.unmoved bytes (so_far.2 ∙ told) in
    omega (arith, so_far.1, here.2, there)

pub returns-in_err-count-clause-calls : goal.returns-in_err-count-clause-calls
returns-in_err-count-clause-calls g c bytes told = read_more _ _ _ (c.loop-bytes.invariant.4 bytes told).3 c.read.ensures.calls

pub returns-then-count-eq0-clause-bytes : goal.returns-then-count-eq0-clause-bytes
returns-then-count-eq0-clause-bytes g c bytes told =
    let so_far = c.loop-bytes.invariant in
    let here = so_far.4 bytes told in
    let end = c.in_ok-count.ensures.end c.if-count-eq0.true (first_of (search rules, omega arith, grind (arith, common_steps))) bytes (so_far.2 ∙ told) in
    front_is_whole bytes c.loop-bytes.bytes.items (vec_len c.loop-bytes.bytes) here.0 (omega (arith, end, here.2))

pub returns-then-count-eq0-clause-most : goal.returns-then-count-eq0-clause-most
returns-then-count-eq0-clause-most g c bytes told =
    let so_far = c.loop-bytes.invariant in
    let here = so_far.4 bytes told in
    let there = c.in_ok-count.ensures.moved bytes (so_far.2 ∙ told) in
    omega (arith, so_far.1, here.2, there, c.if-count-eq0.true)

pub returns-then-count-eq0-clause-calls : goal.returns-then-count-eq0-clause-calls
returns-then-count-eq0-clause-calls g c bytes told = read_more _ _ _ (c.loop-bytes.invariant.4 bytes told).3 c.read.ensures.calls

pub loop-bytes-preserved : goal.loop-bytes-preserved
loop-bytes-preserved g c =
    let so_far = c.loop-bytes.invariant in
    let went = c.in_ok-count.ensures in
    let most : vec_len c.extend_from_slice.new.self ≤ most_store_bytes + 1 = first_of (search rules, grind (arith, common_steps)) in (
      so_far.0,
      most,
      went.same ∙ so_far.2,
      went.sound (λ fails. absurd (cc (fails))) ∙ so_far.3,
      λ bytes told.
          let here = so_far.4 bytes told in
          let held = so_far.2 ∙ told in
          let read = rw here.2 at (went.bytes bytes held) in
          let took = c.in_ok-extend_from_slice.ensures in
          let more = front_read bytes c.loop-bytes.bytes.items c.read.new.piece
          (vec_len c.loop-bytes.bytes) c.in_ok-count.count here.0 here.1 went.bound.0 read in
          let size : vec_len c.extend_from_slice.new.self ≡ vec_len c.loop-bytes.bytes + c.in_ok-count.count = omega (arith, took.len, went.bound.1) in (
            took.items ∙ rw size more.0,
            omega (arith, size, more.1),
            omega (arith, size, here.2, went.moved bytes held),
            read_more _ _ _ here.3 went.calls,
          ),
    )

pub returns-in_err-extend_from_slice-clause-most :
    goal.returns-in_err-extend_from_slice-clause-most
returns-in_err-extend_from_slice-clause-most g c bytes told =
    let so_far = c.loop-bytes.invariant in
    let here = so_far.4 bytes told in
    let there = c.in_ok-count.ensures.moved bytes (so_far.2 ∙ told) in
    let few : c.in_ok-count.count ≤ most_store_bytes + 1 - vec_len c.loop-bytes.bytes = first_of (search rules, grind (arith, common_steps)) in
    omega (arith, so_far.1, here.2, there, few)

pub returns-in_err-extend_from_slice-clause-calls :
    goal.returns-in_err-extend_from_slice-clause-calls
returns-in_err-extend_from_slice-clause-calls g c bytes told = read_more _ _ _ (c.loop-bytes.invariant.4 bytes told).3 c.read.ensures.calls

pub returns-clause-most : goal.returns-clause-most
returns-clause-most g c bytes told =
    let so_far = c.loop-bytes.invariant in
    let here = so_far.4 bytes told in
    omega (arith, so_far.1, here.2)

pub returns-clause-calls : goal.returns-clause-calls
returns-clause-calls g c bytes told = (c.loop-bytes.invariant.4 bytes told).3
