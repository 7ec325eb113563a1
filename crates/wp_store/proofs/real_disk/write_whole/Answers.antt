use Rattle.std.proofs.Common.{ap, ℕ, List, Option, ◌≡◌, ◌∙◌, ◌+◌, ◌-◌, take, drop, length, arith, length-drop, length-take}
use Rattle.std.proofs.lemmas.List.{take_all}
use Rattle.std.specs.Prelude.{option_map}
use Rattle.wp_store.specs.Disk.{written_over}
use Rattle.wp_store.proofs.Overwriting.{next_written}
use Rattle.wp_store.proofs.Pieces.{written_more}
use Rattle.wp_store.proofs.real_disk.write_whole.Goals as goal

pub returns-in_err-done-clause-calls : goal.returns-in_err-done-clause-calls
returns-in_err-done-clause-calls g c bytes told =
    let piece = c.args.piece.now in
    let done = c.loop-done.done in
    let so_far = c.loop-done.invariant in
    let here = so_far.4 bytes told in
    let rest : done + length (take (length piece - done) (drop done piece)) ≡ length piece =
    omega (arith, so_far.0, length-take (length piece - done) (drop done piece), length-drop done piece) in
    written_more _ _ done _ _ rest here.1 _ _ _ here.2 c.write.ensures.calls

pub loop-done-preserved : goal.loop-done-preserved
loop-done-preserved g c =
    let piece = c.args.piece.now in
    let done = c.loop-done.done in
    let so_far = c.loop-done.invariant in
    let went = c.in_ok-done.ensures in
    let all : take (length piece - done) (drop done piece) ≡ drop done piece
    = take_all (length piece - done) (drop done piece) (omega (arith, length-drop done piece)) in
    let size : done + length (take (length piece - done) (drop done piece)) ≡ length piece =
    omega (arith, so_far.0, length-take (length piece - done) (drop done piece), length-drop done piece) in
    let written = rw all at went.written in (
      omega (arith, went.within, size),
      next_written _ _ _ _ _ done _ piece so_far.0 so_far.1 written (λ bytes told. let here = so_far.4 bytes told in (here.0, here.1)),
      went.sound ∙ so_far.2,
      went.calls.call.told ∙ so_far.3,
      λ bytes told.
          let here = so_far.4 bytes told in
          let moved = went.moved _ (so_far.1 ∙ ap (λ (held : Option (List ℕ)). option_map
          (written_over (g.F.DiskFile.position c.args.file.now) (take done piece)) held) told) in
          (here.0, omega (arith, here.1, moved), written_more _ _ done _ _ size here.1 _ _ _ here.2 went.calls),
    )
