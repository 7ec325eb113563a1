use Rattle.std.proofs.Common.{◌∙◌, ap, refl, List, ℕ, Option}
use Rattle.std.specs.Prelude.{is_some}
use Rattle.wp_store.proofs.Pieces.{none_fell_in_read, one_on_disk, told_call}
use Rattle.wp_store.specs.Disk.{Stays}
use Rattle.wp_store.proofs.real_disk.RealDiskDisk.read.Goals as goal

pub returns-clause-calls : goal.returns-clause-calls
returns-clause-calls g c =
    let file = c.self.inside.file in
    let new = c.read_whole.new.file in
    let went = c.read_whole.ensures in
    told_call g.F.DiskFile.told Stays c.args.self.now file new c.self.inside.calls (c.self.view_is ∙ c.count.ensures)
    (one_on_disk Stays (λ image. refl) _ _ _ (g.met.F.DiskFile.counts_alone file) (g.met.F.DiskFile.counts_alone new)
    (ap (λ (held : Option (List ℕ)). is_some held) went.same) (none_fell_in_read c.read_whole.result _ _ went.failed went.sound) went.calls)
