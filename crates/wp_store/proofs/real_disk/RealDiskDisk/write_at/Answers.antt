use Rattle.std.proofs.Common.{◌∙◌, length}
use Rattle.wp_store.proofs.Pieces.{none_fell, one_on_disk, told_call}
use Rattle.wp_store.proofs.Tearing.{torn_not}
use Rattle.wp_store.specs.Disk.{Torn}
use Rattle.wp_store.proofs.real_disk.RealDiskDisk.write_at.Goals as goal

pub returns-clause-calls : goal.returns-clause-calls
returns-clause-calls g c =
    let place = c.args.place in
    let n = length c.args.piece.now in
    let file = c.self.inside.file in
    let new = c.write_there.new.file in
    let went = c.write_there.ensures in
    told_call g.F.DiskFile.told (Torn place n) c.args.self.now file new c.self.inside.calls (c.self.view_is ∙ c.count.ensures)
    (one_on_disk (Torn place n) (torn_not place n) _ _ _ (g.met.F.DiskFile.counts_alone file) (g.met.F.DiskFile.counts_alone new) went.told
    (none_fell c.write_there.result _ _ went.failed went.sound) went.calls)
