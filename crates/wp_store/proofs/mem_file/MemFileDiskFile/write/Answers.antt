use Rattle.std.proofs.Common.{◌≤◌, arith, length, length-take, refl, subst, sym}
use Rattle.wp_store.specs.Disk.{Torn}
use Rattle.wp_store.specs.DiskFile.{FileCall, FileInMemory, mem_file_told}
use Rattle.wp_store.specs.InMemory.{disk_bytes, mem_told}
use Rattle.wp_store.proofs.InFile.{write_file_call}
use Rattle.wp_store.proofs.mem_file.MemFileDiskFile.write.Goals as goal

pub returns-clause-calls : goal.returns-clause-calls
returns-clause-calls c =
    let n = length c.args.piece.now in
    let new = c.write_at.new.self in
    let within = subst (λ (file : FileInMemory). file.position ≤ length (disk_bytes file.disk)) (sym c.self.view_is) (c.requires _ refl) in
    subst (λ (file : FileInMemory). FileCall (Torn file.position n) (mem_file_told file) (mem_told new)) c.self.view_is
    (write_file_call c.self.inside.disk new c.self.inside.position n _
    (omega (arith, length-take c.min-count.result c.args.piece.now)) within c.write_at.ensures.after)
