use Rattle.std.proofs.Common.{rules, arith, sym, subst, length}
use Rattle.std.proofs.lemmas.Grind.{common_steps}
use Rattle.wp_store.specs.Disk.{OneCall, Torn}
use Rattle.wp_store.specs.InMemory.{DiskInMemory, mem_told}
use Rattle.wp_store.proofs.Tearing.{write_call}
use Rattle.wp_store.proofs.mem_disk.MemDiskDisk.write_at.Goals as goal

pub returns-clause-after : goal.returns-clause-after
returns-clause-after c = first_of (search rules, grind (arith, common_steps))

pub returns-clause-calls : goal.returns-clause-calls
returns-clause-calls c =
    let old = c.args.self.now in
    subst (λ (d : DiskInMemory). OneCall (Torn c.args.place (length c.args.piece.now)) (mem_told old) (mem_told d)) (sym (returns-clause-after c))
    (write_call old c.args.place c.args.piece.now c.requires)
