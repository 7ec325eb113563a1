-- What desks share and hand back may go to other threads.
use Rattle.std.proofs.Crossing.{Vec-send, crosses}
use Rattle.std.below.core.proofs.marker.ClosureMark.TheSendSync as mark_sends
use Rattle.std.below.core.specs.contracts.marker.ClosureMark as mark
use Rattle.std.proofs.Common.{List, [], ◌∷◌}
use Rattle.std.proofs.alloc.Global.TheSendSync as global_sends
use Rattle.std.specs.Prelude.{codes}
use Rattle.std.specs.contracts.alloc.Global as global
use Rattle.wp_tables.proofs.scripts.Scripts.TheSendSync as scripts_send
use Rattle.wp_tables.specs.contracts.scripts.Scripts as scripts
use denote.Param.{param}
use denote.Struct.Field.{shr_ref_field}
use denote.Struct.Tuple.{TupleAt, field_at, type_at}
use denote.RattleType.{RattleType}
use denote.Ref.{NamedLft}
use denote.Struct.Declared.{shape}
use denote.Param.Send.{IsSend, IsSync, sendable, recorded_send, recorded_sync, struct_send, struct_sync, shr_send, shr_sync}
use Rattle.wp_desk.specs.contracts.shared.Shared as shared
use Rattle.wp_desk.specs.contracts.desk.Desk as desk
use Rattle.wp_desk.specs.contracts.desk.Day as day
use Rattle.wp_desk.specs.contracts.desk.DeskWork as work
use Rattle.wp_desk.specs.contracts.told.Told as told
use Rattle.wp_desk.specs.contracts.day_run.Planned as planned
use Rattle.wp_floor.proofs.opening.Opening.TheSendSync as opening_sends
use Rattle.wp_machine.proofs.Sent.{machine_sent}
use Rattle.wp_machine.specs.contracts.outcome.WaveHolds as wave
use Rattle.wp_machine.specs.contracts.outcome.Refill as refill
use Rattle.wp_model.proofs.name.Name.TheSendSync as name_sends
use Rattle.wp_model.proofs.listing.Listing.TheSendSync as list_sends
use Rattle.wp_model.proofs.row.Hold.TheSendSync as hold_sends
use Rattle.wp_model.proofs.memory.Memory.TheSendSync as memory_sends
use Rattle.wp_turn.proofs.pass.Pass.TheSendSync as pass_sends
use Rattle.wp_turn.proofs.turn.Turn.TheSendSync as turn_sends

shared_sent : (ℓ : NamedLft) → IsSend (shared.the_row ℓ)
shared_sent ℓ = recorded_send (shared.the_field ℓ).row _ _ (shared.the_type ℓ).to_one (struct_send (shape (shared.the_type ℓ)) (machine_sent ℓ, tt))

pub desk_sent : (ℓ : NamedLft) → IsSend (desk.the_field ℓ).row
desk_sent ℓ = struct_send (shape (desk.the_type ℓ)) (search (crosses, sendable, pass_sends.the_send, shared_sent) depth 60 fits 20000, tt)

pub day_shared : (ℓ : NamedLft) → IsSync (day.the_row ℓ)
day_shared ℓ = recorded_sync (day.the_field ℓ).row _ _ (day.the_type ℓ).to_one
    (struct_sync (shape (day.the_type ℓ)) (
      shr_sync _ _ _ opening_sends.the_sync,
      (search (crosses, sendable, turn_sends.the_sync, shared_sent) depth 60 fits 20000, tt),
    ))

wave_sent : IsSend (wave.the_field).row
wave_sent = search (crosses, sendable, name_sends.the_send, list_sends.the_send, hold_sends.the_send) depth 60 fits 20000

refill_sent : IsSend refill.the_row
refill_sent = search (crosses, sendable, name_sends.the_send, list_sends.the_send, hold_sends.the_send) depth 60 fits 20000

planned_sent : (T : RattleType) → IsSend T → IsSend (planned.the_row T)
planned_sent T s = recorded_send (planned.the_field T).row _ _ (planned.the_type T).to_one
    (struct_send (shape (planned.the_type T)) (wave_sent, (search (sendable, s), tt)))

pub told_sent : (T : RattleType) → IsSend T → IsSend (told.the_row T)
told_sent T s = recorded_send (told.the_field T).row _ _ (told.the_type T).to_one
    (struct_send (shape (told.the_type T)) (Vec-send (planned.the_row T) (planned_sent T s), (search (crosses, sendable, refill_sent) depth 60 fits 20000, tt)))

pub work_sent : (ℓ : NamedLft) (T : RattleType) → IsSend T → IsSend (work.the_row ℓ T)
work_sent ℓ T s = recorded_send (work.the_field ℓ T).row _ _ (work.the_type ℓ T).to_one
    (struct_send (shape (work.the_type ℓ T)) (desk_sent ℓ, (search (sendable, told_sent, memory_sends.the_send, s) depth 60 fits 20000, tt)))

-- what runs a desk may go to its thread
abbrev carried : NamedLft → NamedLft → NamedLft → NamedLft → NamedLft → NamedLft → RattleType → RattleType → RattleType → RattleType → List RattleType
carried a ℓ b c d e R P G T =
    (shr_ref_field b (param 0 R) tt).row ∷ global.the_row ∷ (shr_ref_field c scripts.the_row tt).row
    ∷ (shr_ref_field d (param 1 P) tt).row ∷ (shr_ref_field e (param 2 G) tt).row
    ∷ (shr_ref_field a (day.the_row ℓ) tt).row ∷ desk.the_row ℓ ∷ mark.the_row (TupleAt (codes "(_,)") (param 3 T ∷ [])) ∷ []

pub run_sent : (a ℓ b c d e : NamedLft) (R P G T : RattleType) → IsSync (param 0 R) → IsSync (param 1 P) → IsSync (param 2 G)
    → IsSend (TupleAt (codes "wp_desk::desks::fn::run_all::join+arg2+Self") (carried a ℓ b c d e R P G T))
run_sent a ℓ b c d e R P G T r p g =
    let name = codes "wp_desk::desks::fn::run_all::join+arg2+Self" in
    let rows = carried a ℓ b c d e R P G T in
    recorded_send (field_at name rows).row _ _ (type_at name rows).to_one (struct_send (shape (type_at name rows)) (
      shr_send _ _ (param 0 R) r,
      (
        global_sends.the_send,
        (
          shr_send _ _ scripts.the_row scripts_send.the_sync,
          (
            shr_send _ _ (param 1 P) p,
            (
              shr_send _ _ (param 2 G) g,
              (
                shr_send _ _ (day.the_row ℓ) (day_shared ℓ),
                (
                  recorded_send (desk.the_field ℓ).row _ _ (desk.the_type ℓ).to_one (desk_sent ℓ),
                  (mark_sends.the_send (TupleAt (codes "(_,)") (param 3 T ∷ [])), tt),
                ),
              ),
            ),
          ),
        ),
      ),
    ))
