-- A machine may go to another thread: each part of it may.
use Rattle.std.proofs.Crossing.{crosses}
use denote.RattleType.{RattleType}
use denote.Ref.{NamedLft}
use denote.Struct.Declared.{shape}
use denote.Enum.Declared as enum
use Rattle.wp_model.specs.contracts.listing.Listing as list
use Rattle.wp_model.specs.contracts.name.Name as name
use denote.Param.Send.{IsSend, IsSync, sendable, view_send, recorded_send, struct_send, enum_send}
use Rattle.wp_machine.specs.contracts.machine.Machine as machine
use Rattle.wp_machine.specs.contracts.machine.Machine.TheInside as inside
use Rattle.wp_floor.specs.contracts.floor.Floor as floor
use Rattle.wp_floor.specs.contracts.opening.Opening as opening
use Rattle.wp_floor.proofs.opening.Opening.TheSendSync as opening_sends
use Rattle.wp_floor.specs.contracts.waves.Waves as waves
use Rattle.wp_book.specs.contracts.book.StockBook as book
use Rattle.wp_book.proofs.rows.CountedRows.TheSendSync as rows_send
use Rattle.wp_book.proofs.room.KeptHolds.TheSendSync as kept_send
use Rattle.wp_model.specs.contracts.chain.Chain as chain
use Rattle.wp_model.proofs.chain.Chain.TheLaws.TheKnot as knot
use Rattle.wp_model.proofs.name.Name.TheSendSync as name_sends
use Rattle.wp_model.proofs.listing.Listing.TheSendSync as list_sends
use Rattle.wp_floor.below.wp_allot.proofs.want.Want.TheSendSync as want_sends
use Rattle.wp_floor.specs.contracts.waves.Needs as needs
use Rattle.wp_floor.specs.contracts.waves.HeldOrders as sheet
use Rattle.wp_floor.specs.contracts.waves.Stage as stage
use Rattle.wp_floor.specs.contracts.waves.KeptWave as wave
use Rattle.wp_floor.specs.contracts.waves.NumberedWave as numbered
use Rattle.wp_floor.specs.contracts.waves.CalledOrders as called
use Rattle.wp_floor.specs.contracts.waves.CalledOrders.TheInside as called_inside
use Rattle.wp_book.specs.contracts.room.Room as room
use Rattle.wp_floor.specs.contracts.holding.Rooms as rooms
use Rattle.wp_model.specs.contracts.entry.Entry as entry
use Rattle.wp_model.proofs.entry.Entry.TheSendSync as entry_sends

opening_shared : IsSync opening.the_row
opening_shared = opening_sends.the_sync

chain_sent : (T : RattleType) → IsSend T → IsSend (chain.the_row T)
chain_sent T s = search (crosses, knot.crosses, sendable, s) depth 60 fits 20000

entries_sent : IsSend (chain.the_row entry.the_row)
entries_sent = chain_sent entry.the_row entry_sends.the_send

book_sent : IsSend book.the_row
book_sent = search (crosses, sendable, chain_sent, rows_send.the_send, kept_send.the_send) depth 60 fits 20000

room_sent : IsSend room.the_row
room_sent = search (crosses, sendable, chain_sent, kept_send.the_send) depth 60 fits 20000

rooms_sent : IsSend (rooms.the_field).row
rooms_sent = struct_send (shape rooms.the_type) (room_sent, (room_sent, tt))

names_sent : IsSend (list.the_row name.the_row)
names_sent = search (sendable, list_sends.the_send, name_sends.the_send) depth 60 fits 20000

needs_sent : IsSend (needs.the_field).row
needs_sent = struct_send (shape needs.the_type) (names_sent, (search (crosses, sendable, want_sends.the_send) depth 60, (rooms_sent, tt)))

sheet_sent : IsSend (sheet.the_field).row
sheet_sent = struct_send (shape sheet.the_type) (names_sent, (room_sent, tt))

stage_sent : IsSend (stage.the_field).row
stage_sent = enum_send (enum.shape stage.the_type) ((needs_sent, tt), ((sheet_sent, tt), (tt, (tt, (tt, tt)))))

called_inside_sent : IsSend called_inside.the_row
called_inside_sent = recorded_send (called_inside.the_field).row _ _ (called_inside.the_type).to_one
    (struct_send (shape called_inside.the_type) (search crosses depth 60, tt))

called_sent : IsSend called.the_row
called_sent = view_send _ _ _ _ _ called_inside_sent

wave_sent : IsSend (wave.the_field).row
wave_sent = struct_send (shape wave.the_type) (name_sends.the_send, (called_sent, (search (crosses, sendable) depth 60, (stage_sent, (search sendable, tt)))))

numbered_sent : IsSend numbered.the_row
numbered_sent = recorded_send (numbered.the_field).row _ _ (numbered.the_type).to_one (struct_send (shape numbered.the_type) (search sendable, (wave_sent, tt)))

waves_sent : IsSend (waves.the_field).row
waves_sent = struct_send (shape waves.the_type) (search (crosses, sendable, chain_sent, numbered_sent) depth 60 fits 20000, (search sendable, tt))

floor_sent : IsSend (floor.the_field).row
floor_sent = struct_send (shape floor.the_type) (book_sent, (waves_sent, (search (crosses, sendable, name_sends.the_send) depth 60, tt)))

inside_sent : (ℓ : NamedLft) → IsSend (inside.the_row ℓ)
inside_sent ℓ = recorded_send (inside.the_field ℓ).row _ _ (inside.the_type ℓ).to_one
    (struct_send (shape (inside.the_type ℓ)) (search (sendable, opening_shared) depth 60, (floor_sent, (entries_sent, (search sendable, tt)))))

-- a machine may go to another thread
pub machine_sent : (ℓ : NamedLft) → IsSend (machine.the_row ℓ)
machine_sent ℓ = view_send _ _ _ _ _ (inside_sent ℓ)
