use Rattle.std.proofs.Common.{◌≡◌, ◌-◌, ◌*◌, ◌≤◌, ◌++◌, length, drop, map, vec_len}
use Rattle.wp_store.specs.Records.{records_of, records_up_to, stored_bytes, most_records, room_bytes}
use Rattle.wp_store.specs.Spans.{body_at, LieWithin}
use Rattle.wp_store.proofs.bodies.read_spans.Given as goal

-- the records so far and those of what is left are those of the file
abbrev pub invariant-spans : goal.invariant-spans
invariant-spans l = record {
  read : map (body_at l.bytes) l.spans.items ++ records_up_to (most_records - vec_len l.spans) (drop l.end l.bytes) ≡ records_of l.bytes;
  stored : l.end ≡ stored_bytes (map (body_at l.bytes) l.spans.items);
  inside : LieWithin l.bytes l.spans.items;
  within : l.end ≤ length l.bytes;
  bound : l.end ≤ room_bytes * vec_len l.spans;
  most : vec_len l.spans ≤ most_records;
}

abbrev pub decreases-spans : goal.decreases-spans
decreases-spans l = most_records - vec_len l.spans
