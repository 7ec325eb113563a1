use Rattle.std.proofs.Common.{◌≡◌, ◌++◌, length, drop}
use Rattle.wp_waves.specs.Turns.{turns_of, units_free}
use Rattle.wp_waves.proofs.turns.take_turns.Given as goal

-- the turns so far, and those that are left where so much is free now, are all turns
abbrev pub invariant-loop-one : goal.invariant-loop-one
invariant-loop-one l = record {
  count : length l.free.units.items ≡ length l.day.stock.articles;
  turns : turns_of l.day (units_free l.fn.free) l.listed ≡ l.turns.items ++ turns_of l.day (units_free l.free) (drop l.one-index l.listed);
}
