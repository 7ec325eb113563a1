use Rattle.wp_planner.proofs.released.is_listed.Goals as goal

pub returns-then-is_wave_size : goal.returns-then-is_wave_size
returns-then-is_wave_size c = (
  λ yes.
      let few = rw c.len-orders.ensures at (c.is_wave_size.ensures.0 c.if-is_wave_size.true) in
      let listed = rw (c.len-orders.ensures, c.as_slice.ensures) at (c.are_listed.ensures.0 yes) in
      record { some = few.0; most = few.1; within = listed.0; rise = listed.1; filled = listed.2 },
  λ listed. c.are_listed.ensures.1 (rw (c.len-orders.ensures, c.as_slice.ensures) (listed.within, listed.rise, listed.filled)),
)
