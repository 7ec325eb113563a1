-- What a writer holds that tells it always, or never.
use Rattle.std.proofs.Common.{◌≡◌, List, ℕ, Option, Some, None, is_some, Result, Ok, Err, ap, refl}
use Rattle.std.specs.Io.KnownBytes.{Appends, Keeps, WriteAppends}
use Rattle.std.specs.Prelude.{IfOk, OnErr, take}
use Rattle.wp_outside.specs.Outside.{Grows}

-- what is kept where it is told is the same
pub kept_is_same : (old new : Option (List ℕ)) → is_some old ≡ is_some new → Keeps old new → new ≡ old
kept_is_same None None alike keeps = refl
kept_is_same None (Some ys) alike keeps = absurd (cc)
kept_is_same (Some xs) None alike keeps = absurd keeps
kept_is_same (Some xs) (Some ys) alike keeps = ap Some keeps

-- what grows where it is told grows
pub appended_grows : (old new : Option (List ℕ)) (more : List ℕ) → is_some old ≡ is_some new → Appends old new more → Grows old new more
appended_grows None None more alike appends = refl
appended_grows None (Some ys) more alike appends = absurd (cc)
appended_grows (Some xs) None more alike appends = absurd appends
appended_grows (Some xs) (Some ys) more alike appends = ap Some appends

-- after a write that took some of a piece, what is told has grown by it
pub taken_grows : {E : Type 0} (old new : Option (List ℕ)) (piece : List ℕ) (r : Result ℕ E) → is_some old ≡ is_some new → WriteAppends old new r piece
    → IfOk r (λ n. Grows old new (take n piece))
taken_grows old new piece (Ok n) alike appends = appended_grows old new (take n piece) alike appends
taken_grows old new piece (Err e) alike appends = tt

-- after one that took nothing, it is the same
pub untaken_is_same : {E : Type 0} (old new : Option (List ℕ)) (piece : List ℕ) (r : Result ℕ E) → is_some old ≡ is_some new → WriteAppends old new r piece
    → OnErr r (new ≡ old)
untaken_is_same old new piece (Ok n) alike appends = tt
untaken_is_same old new piece (Err e) alike appends = kept_is_same old new alike appends
