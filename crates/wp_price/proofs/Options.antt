-- What follows for the value of an option or a result, or for its absence.
use Rattle.std.specs.Prelude.{◌≡◌, false, Option, Some, None, Result, Ok, Err, IfSome, IfNone, IfOk, OnOk, is_some, refl}

-- what follows from a fact about the value
pub some_so : {A : Type 0} (o : Option A) (P Q : A → Type 0) → ((a : A) → P a → Q a) → IfSome o P → IfSome o Q
some_so None P Q so h = h
some_so (Some a) P Q so h = so a h

-- what follows where there is none
pub none_so : {A : Type 0} (o : Option A) (P Q : Type 0) → (P → Q) → IfNone o P → IfNone o Q
none_so None P Q so h = so h
none_so (Some a) P Q so h = h

-- what isn't some is none
pub not_some : {A : Type 0} (o : Option A) → is_some o ≡ false → o ≡ None
not_some None e = refl
not_some (Some a) e = absurd (cc e)

-- what follows from absence, where what isn't some
pub none_there : {A : Type 0} (o : Option A) (P : Type 0) → is_some o ≡ false → IfNone o P → P
none_there None P e h = h
none_there (Some a) P e h = absurd (cc e)

-- what follows from a fact about the value of a result
pub ok_so : {A E : Type 0} (r : Result A E) (P Q : A → Type 0) → ((a : A) → P a → Q a) → IfOk r P → IfOk r Q
ok_so (Ok a) P Q so h = so a h
ok_so (Err e) P Q so h = h

-- what follows where a result has a value
pub on_ok_so : {A E : Type 0} (r : Result A E) (P Q : Type 0) → (P → Q) → OnOk r P → OnOk r Q
on_ok_so (Ok a) P Q so h = so h
on_ok_so (Err e) P Q so h = h
