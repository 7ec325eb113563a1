-- What the items of a list say, one after another.
use Rattle.std.proofs.Common.{◌≡◌, ℕ, zero, suc, ◌+◌, ◌<◌, List, [], ◌∷◌, ◌++◌, length, get_or, take, Option, Some, None, Ok, Err, option_map}
use Rattle.std.proofs.Common.{option_and_then, arith, refl, sym, ap, ◌∙◌}
use Rattle.std.specs.Option.{ok_or}
use Rattle.serde_json.specs.Data.{Data}
use Rattle.serde_json.specs.Find.{as_array}
use Rattle.serde_json.specs.View.{items_view, view}
use Rattle.serde_json.specs.declared.value.Value.{Value}
use Rattle.wp_cert.specs.Text.{each_of, each_said, list_said}

-- nothing stood where its want is the answer
pub ok_or-err : {A E : Type 0} (found : Option A) (e f : E) → ok_or found e ≡ Err f → found ≡ None
ok_or-err None e f h = refl
ok_or-err (Some x) e f h = absurd (cc h)

-- what stood is the answer
pub ok_or-ok : {A E : Type 0} (found : Option A) (e : E) (x : A) → ok_or found e ≡ Ok x → found ≡ Some x
ok_or-ok None e x h = absurd (cc h)
ok_or-ok (Some y) e x h = let same : y ≡ x = cc h in rw same refl

-- a first, where it is said, before a rest
abbrev before : {A : Type 0} → Option A → Option (List A) → Option (List A)
before first rest = option_and_then (λ x. option_map (λ xs. x ∷ xs) rest) first

before_none : {A : Type 0} (first : Option A) → before first None ≡ None
before_none None = refl
before_none (Some x) = refl

before_more : {A : Type 0} (first : Option A) (rest rest' : Option (List A)) (x : A) (xs : List A)
    → ((ys : List A) → rest ≡ Some ys → rest' ≡ Some (ys ++ x ∷ [])) → before first rest ≡ Some xs → before first rest' ≡ Some (xs ++ x ∷ [])
before_more None rest rest' x xs next said = absurd (cc said)
before_more (Some y) None rest' x xs next said = absurd (cc said)
before_more (Some y) (Some ys) rest' x [] next said = absurd (cc said)
before_more (Some y) (Some ys) rest' x (z ∷ zs) next said =
    let head : y ≡ z = cc said in let tail : ys ≡ zs = cc said in rw (next ys refl, head, tail) refl

-- one more is read
pub each_more : {A B : Type 0} (read : A → Option B) (xs : List A) (i : ℕ) (x : A) (y : B) (ys : List B) → i < length xs → x ≡ get_or xs i x
    → read x ≡ Some y → each_of read (take i xs) ≡ Some ys → each_of read (take (i + 1) xs) ≡ Some (ys ++ y ∷ [])
each_more read [] i x y ys within here one all = absurd (omega arith)
each_more {A} read (first ∷ xs) zero x y [] within here one all = rw (ap (λ (v : A). read v) (sym here) ∙ one) refl
each_more read (first ∷ xs) zero x y (z ∷ zs) within here one all = absurd (cc all)
each_more read (first ∷ xs) (suc i) x y ys within here one all =
    let e : suc i + 1 ≡ suc (i + 1) = omega arith in
    rw e (before_more (read first) (each_of read (take i xs)) (each_of read (take (i + 1) xs)) y ys
    (λ zs rest. each_more read xs i x y zs (omega arith) here one rest) all)

-- where one isn't read, not all are
pub each_none : {A B : Type 0} (read : A → Option B) (xs : List A) (i : ℕ) (x : A) → i < length xs → x ≡ get_or xs i x → read x ≡ None
    → each_of read xs ≡ None
each_none read [] i x within here none = absurd (omega arith)
each_none {A} read (first ∷ xs) zero x within here none = rw (ap (λ (v : A). read v) (sym here) ∙ none) refl
each_none read (first ∷ xs) (suc i) x within here none = let rest = each_none read xs i x (omega arith) here none in rw rest (before_none (read first))

-- what the items of a list say is what is read of each value
each_item : {A : Type 0} (said : Data → Option A) (values : List Value) → each_said said (items_view values) ≡ each_of (λ value. said (view value)) values
each_item said [] = refl
each_item said (value ∷ values) = ap (before (said (view value))) (each_item said values)

-- one more item says one more thing
pub said_more : {A : Type 0} (said : Data → Option A) (values : List Value) (i : ℕ) (value : Value) (x : A) (xs : List A) → i < length values
    → value ≡ get_or values i value → said (view value) ≡ Some x → each_said said (items_view (take i values)) ≡ Some xs
    → each_said said (items_view (take (i + 1) values)) ≡ Some (xs ++ x ∷ [])
said_more said values i value x xs within here one all =
    each_item said (take (i + 1) values)
    ∙ each_more (λ value. said (view value)) values i value x xs within here one (sym (each_item said (take i values)) ∙ all)

-- where an item says nothing, the list says nothing
pub said_none : {A : Type 0} (said : Data → Option A) (list : Data) (values : List Value) (i : ℕ) (value : Value) → as_array list ≡ Some (items_view values)
    → i < length values → value ≡ get_or values i value → said (view value) ≡ None → list_said said list ≡ None
said_none said list values i value is within here none =
    rw is (each_item said values ∙ each_none (λ value. said (view value)) values i value within here none)
