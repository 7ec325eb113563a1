-- Loads: what a length adds, over the first lengths, and with other numbers for the pickers.
use Rattle.std.proofs.Common.{◌≡◌, ◌≢◌, ℕ, zero, suc, ◌+◌, ◌<◌, ◌≤◌, ◌==◌, if◌then◌else◌, List, [], ◌∷◌, length, get_or, set, take, map, All, arith, ap, refl}
use Rattle.std.proofs.Common.{sum}
use Rattle.std.proofs.lemmas.Bool.Decides.{nat_tests}
use Rattle.std.proofs.lemmas.List.Elements.{All-head, All-tail}
use Rattle.std.proofs.lemmas.List.Sums.{sum_by-cons, sum_by-take-le}
use Rattle.wp_crew.specs.Crews.{load}

pub load-cons : (one : ℕ) (lengths : List ℕ) (owner : ℕ) (owners : List ℕ) (picker : ℕ)
    → load (one ∷ lengths) (owner ∷ owners) picker ≡ (if owner == picker then one else 0) + load lengths owners picker
unfolding load
load-cons one lengths owner owners picker = refl

pub load-nil : (owners : List ℕ) (picker : ℕ) → load [] owners picker ≡ 0
unfolding load
load-nil owners picker = refl

pub own : (owner picker one : ℕ) → owner ≡ picker → (if owner == picker then one else 0) ≡ one
own owner picker one e = grind (arith, nat_tests)

pub others : (owner picker one : ℕ) → owner ≢ picker → (if owner == picker then one else 0) ≡ 0
others owner picker one ne = grind (arith, nat_tests)

at_most : (owner picker one : ℕ) → (if owner == picker then one else 0) ≤ one
at_most owner picker one = grind (arith, nat_tests)

same_test : (a b c d one : ℕ) → (a ≡ b → c ≡ d) → (c ≡ d → a ≡ b) → (if a == b then one else 0) ≡ (if c == d then one else 0)
same_test a b c d one there back = grind (arith, nat_tests)

-- nobody has a load where no length is given
pub load_nobody : (lengths owners : List ℕ) (picker : ℕ) → All (λ owner. owner ≢ picker) owners → load lengths owners picker ≡ 0
unfolding load
load_nobody [] owners picker none = refl
load_nobody (one ∷ lengths) [] picker none = refl
load_nobody (one ∷ lengths) (owner ∷ owners) picker none =
    omega (
      arith,
      others owner picker one (All-head (λ other. other ≢ picker) owner owners none),
      load_nobody lengths owners picker (All-tail (λ other. other ≢ picker) owner owners none),
    )

-- what a picker has more after a length was given that was another's
pub load-set_same : (lengths owners : List ℕ) (i picker : ℕ) → length owners ≡ length lengths → i < length lengths → get_or owners i 0 ≢ picker
    → load lengths (set owners i picker) picker ≡ load lengths owners picker + get_or lengths i 0
load-set_same [] owners i picker e within away = absurd (omega arith)
load-set_same (one ∷ lengths) [] i picker e within away = absurd (omega arith)
load-set_same (one ∷ lengths) (owner ∷ owners) zero picker e within away =
    omega (
      arith,
      load-cons one lengths picker owners picker,
      load-cons one lengths owner owners picker,
      own picker picker one refl,
      others owner picker one away,
    )
load-set_same (one ∷ lengths) (owner ∷ owners) (suc i) picker e within away =
    omega (
      arith,
      load-cons one lengths owner (set owners i picker) picker,
      load-cons one lengths owner owners picker,
      load-set_same lengths owners i picker (omega arith) (omega arith) away,
    )

-- what another picker has then, whose length it wasn't either
pub load-set_other : (lengths owners : List ℕ) (i picker other : ℕ) → length owners ≡ length lengths → i < length lengths
    → get_or owners i 0 ≢ other → picker ≢ other → load lengths (set owners i picker) other ≡ load lengths owners other
load-set_other [] owners i picker other e within away apart = absurd (omega arith)
load-set_other (one ∷ lengths) [] i picker other e within away apart = absurd (omega arith)
load-set_other (one ∷ lengths) (owner ∷ owners) zero picker other e within away apart =
    omega (
      arith,
      load-cons one lengths picker owners other,
      load-cons one lengths owner owners other,
      others picker other one apart,
      others owner other one away,
    )
load-set_other (one ∷ lengths) (owner ∷ owners) (suc i) picker other e within away apart =
    omega (
      arith,
      load-cons one lengths owner (set owners i picker) other,
      load-cons one lengths owner owners other,
      load-set_other lengths owners i picker other (omega arith) (omega arith) away apart,
    )

-- a load is at most the sum of all lengths
pub load-le-sum : (lengths owners : List ℕ) (picker : ℕ) → load lengths owners picker ≤ sum lengths
unfolding load
load-le-sum [] owners picker = omega arith
load-le-sum (one ∷ lengths) [] picker = omega arith
load-le-sum (one ∷ lengths) (owner ∷ owners) picker =
    omega (arith, at_most owner picker one, sum_by-cons (λ x. x) one lengths, load-le-sum lengths owners picker)

-- a picker's load is at least each length of that picker
pub length-le-load : (lengths owners : List ℕ) (i : ℕ) → length owners ≡ length lengths → i < length lengths
    → get_or lengths i 0 ≤ load lengths owners (get_or owners i 0)
length-le-load [] owners i e within = absurd (omega arith)
length-le-load (one ∷ lengths) [] i e within = absurd (omega arith)
length-le-load (one ∷ lengths) (owner ∷ owners) zero e within =
    omega (arith, load-cons one lengths owner owners owner, own owner owner one refl)
length-le-load (one ∷ lengths) (owner ∷ owners) (suc i) e within =
    omega (
      arith,
      load-cons one lengths owner owners (get_or owners i 0),
      length-le-load lengths owners i (omega arith) (omega arith),
    )

-- the loads over one length more
pub load_more_same : (lengths owners : List ℕ) (i picker : ℕ) → length owners ≡ length lengths → i < length lengths → get_or owners i 0 ≡ picker
    → load (take (suc i) lengths) (take (suc i) owners) picker ≡ load (take i lengths) (take i owners) picker + get_or lengths i 0
load_more_same [] owners i picker e within is = absurd (omega arith)
load_more_same (one ∷ lengths) [] i picker e within is = absurd (omega arith)
load_more_same (one ∷ lengths) (owner ∷ owners) zero picker e within is =
    omega (arith, load-cons one [] owner [] picker, own owner picker one is, load-nil [] picker)
load_more_same (one ∷ lengths) (owner ∷ owners) (suc i) picker e within is =
    omega (
      arith,
      load-cons one (take (suc i) lengths) owner (take (suc i) owners) picker,
      load-cons one (take i lengths) owner (take i owners) picker,
      load_more_same lengths owners i picker (omega arith) (omega arith) is,
    )

pub load_more_other : (lengths owners : List ℕ) (i picker : ℕ) → length owners ≡ length lengths → i < length lengths → get_or owners i 0 ≢ picker
    → load (take (suc i) lengths) (take (suc i) owners) picker ≡ load (take i lengths) (take i owners) picker
load_more_other [] owners i picker e within isnt = absurd (omega arith)
load_more_other (one ∷ lengths) [] i picker e within isnt = absurd (omega arith)
load_more_other (one ∷ lengths) (owner ∷ owners) zero picker e within isnt =
    omega (arith, load-cons one [] owner [] picker, others owner picker one isnt, load-nil [] picker)
load_more_other (one ∷ lengths) (owner ∷ owners) (suc i) picker e within isnt =
    omega (
      arith,
      load-cons one (take (suc i) lengths) owner (take (suc i) owners) picker,
      load-cons one (take i lengths) owner (take i owners) picker,
      load_more_other lengths owners i picker (omega arith) (omega arith) isnt,
    )

pub load-take-le : (lengths owners : List ℕ) (i picker : ℕ) → load (take i lengths) owners picker ≤ sum lengths
load-take-le lengths owners i picker =
    omega (arith, load-le-sum (take i lengths) owners picker, sum_by-take-le (λ (x : ℕ). x) lengths i)

-- a picker's load stays the same under another number that no other picker has
pub load_renumbered : (number_of : ℕ → ℕ) (lengths owners : List ℕ) (picker : ℕ)
    → All (λ owner. number_of owner ≡ number_of picker → owner ≡ picker) owners
    → load lengths (map number_of owners) (number_of picker) ≡ load lengths owners picker
unfolding load
load_renumbered number_of [] owners picker apart = refl
load_renumbered number_of (one ∷ lengths) [] picker apart = refl
load_renumbered number_of (one ∷ lengths) (owner ∷ owners) picker apart =
    let test = same_test (number_of owner) (number_of picker) owner picker one
    (All-head (λ other. number_of other ≡ number_of picker → other ≡ picker) owner owners apart)
    (λ e. ap number_of e) in
    let rest = load_renumbered number_of lengths owners picker
    (All-tail (λ other. number_of other ≡ number_of picker → other ≡ picker) owner owners apart) in
    omega (arith, test, rest)
