-- Files whose texts are told say one thing, or one of them is the first that is refused.
use Rattle.std.proofs.Common.{◌≡◌, ◌∙◌, refl, sym, ap, ap₂, subst, ℕ, List, [], ◌∷◌, ◌++◌, map, Some}
use Rattle.std.proofs.Common.{Result, Ok, Err}
use Rattle.std.specs.List.{All}
use Rattle.std.proofs.lemmas.List.Elements.{All-cons, All-head, All-nil, All-tail}
use Rattle.wp_model.specs.Outcomes.{and_then}
use Rattle.wp_top.proofs.FilesRead.{Holding, say_further}
use Rattle.wp_outside.specs.Outside.{FilesTold}
use Rattle.wp_top.specs.Ends.{EndsAt, IsRefused}
use Rattle.wp_top.specs.Texts.{File, HaveSaid, IsHeld, IsTold, ReadFile, Said, Say, file_of, nothing_said, said_after, said_with}
use Rattle.wp_top.specs.declared.input.Input.{Input}
use Rattle.wp_top.specs.declared.input.Refusal.{Refusal}

abbrev AreHeld : Holding → List ReadFile → Type 0
AreHeld holds read = All (λ r. IsHeld holds r.file.name r.text) read

abbrev AreTold : Holding → List ReadFile → Type 0
AreTold holds read = All (λ r. IsTold holds r.file.name r.text) read

-- what is told is what was read
pub told_text : (holds : Holding) (name told text : List ℕ) → holds name ≡ Some told → IsHeld holds name text → text ≡ told
told_text holds name told text is held = rw is at held

same_read : (holds : Holding) (a b : ReadFile) → a.file ≡ b.file → holds b.file.name ≡ Some b.text → IsHeld holds a.file.name a.text → a ≡ b
same_read holds a b file told held =
    let at : IsHeld holds b.file.name a.text = subst (λ (f : File). IsHeld holds f.name a.text) file held in
    ap₂ (λ (f : File) (t : List ℕ). let r : ReadFile = record { file = f; text = t } in r) file (told_text holds b.file.name b.text a.text told at)

-- lists of files that are the same begin with the same file
pub first_file : (a b : File) (xs ys : List File) → ◌≡◌ {A = List File} (a ∷ xs) (b ∷ ys) → a ≡ b
first_file a b xs ys e = cc e

-- and go on with the same files
pub other_files : (a b : File) (xs ys : List File) → ◌≡◌ {A = List File} (a ∷ xs) (b ∷ ys) → xs ≡ ys
other_files a b xs ys e = cc e

-- files that hold what is told were read as it
same_texts : (holds : Holding) (xs ys : List ReadFile) → map (λ (r : ReadFile). r.file) xs ≡ map (λ (r : ReadFile). r.file) ys → AreHeld holds xs
    → AreTold holds ys → xs ≡ ys
same_texts holds [] [] same held told = refl
same_texts holds [] (y ∷ ys) same held told = absurd (cc same)
same_texts holds (x ∷ xs) [] same held told = absurd (cc same)
same_texts holds (x ∷ xs) (y ∷ ys) same held told =
    ap₂ (λ (r : ReadFile) (rs : List ReadFile). r ∷ rs)
    (same_read holds x y (first_file x.file y.file (map (λ (r : ReadFile). r.file) xs) (map (λ (r : ReadFile). r.file) ys) same)
    (All-head (λ (r : ReadFile). holds r.file.name ≡ Some r.text) y ys told) (All-head (λ (r : ReadFile). IsHeld holds r.file.name r.text) x xs held))
    (same_texts holds xs ys (other_files x.file y.file (map (λ (r : ReadFile). r.file) xs) (map (λ (r : ReadFile). r.file) ys) same)
    (All-tail (λ (r : ReadFile). IsHeld holds r.file.name r.text) x xs held) (All-tail (λ (r : ReadFile). holds r.file.name ≡ Some r.text) y ys told))

same_ok : (a b : Said) → ◌≡◌ {A = Result Said Refusal} (Ok a) (Ok b) → a ≡ b
same_ok a b e = cc e

-- what files say is one thing
pub one_said : (holds : Holding) (files : List File) (a b : Said) → HaveSaid (IsHeld holds) files a → HaveSaid (IsTold holds) files b → a ≡ b
one_said holds files a b p q =
    let same = same_texts holds p.read q.read (p.are ∙ sym q.are) p.texts q.texts in
    same_ok a b (sym p.say ∙ (ap (said_after nothing_said) same ∙ q.say))

-- files and their texts, where one file stands among them
record IsSplit (read : List ReadFile) (before : List File) (file : File) : Type 0 where
  first : List ReadFile
  here : ReadFile
  others : List ReadFile
  parts : read ≡ first ++ here ∷ others
  are : map (λ (r : ReadFile). r.file) first ≡ before
  is : here.file ≡ file

split_more : (r : ReadFile) (rs : List ReadFile) (before : List File) (file : File) (f : File) → r.file ≡ f → IsSplit rs before file
    → IsSplit (r ∷ rs) (f ∷ before) file
split_more r rs before file f same split = record {
  first = r ∷ split.first;
  here = split.here;
  others = split.others;
  parts = ap (λ (l : List ReadFile). r ∷ l) split.parts;
  are = ap₂ (λ (g : File) (gs : List File). g ∷ gs) same split.are;
  is = split.is;
}

split : (read : List ReadFile) (before : List File) (file : File) (later : List File) → map (λ (r : ReadFile). r.file) read ≡ before ++ file ∷ later
    → IsSplit read before file
split [] [] file later same = absurd (cc same)
split [] (f ∷ before) file later same = absurd (cc same)
split (r ∷ rs) [] file later same = record {
  first = [];
  here = r;
  others = rs;
  parts = refl;
  are = refl;
  is = first_file r.file file (map (λ (r : ReadFile). r.file) rs) later same;
}
split (r ∷ rs) (f ∷ before) file later same =
    split_more r rs before file f (first_file r.file f (map (λ (r : ReadFile). r.file) rs) (before ++ file ∷ later) same)
    (split rs before file later (other_files r.file f (map (λ (r : ReadFile). r.file) rs) (before ++ file ∷ later) same))

-- what holds of all of two lists holds of the first
pub all_first : {X : Type 0} (P : X → Type 0) (xs ys : List X) → All P (xs ++ ys) → All P xs
all_first P [] ys all = All-nil P
all_first P (x ∷ xs) ys all = All-cons P x xs (All-head P x (xs ++ ys) all) (all_first P xs ys (All-tail P x (xs ++ ys) all))

-- and of what stands between them
pub all_here : {X : Type 0} (P : X → Type 0) (xs : List X) (x : X) (ys : List X) → All P (xs ++ x ∷ ys) → P x
all_here P [] x ys all = All-head P x ys all
all_here P (y ∷ xs) x ys all = all_here P xs x ys (All-tail P y (xs ++ x ∷ ys) all)

not_refused : (a : Said) (why : Refusal) → ◌≡◌ {A = Result Said Refusal} (Ok a) (Err why) → ⊥
not_refused a why e = cc e

-- what a refused file leaves of those that follow
refused_there : (first others : List ReadFile) (here : ReadFile) (said all : Said) (why : Refusal) → Say first said
    → said_with said here.file.kind here.text ≡ Err why → Say (first ++ here ∷ others) all → ⊥
refused_there first others here said all why say refused whole =
    not_refused all why (sym whole ∙ (say_further first (here ∷ others) said say ∙ ap (λ r. and_then r (λ s. said_after s others)) refused))

-- files that say something have none that is told and refused
pub none_told : (holds : Holding) (files before : List File) (file : File) (later : List File) (all said : Said) (text : List ℕ) (why : Refusal)
    → HaveSaid (IsHeld holds) files all → files ≡ before ++ file ∷ later
    → HaveSaid (IsTold holds) before said → holds file.name ≡ Some text → said_with said file.kind text ≡ Err why → ⊥
none_told holds files before file later all said text why have place accepted told refused =
    let at = split have.read before file later (have.are ∙ place) in
    let held : AreHeld holds (at.first ++ at.here ∷ at.others) = subst (AreHeld holds) at.parts have.texts in
    let same = same_texts holds at.first accepted.read (at.are ∙ sym accepted.are)
    (all_first (λ (r : ReadFile). IsHeld holds r.file.name r.text) at.first (at.here ∷ at.others) held) accepted.texts in
    let here : IsHeld holds file.name at.here.text = subst (λ (f : File). IsHeld holds f.name at.here.text) at.is
    (all_here (λ (r : ReadFile). IsHeld holds r.file.name r.text) at.first at.here at.others held) in
    let text_is = told_text holds file.name text at.here.text told here in
    refused_there at.first at.others at.here said all why (ap (said_after nothing_said) same ∙ accepted.say)
    (ap (λ (f : File). said_with said f.kind at.here.text) at.is ∙ (ap (said_with said file.kind) text_is ∙ refused))
    (ap (said_after nothing_said) (sym at.parts) ∙ have.say)

-- files that are told to say something have none that is refused
pub none_refused : (old new : FilesTold) (files : List File) (all : Said) (kind : Input) (why : Refusal) → HaveSaid (IsTold old.holds) files all
    → EndsAt old new files kind (IsRefused old kind why) → ⊥
none_refused old new files all kind why told first =
    let holds = old.holds in
    let at = split told.read first.before (file_of kind first.name) first.later (told.are ∙ first.place) in
    let are : AreTold holds (at.first ++ at.here ∷ at.others) = subst (AreTold holds) at.parts told.texts in
    let same = same_texts holds first.accepted.read at.first (first.accepted.are ∙ sym at.are) first.accepted.texts
    (all_first (λ (r : ReadFile). holds r.file.name ≡ Some r.text) at.first (at.here ∷ at.others) are) in
    let here : holds first.name ≡ Some at.here.text = subst (λ (f : File). holds f.name ≡ Some at.here.text) at.is
    (all_here (λ (r : ReadFile). holds r.file.name ≡ Some r.text) at.first at.here at.others are) in
    let text = first.why.0 in
    let text_is = told_text holds first.name at.here.text text here first.why.1 in
    refused_there at.first at.others at.here first.said all why (ap (said_after nothing_said) (sym same) ∙ first.accepted.say)
    (ap (λ (f : File). said_with first.said f.kind at.here.text) at.is ∙ (ap (said_with first.said kind) (sym text_is) ∙ first.why.2))
    (ap (said_after nothing_said) (sym at.parts) ∙ told.say)
