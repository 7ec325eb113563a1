-- The value that is read of an option of a command passed the option's parser.
use Rattle.std.proofs.Common.{◌≡◌, ◌∙◌, ◌<◌, ℕ, Bool, true, false, cond, zero, suc, refl, sym, ap, subst, arith, inl, inr}
use Rattle.std.proofs.Common.{List, [], ◌∷◌, ◌++◌, length, map, All, Option, Some, None, option_map, unwrap_or, bytes_eq, codes}
use Rattle.std.specs.Prelude.{slice_get, ⊤}
use Rattle.std.specs.List.{slice_index_or}
use Rattle.std.specs.Borrow.{Bor}
use Rattle.std.proofs.lemmas.Bool.{cases_lt, false≢true}
use Rattle.std.proofs.lemmas.List.Elements.{All-get_or}
use Rattle.std.proofs.lemmas.Slice.Eq.{bytes_eq-Decides}
use Rattle.clap.specs.Built.{IsAuto, IsParsedFrom, SameRules}
use Rattle.clap.specs.Facts.{Entry, EntryPasses, HasReading, IsParsed, PassesArg, args_of, groups_of, parser_of, parser_of_value}
use Rattle.clap.specs.Matches.{found_of, has_subcommand, matched_of, one_text}
use Rattle.clap.specs.Simple.{App, app_of, new_rule}
use Rattle.clap.specs.Values.{Accepts, read_as, reading_of}
use Rattle.clap.specs.Walk.{Rule, Text, one_of, rows_of, rule_of}
use Rattle.clap.specs.Words.{is_simple_and_free}
use Rattle.clap.specs.declared.builder.arg.Arg.{Arg}
use Rattle.clap.specs.declared.builder.command.Command.{Command}
use Rattle.clap.specs.declared.builder.value_parser.Reading.{Reading}
use Rattle.clap.specs.declared.builder.value_parser.ValueParser.{ValueParser}
use Rattle.clap.specs.declared.parser.matches.ArgMatches.{ArgMatches}
use Rattle.clap.specs.declared.parser.matches.MatchedArg.{MatchedArg}
use Rattle.clap.proofs.CallerLemmas.{entry_by_id}
use Rattle.clap.proofs.SimpleLemmas.{plain_fields, simple_groups}
use Rattle.clap.proofs.WalkLemmas.{both, one_text-rows}
use Rattle.wp_words.specs.Options.{IsMatchOf}

-- each member of a list is so
abbrev pub Each : {A : Type 0} → (A → Type 0) → List A → Type 0
Each P [] = ⊤
Each P (x ∷ xs) = P x × Each P xs

-- how a value is read: by the parser, if there is one, and whether case counts for nothing
abbrev Reader : Type 0
Reader = Option ValueParser × Bool

-- how the options of this name are read
abbrev pub readers_of : Text → List Rule → List Reader
readers_of name [] = []
readers_of name (rule ∷ rules) = cond (bytes_eq rule.id name) ((rule.parser, rule.ignore_case) ∷ readers_of name rules) (readers_of name rules)

-- the names that stand for no option of a command's own: no name, and those of the options that clap adds
abbrev pub foreign_names : List Text
foreign_names = [] ∷ codes "help" ∷ codes "version" ∷ []

-- a command has one option of this name, its own, which this parser reads and which heeds case
abbrev pub HasOption : Text → ValueParser → App → Type 0
HasOption name parser app = readers_of name (map new_rule foreign_names ++ app.top.rules) ≡ (Some parser, false) ∷ []

-- a rule of this name has this parser, and heeds case
abbrev pub IsReadBy : Text → ValueParser → Rule → Type 0
IsReadBy name parser rule = bytes_eq rule.id name ≡ true → (rule.parser ≡ Some parser) × (rule.ignore_case ≡ false)

-- the options of this name among the rules of a command have this parser, and it is no name that clap adds
pub record HasParser (name : Text) (parser : ValueParser) (rules : List Rule) : Type 0 where
  pub each : Each (IsReadBy name parser) rules
  pub named : bytes_eq [] name ≡ false
  pub help : bytes_eq (codes "help") name ≡ false
  pub version : bytes_eq (codes "version") name ≡ false

-- where all options of a name are read by a parser, each rule of the name has it
each_read : (name : Text) (parser : ValueParser) (rules : List Rule) → Each (λ (r : Reader). r ≡ (Some parser, false)) (readers_of name rules)
    → Each (IsReadBy name parser) rules
each_read name parser [] all = tt
each_read name parser (rule ∷ rules) all = go (bytes_eq rule.id name) refl (λ rest. each_read name parser rules rest) all
  where
    go : (b : Bool) → bytes_eq rule.id name ≡ b
        → (Each (λ (r : Reader). r ≡ (Some parser, false)) (readers_of name rules) → Each (IsReadBy name parser) rules)
        → Each (λ (r : Reader). r ≡ (Some parser, false)) (cond b ((rule.parser, rule.ignore_case) ∷ readers_of name rules) (readers_of name rules))
        → IsReadBy name parser rule × Each (IsReadBy name parser) rules
    go true is others all = (λ _. (ap (λ (r : Reader). r.0) all.0, ap (λ (r : Reader). r.1) all.0), others all.1)
    go false is others all = (λ same. absurd (false≢true (sym is ∙ same)), others all)

-- a name that no parser reads is another than one that a parser reads
unread : (name id : Text) (parser : ValueParser) → IsReadBy name parser (new_rule id) → bytes_eq id name ≡ false
unread name id parser read = go (bytes_eq id name) refl
  where
    go : (b : Bool) → bytes_eq id name ≡ b → b ≡ false
    go true same =
        let bad : None ≡ Some parser = (read same).0 in
        cc
    go false same = refl

-- an option of a command's own has its parser among the command's rules
has_parser : (name : Text) (parser : ValueParser) (app : App) → HasOption name parser app → HasParser name parser app.top.rules
has_parser name parser app own =
    let each = each_read name parser (map new_rule foreign_names ++ app.top.rules)
    (subst (Each (λ (r : Reader). r ≡ (Some parser, false))) (sym own) (refl, tt)) in
    record {
      each = each.1.1.1;
      named = unread name [] parser each.0;
      help = unread name (codes "help") parser each.1.0;
      version = unread name (codes "version") parser each.1.1.0;
    }

-- a name isn't one that it differs from
other : (name id : Text) → bytes_eq id name ≡ false → name ≡ id → ⊥
other name id differs same =
    let is : bytes_eq id name ≡ true = (bytes_eq-Decides id name).1 (sym same) in
    let bad : true ≡ false = sym is ∙ differs in
    cc

-- the rule of an argument at its place
rule_at : (P : Rule → Type 0) (args : List Arg) (k : ℕ) (d : Arg) → Each P (map rule_of args) → k < length args
    → P (rule_of (slice_index_or args k d))
rule_at P [] k d each lt = absurd (omega arith)
rule_at P (a ∷ args) zero d each lt = each.0
rule_at P (a ∷ args) (suc k) d each lt = rule_at P args k d each.1 (omega arith)

-- an argument of this name in the command as it was built has the option's parser
built_parser : (c : Command) (m : ArgMatches) (p : IsParsedFrom c m) (name : Text) (q : ValueParser) → HasParser name q (map rule_of (args_of c))
    → (j : ℕ) (x : Arg) → j < length (args_of p.built) → slice_index_or (args_of p.built) j x ≡ x → bytes_eq x.id.now name ≡ true
    → (parser_of x ≡ q) × (x.ignore_case ≡ false)
built_parser c m p name q own j x high at same =
    elim (cases_lt j (length (args_of c))) [
      | inl under ↦
          let s = subst (λ w. SameRules (slice_index_or (args_of c) j x) w) at (p.from.kept j x under).1 in
          let old_same : bytes_eq (slice_index_or (args_of c) j x).id.now name ≡ true = rw (← s.id) same in
          let is = rule_at (IsReadBy name q) (args_of c) j x own.each under old_same in
          (ap parser_of_value (s.parser q is.0), s.ignore_case ∙ is.1)
      | inr over ↦
          let flag = subst IsAuto at (p.from.extra j x over high) in
          let name_is : name ≡ x.id.now = sym ((bytes_eq-Decides x.id.now name).0 same) in
          absurd (elim flag [ inl h ↦ other name _ own.help (name_is ∙ h) | inr h ↦ other name _ own.version (name_is ∙ h) ])
    ]

-- the first of some values, of which each is so
first_value : (P : Bor Text → Type 0) (how : Reading) (vs : List (Bor Text)) (text : Text) → All P vs
    → option_map (λ s. read_as how s.now) (slice_get vs 0) ≡ Some text → (v : Bor Text) × (text ≡ read_as how v.now) × P v
first_value P how [] text all is = cc
first_value P how (v ∷ vs) text all is = (v, sym (ap (λ (o : Option Text). unwrap_or o text) is), All-get_or P (v ∷ vs) 0 v (omega arith) all)

-- what an entry of the name gives
of_entry : (c : Command) (m : ArgMatches) (p : IsParsedFrom c m) (name text : Text) (q : ValueParser) → HasParser name q (map rule_of (args_of c))
    → groups_of p.built ≡ [] → (e : Entry) → e.0.now ≡ name → EntryPasses p.built e
    → option_map (λ s. read_as e.1.reading s.now) (slice_get e.1.vals.items 0) ≡ Some text
    → (written : Text) × (text ≡ read_as (reading_of q) written) × Accepts false q written
of_entry c m p name text q own no_groups e key pass is =
    let no_group : e.1.is_group ≡ true → ⊥ = λ g. elim (pass.3 g) [
      | inl empty ↦ other name [] own.named (sym key ∙ empty)
      | inr lots ↦
          let bad : 0 < 0 = rw no_groups at lots in
          absurd (omega arith)
    ] in
    let values : All (λ v. PassesArg p.built e.0.now v.now) e.1.vals.items = elim pass.0 [ inl g ↦ absurd (no_group g) | inr vals ↦ vals ] in
    let reading : HasReading p.built e.0.now e.1.reading = elim pass.4 [ inl g ↦ absurd (no_group g) | inr h ↦ h ] in
    let first = first_value (λ v. PassesArg p.built e.0.now v.now) e.1.reading e.1.vals.items text values is in
    let passed = first.2 in
    let passed_key = subst (λ (w : Text). bytes_eq passed.1.id.now w ≡ true) key passed.4.0 in
    let reading_key = subst (λ (w : Text). bytes_eq reading.1.id.now w ≡ true) key reading.4.0 in
    let by = built_parser c m p name q own passed.0 passed.1 passed.2 passed.3 passed_key in
    let read = built_parser c m p name q own reading.0 reading.1 reading.2 reading.3 reading_key in
    let how : e.1.reading ≡ reading_of q = sym reading.4.1 ∙ ap reading_of read.0 in
    let as_q : Accepts passed.1.ignore_case q first.0.now =
    subst (λ (w : ValueParser). Accepts passed.1.ignore_case w first.0.now) by.0 passed.4.1 in
    (first.0.now, first.1 ∙ ap (λ (r : Reading). read_as r first.0.now) how, subst (λ (b : Bool). Accepts b q first.0.now) by.1 as_q)

-- what a parse by a simple command gives, which has no groups
simple_parse : (c : Command) (m : ArgMatches) (p : IsParsedFrom c m) → is_simple_and_free (app_of c) ≡ true
    → IsParsed p.built (found_of m) (has_subcommand m) × (groups_of p.built ≡ [])
simple_parse c m p simple =
    let rules = both _ _ (both _ _ (both _ _ (both _ _ simple).0).0).0 in
    let fields = plain_fields c rules.0 in
    (p.parsed (p.from.globals ∙ fields.globals), (p.from.same_groups (simple_groups c rules.1)).1 ∙ fields.groups)

-- what is read of an option of a parsed command was written so that it passed the option's parser
passed_parsed : (c : Command) (m : ArgMatches) (name text : Text) (q : ValueParser) → IsParsedFrom c m → is_simple_and_free (app_of c) ≡ true
    → HasParser name q (app_of c).top.rules → one_of name (rows_of (found_of m)) ≡ Some text
    → (written : Text) × (text ≡ read_as (reading_of q) written) × Accepts false q written
passed_parsed c m name text q p simple own is = go (matched_of (found_of m) name) refl (one_text-rows (found_of m) name ∙ is)
  where
    go : (o : Option MatchedArg) → matched_of (found_of m) name ≡ o → one_text (found_of m) name ≡ Some text
        → (written : Text) × (text ≡ read_as (reading_of q) written) × Accepts false q written
    go None found said =
        let bad : None ≡ Some text = rw found at said in
        cc
    go (Some x) found said =
        let parse = simple_parse c m p simple in
        let got = entry_by_id (EntryPasses p.built) (found_of m).entries.items name x parse.0.values found in
        let at_x : option_map (λ s. read_as x.reading s.now) (slice_get x.vals.items 0) ≡ Some text = rw found at said in
        let at_e = subst (λ (y : MatchedArg). option_map (λ s. read_as y.reading s.now) (slice_get y.vals.items 0) ≡ Some text) (sym got.1) at_x in
        of_entry c m p name text q own parse.1 got.0 ((bytes_eq-Decides got.0.0.now name).0 got.2) got.3 at_e

-- what is read of a command's option was written so that it passed the option's parser
pub passed : (app : App) (m : ArgMatches) (name text : Text) (q : ValueParser) → IsMatchOf app m → HasOption name q app
    → one_of name (rows_of (found_of m)) ≡ Some text → (written : Text) × (text ≡ read_as (reading_of q) written) × Accepts false q written
passed app m name text q match own is =
    let simple = subst (λ (a : App). is_simple_and_free a ≡ true) (sym match.options) match.simple in
    let parser = subst (λ (a : App). HasParser name q a.top.rules) (sym match.options) (has_parser name q app own) in
    passed_parsed match.command m name text q match.parsed simple parser is
