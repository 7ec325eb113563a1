-- Commands dealt out to the scripts of their desks.
use Rattle.std.proofs.Common.{◌≡◌, ◌∙◌, refl, sym, ap, ap₂, ℕ, ◌+◌, ◌<◌, inl, inr, cond, List, [], ◌∷◌, ◌++◌, length, map, set, get_or, arith}
use Rattle.std.proofs.Common.{append-nil, length-set, get_or-set_same, get_or-set_other}
use Rattle.std.proofs.lemmas.Bool.{cases_eq, eq-eqb, ne_eqb}
use Rattle.std.proofs.lemmas.List.{get_or-map, length-map, map-append, map-set, map_push, same_lists}
use Rattle.std.proofs.lemmas.List.Elements.{filter-append}
use Rattle.std.proofs.lemmas.List.FromFn.{get_or-map-range_with_len, length-map-range_with_len, map-range_with_len_more}
use Rattle.std.specs.List.{filter, range_with_len}
use Rattle.wp_model.specs.History.{Script}
use Rattle.wp_model.specs.declared.command.Command.{Command}
use Rattle.wp_tables.specs.DeskFile.{is_of, script_from}
use Rattle.wp_tables.specs.Scripts.{AreDealt, script_in}
use Rattle.wp_tables.specs.declared.scripts.DeskCommand.{DeskCommand}
use Rattle.wp_tables.specs.declared.scripts.DeskScript.{DeskScript}

-- what a desk asks for
abbrev asks : List DeskCommand → ℕ → List Command
asks commands desk = (script_from commands desk).commands

asks_push : (commands : List DeskCommand) (asked : DeskCommand) (desk : ℕ)
    → asks (commands ++ asked ∷ []) desk ≡ asks commands desk ++ map (λ c. c.command) (cond (is_of desk asked) (asked ∷ []) [])
asks_push commands asked desk =
    ap (map (λ (c : DeskCommand). c.command)) (filter-append (is_of desk) commands (asked ∷ []))
    ∙ map-append (λ (c : DeskCommand). c.command) (filter (is_of desk) commands) (filter (is_of desk) (asked ∷ []))

-- one more command of a desk is its last
asks_more : (commands : List DeskCommand) (asked : DeskCommand) (desk : ℕ) → asked.desk ≡ desk
    → asks (commands ++ asked ∷ []) desk ≡ asks commands desk ++ asked.command ∷ []
asks_more commands asked desk is = rw (eq-eqb asked.desk desk is) at (asks_push commands asked desk)

-- one more command of another desk changes nothing
asks_same : (commands : List DeskCommand) (asked : DeskCommand) (desk : ℕ) → (asked.desk ≡ desk → ⊥)
    → script_from (commands ++ asked ∷ []) desk ≡ script_from commands desk
asks_same commands asked desk other =
    let pushed = rw (ne_eqb asked.desk desk other) at (asks_push commands asked desk) in
    ap (λ asked. record { desk = desk; commands = asked }) (pushed ∙ append-nil (asks commands desk))

-- there are as many scripts as desks
pub dealt_length : (commands : List DeskCommand) (desks : ℕ) (scripts : List DeskScript) → AreDealt commands desks scripts → length scripts ≡ desks
dealt_length commands desks scripts dealt =
    sym (length-map scripts script_in) ∙ (ap length dealt ∙ length-map-range_with_len (script_from commands) 1 desks)

-- the script at a place is that of the desk of the next number
dealt_at : (commands : List DeskCommand) (desks : ℕ) (scripts : List DeskScript) (k : ℕ) (d : Script) → AreDealt commands desks scripts → k < length scripts
    → get_or (map script_in scripts) k d ≡ script_from commands (1 + k)
dealt_at commands desks scripts k d dealt below =
    ap (λ scripts. get_or scripts k d) dealt
    ∙ get_or-map-range_with_len (script_from commands) 1 desks k (1 + k) d (omega (arith, below, dealt_length commands desks scripts dealt)) refl

-- so the script of a desk with one more command is that of the commands with it
one_more : (commands : List DeskCommand) (asked : DeskCommand) (old new : DeskScript) → script_in old ≡ script_from commands asked.desk
    → new.desk ≡ old.desk → new.commands.items ≡ old.commands.items ++ asked.command ∷ []
    → script_in new ≡ script_from (commands ++ asked ∷ []) asked.desk
one_more commands asked old new is same more =
    ap₂ (λ desk commands. record { desk = desk; commands = commands }) (same ∙ ap (λ (s : Script). s.desk) is)
    (more ∙ (ap (λ (s : Script). s.commands ++ asked.command ∷ []) is ∙ sym (asks_more commands asked asked.desk refl)))

-- where one more command is the last of its desk's script, scripts are dealt out with that command
pub dealt_more : (commands : List DeskCommand) (desks : ℕ) (scripts : List DeskScript) (asked : DeskCommand) (place : ℕ) (old new : DeskScript)
    → asked.desk ≡ 1 + place → place < length scripts → old ≡ get_or scripts place old → new.desk ≡ old.desk
    → new.commands.items ≡ old.commands.items ++ asked.command ∷ [] → AreDealt commands desks scripts
    → AreDealt (commands ++ asked ∷ []) desks (set scripts place new)
dealt_more commands desks scripts asked place old new number within is same more dealt =
    same_lists (map script_in (set scripts place new)) (map (script_from (commands ++ asked ∷ [])) (range_with_len 1 desks))
    (size ∙ (dealt_length commands desks scripts dealt ∙ sym (length-map-range_with_len (script_from (commands ++ asked ∷ [])) 1 desks)))
    (λ k d below. each k d (omega (arith, below, size)))
  where
    size : length (map script_in (set scripts place new)) ≡ length scripts
    size = length-map (set scripts place new) script_in ∙ length-set scripts place new

    old_is : script_in old ≡ script_from commands asked.desk
    old_is = ap script_in is ∙ (sym (get_or-map script_in scripts place old (script_in old) within)
        ∙ (dealt_at commands desks scripts place (script_in old) dealt within ∙ ap (script_from commands) (sym number)))

    here : (d : Script) → get_or (map script_in (set scripts place new)) place d ≡ script_from (commands ++ asked ∷ []) (1 + place)
    here d = ap (λ scripts. get_or scripts place d) (map-set script_in scripts place new)
        ∙ (get_or-set_same (map script_in scripts) place (script_in new) d (omega (arith, within, length-map scripts script_in))
        ∙ (one_more commands asked old new old_is same more ∙ ap (script_from (commands ++ asked ∷ [])) number))

    elsewhere : (k : ℕ) (d : Script) → k < length scripts → (k ≡ place → ⊥)
        → get_or (map script_in (set scripts place new)) k d ≡ script_from (commands ++ asked ∷ []) (1 + k)
    elsewhere k d below other = ap (λ scripts. get_or scripts k d) (map-set script_in scripts place new)
        ∙ (get_or-set_other (map script_in scripts) place k (script_in new) d other
        ∙ (dealt_at commands desks scripts k d dealt below ∙ sym (asks_same commands asked (1 + k) (λ e. other (omega (arith, e, number))))))

    there : (k : ℕ) (d : Script) → k < length scripts → get_or (map script_in (set scripts place new)) k d ≡ script_from (commands ++ asked ∷ []) (1 + k)
    there k d below = elim (cases_eq k place) [
      | inl e ↦ rw e (here d)
      | inr other ↦ elsewhere k d below other
    ]

    each : (k : ℕ) (d : Script) → k < length scripts
        → get_or (map script_in (set scripts place new)) k d ≡ get_or (map (script_from (commands ++ asked ∷ [])) (range_with_len 1 desks)) k d
    each k d below = there k d below
        ∙ sym (get_or-map-range_with_len (script_from (commands ++ asked ∷ [])) 1 desks k (1 + k) d
        (omega (arith, below, dealt_length commands desks scripts dealt)) refl)

-- one more desk's script, with no command yet
pub empty_more : (desks number after : ℕ) (scripts all : List DeskScript) (new : DeskScript) → number ≡ desks + 1 → after ≡ number → new.desk ≡ number
    → new.commands.items ≡ [] → all ≡ scripts ++ new ∷ [] → AreDealt [] desks scripts → AreDealt [] after all
empty_more desks number after scripts all new next last is none pushed dealt =
    let more = map-range_with_len_more (script_from []) 1 desks number (omega (arith, next)) in
    let same : desks + 1 ≡ after = omega (arith, next, last) in
    ap (map script_in) pushed
    ∙ (map_push script_in scripts new
    ∙ (ap₂ (λ scripts script. scripts ++ script ∷ []) dealt (ap₂ (λ desk commands. record { desk = desk; commands = commands }) is none)
    ∙ (sym more ∙ ap (λ n. map (script_from []) (range_with_len 1 n)) same)))
