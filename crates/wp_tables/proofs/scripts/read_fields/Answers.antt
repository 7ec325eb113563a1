use Rattle.std.proofs.Common.{◌≡◌, ◌∙◌, IfOk, IsTrue, Ok, Result, ap, drop, subst, sym}
use Rattle.std.proofs.lemmas.Result.{err_from_is_err_and}
use Rattle.std.specs.List.{list_all}
use Rattle.std.specs.Str.{is_utf8}
use Rattle.csv.specs.Records.{fields_of}
use Rattle.wp_model.specs.Plain.{has_names}
use Rattle.wp_tables.specs.DeskFile.{asked_by, command_in_fields, command_of}
use Rattle.wp_tables.specs.declared.fault.Why.{Why}
use Rattle.wp_tables.specs.declared.scripts.DeskCommand.{DeskCommand}
use Rattle.wp_tables.proofs.ByPlace.{first_two}
use Rattle.wp_tables.proofs.Arguments.{command_then}
use Rattle.wp_tables.proofs.ReadNames.{command_in_fields_named}
use Rattle.wp_tables.proofs.scripts.read_fields.Goals as goal
use Rattle.wp_tables.proofs.scripts.read_fields.Goals.{In_ok-command, In_ok-word}

-- what fields say whose desk and word are read
said : (c : In_ok-word) → command_in_fields (fields_of c.args.fields.now)
    ≡ asked_by c.in_ok-desk.desk (command_of c.in_ok-word.word (drop 2 (fields_of c.args.fields.now)))
said c =
    let fields = fields_of c.args.fields.now in
    let desk = c.field_of.result.now in
    let text = c.field_of-2.result.now in
    let cons = first_two fields desk text c.field_of.ensures c.field_of-2.ensures in
    let texts = ap (list_all is_utf8) (sym cons) ∙ sym c.are_texts.ensures ∙ c.if-not-are_texts.false in
    ap command_in_fields cons ∙ command_then desk text (drop 2 fields) c.in_ok-desk.desk c.in_ok-word.word texts
    (sym c.read_desk.ensures.desk ∙ c.in_ok-desk.was) (sym c.read_word.ensures ∙ c.in_ok-word.was)

-- the command that they say
said_command : (c : In_ok-command) → command_in_fields (fields_of c.args.fields.now)
    ≡ Ok (record { desk = c.in_ok-desk.desk; command = c.in_ok-command.command })
said_command c = said (goal.at.returns-clause-command c).In_ok-word ∙ ap (asked_by c.in_ok-desk.desk) c.in_ok-command.ensures.command

pub returns-in_err-command-clause-command : goal.returns-in_err-command-clause-command
returns-in_err-command-clause-command c =
    let p = err_from_is_err_and c.from_residual-in_err-command.result c.from_residual-in_err-command.ensures.1 in
    rw (p.1, p.2) (λ defined. said (goal.at.returns-in_err-command-clause-command c).In_ok-word
    ∙ ap (asked_by c.in_ok-desk.desk) (c.in_err-command.ensures.command defined))

pub returns-clause-command : goal.returns-clause-command
returns-clause-command = said_command

pub returns-clause-read : goal.returns-clause-read
returns-clause-read c = record {
  of_desk = c.in_ok-desk.ensures.range;
  is_plain = c.in_ok-command.ensures.plain;
  named = subst (λ (said : Result DeskCommand Why). IfOk said (λ asked. IsTrue (has_names asked.command))) (said_command c)
      (command_in_fields_named (fields_of c.args.fields.now));
}
