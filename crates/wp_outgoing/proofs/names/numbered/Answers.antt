use Rattle.std.proofs.Common.{◌≡◌, ◌∙◌, ◌++◌, ◌∷◌, sym, ap, refl, ℕ, List, Some}
use Rattle.std.proofs.lemmas.Option.{same_Some}
use Rattle.std.specs.Fmt.{decimal}
use Rattle.wp_model.specs.Name.{is_name, name_in}
use Rattle.wp_outgoing.specs.Names.{numbered_name}
use Rattle.wp_outgoing.proofs.NumberedNames.{is_numbered, numbered_in}
use Rattle.wp_outgoing.proofs.Written.{written}
use Rattle.wp_outgoing.proofs.names.numbered.Goals as goal

pub unwrap-requires : goal.unwrap-requires
unwrap-requires c =
    let group = c.args.group.now in
    let text : c.as_slice.result.now ≡ numbered_name group c.args.number =
    c.as_slice.ensures.value ∙ (written c.write.result _ _ c.in_ok-or.ensures c.write.ensures.bytes
    ∙ ap (λ (t : List ℕ). t ++ (46 ∷ decimal c.args.number)) (c.in_ok-text.ensures.items ∙ c.as_bytes.ensures.bytes)) in
    let found : c.new.result ≡ Some (numbered_name group c.args.number) =
    c.new.ensures ∙ (ap name_in text ∙ numbered_in group c.args.number c.as_bytes.ensures.name c.requires.group c.requires.number) in
    rw found refl

pub returns-clause-name : goal.returns-clause-name
returns-clause-name c =
    let group = c.args.group.now in
    let text : c.as_slice.result.now ≡ numbered_name group c.args.number =
    c.as_slice.ensures.value ∙ (written c.write.result _ _ c.in_ok-or.ensures c.write.ensures.bytes
    ∙ ap (λ (t : List ℕ). t ++ (46 ∷ decimal c.args.number)) (c.in_ok-text.ensures.items ∙ c.as_bytes.ensures.bytes)) in
    let found : c.new.result ≡ Some (numbered_name group c.args.number) =
    c.new.ensures ∙ (ap name_in text ∙ numbered_in group c.args.number c.as_bytes.ensures.name c.requires.group c.requires.number) in
    same_Some c.unwrap.result (numbered_name group c.args.number) (sym c.unwrap.ensures ∙ found)

pub returns-clause-named : goal.returns-clause-named
returns-clause-named c =
    let group = c.args.group.now in
    let text : c.as_slice.result.now ≡ numbered_name group c.args.number =
    c.as_slice.ensures.value ∙ (written c.write.result _ _ c.in_ok-or.ensures c.write.ensures.bytes
    ∙ ap (λ (t : List ℕ). t ++ (46 ∷ decimal c.args.number)) (c.in_ok-text.ensures.items ∙ c.as_bytes.ensures.bytes)) in
    let found : c.new.result ≡ Some (numbered_name group c.args.number) =
    c.new.ensures ∙ (ap name_in text ∙ numbered_in group c.args.number c.as_bytes.ensures.name c.requires.group c.requires.number) in
    ap is_name (same_Some c.unwrap.result (numbered_name group c.args.number) (sym c.unwrap.ensures ∙ found))
    ∙ is_numbered group c.args.number c.as_bytes.ensures.name c.requires.group c.requires.number
