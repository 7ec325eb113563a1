use Rattle.std.proofs.Common.{◌≡◌, ◌∙◌, ◌++◌, ◌∷◌, [], ap, sym, get_or, take, List, arith}
use Rattle.std.proofs.lemmas.List.{append_assoc, take_all, take_more}
use Rattle.wp_model.specs.declared.row.Hold.{Hold}
use Rattle.wp_book.specs.Room.{Content}
use Rattle.wp_book.proofs.room.Room.put_all.Goals as goal

abbrev none : Hold
none = record { order = 0; row = 0; quantity = 0 }

-- room with these holds after those that were in it
abbrev with_holds : Content → List Hold → Content
with_holds room holds = record { size = room.size; holds = room.holds ++ holds }

-- one hold more
put_one : (room now next : Content) (holds : List Hold) (hold : Hold) → now ≡ with_holds room holds → next ≡ with_holds now (hold ∷ [])
    → next ≡ with_holds room (holds ++ hold ∷ [])
put_one room now next holds hold is put =
    put ∙ (ap (λ (now : Content). with_holds now (hold ∷ [])) is
    ∙ ap (λ (all : List Hold). record { size = room.size; holds = all }) (append_assoc room.holds holds (hold ∷ [])))

pub loop-hold-preserved : goal.loop-hold-preserved
loop-hold-preserved c =
    let holds = c.args.holds.now in
    let place = c.loop-hold.hold-index in
    put_one c.args.self.now c.loop-hold.self c.put.new.self (take place holds) (get_or holds place none) c.loop-hold.invariant c.put.ensures
    ∙ ap (with_holds c.args.self.now) (sym (take_more holds place none c.loop-hold-test.true))

pub returns : goal.returns
returns c = c.loop-hold.invariant ∙ ap (with_holds c.args.self.now) (take_all c.loop-hold.hold-index c.args.holds.now (omega arith))
