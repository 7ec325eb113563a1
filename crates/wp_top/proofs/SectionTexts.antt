-- The texts of sections, by those of their parts.
use Rattle.std.proofs.Common.{◌≡◌, ◌∙◌, refl, sym, ap, subst, ℕ, zero, suc, ◌+◌, ◌≤◌, List, [], ◌∷◌, ◌++◌, arith, length, slice_get, take}
use Rattle.std.proofs.lemmas.List.{append-nil}
use Rattle.std.proofs.lemmas.List.Elements.{All-head, All-tail}
use Rattle.std.specs.List.{flat_map}
use Rattle.std.specs.Option.{option_map_or}
use Rattle.wp_model.proofs.Elements.{All-at, within_some}
use Rattle.wp_model.specs.History.{History}
use Rattle.wp_model.specs.Warehouse.{Layout}
use Rattle.wp_outside.specs.Outside.{SinkTold}
use Rattle.wp_outside.specs.declared.sink.SinkFault.{SinkFault}
use Rattle.wp_outside.proofs.Steps.{Fails-before, Fails-then, Writes-then}
use Rattle.wp_outside.specs.Sections.{AreParts, GrowsBy, HaveText, IsSection}
use Rattle.wp_outside.specs.Writing.{Fails, Writes}
use Rattle.wp_planner.proofs.AnySheet.{sheet_of_plan}
use Rattle.wp_planner.specs.Terms.{Terms}
use Rattle.wp_top.proofs.SheetsGrow.{grown_by_none, grown_next}
use Rattle.wp_top.proofs.Writing.{flat_map-next, take_all}
use Rattle.wp_machine.specs.Outcome.{is_cancelled_later}
use Rattle.wp_model.specs.Opening.{Stock}
use Rattle.wp_machine.specs.declared.outcome.Refill.{Refill}
use Rattle.wp_planner.specs.Sent.{ArePlanned, IsPlanned, Sent, plans_of, sent_waves}
use Rattle.wp_top.specs.Planned.{IsSheetAt}
use Rattle.wp_top.specs.Sections.{IsTextAt, refills_section}
use Rattle.wp_top.specs.Sheets.{AreSheets}

-- the texts of the first items are those of the first parts
first_texts : {X : Type 0} (write : X → List ℕ) (items : List X) (count : ℕ) (text : List ℕ) → count ≤ length items
    → AreParts (IsTextAt write items) count text → text ≡ flat_map write (take count items)
first_texts write items zero text few are = are
first_texts write items (suc last) text few (before, are, (part, is, grown)) =
    let here = within_some items last (omega (arith, few)) in
    let own : part ≡ write here.0 = is ∙ ap (λ found. option_map_or write found []) here.1 in
    let more : flat_map write (take (last + 1) items) ≡ flat_map write (take last items) ++ write here.0 = flat_map-next write items last here.0 here.1 in
    let next : last + 1 ≡ suc last = omega arith in
    grown ∙ (ap (λ (t : List ℕ). t ++ part) (first_texts write items last before (omega (arith, few)) are)
    ∙ (ap (λ (t : List ℕ). flat_map write (take last items) ++ t) own ∙ (sym more ∙ ap (λ (n : ℕ). flat_map write (take n items)) next)))

-- a section of the texts of all items
pub section_is : {X : Type 0} (write : X → List ℕ) (items : List X) (count : ℕ) (heading ending text : List ℕ) → count ≡ length items
    → IsSection heading count (IsTextAt write items) ending text → text ≡ heading ++ flat_map write items ++ ending
section_is write items count heading ending text all (middle, are, is) =
    let texts = first_texts write items count middle (omega (arith, all)) are in
    let whole : flat_map write (take count items) ≡ flat_map write items = ap (flat_map write) (ap (λ (n : ℕ). take n items) all ∙ take_all items) in
    is ∙ ap (λ (t : List ℕ). heading ++ t ++ ending) (texts ∙ whole)

-- where a section of the texts of all items fails, so does it with more behind it
pub lines_fail : {X : Type 0} (write : X → List ℕ) (items : List X) (count : ℕ) (heading ending section more waited : List ℕ) (fault : SinkFault)
    (old new : SinkTold) → count ≡ length items → section ≡ heading ++ flat_map write items ++ ending
    → (text : List ℕ) × IsSection heading count (IsTextAt write items) ending text × Fails fault old new (waited ++ text)
    → Fails fault old new (waited ++ (section ++ more))
lines_fail write items count heading ending section more waited fault old new all is (text, said, fails) =
    Fails-before fault old new waited section more
    (subst (λ (t : List ℕ). Fails fault old new (waited ++ t)) (section_is write items count heading ending text all said ∙ sym is) fails)

-- a section of the texts of all items is written, and then more
pub lines_then : {X : Type 0} (write : X → List ℕ) (items : List X) (count : ℕ) (heading ending section more waited between waits : List ℕ)
    (old mid new : SinkTold) → count ≡ length items → section ≡ heading ++ flat_map write items ++ ending
    → (text : List ℕ) × IsSection heading count (IsTextAt write items) ending text × Writes old mid waited between text → Writes mid new between waits more
    → Writes old new waited waits (section ++ more)
lines_then write items count heading ending section more waited between waits old mid new all is (text, said, writes) rest =
    Writes-then old mid new waited between waits section more
    (subst (Writes old mid waited between) (section_is write items count heading ending text all said ∙ sym is) writes) rest

-- it is written, and then more fails
pub lines_then_fail : {X : Type 0} (write : X → List ℕ) (items : List X) (count : ℕ) (heading ending section more waited between : List ℕ)
    (fault : SinkFault) (old mid new : SinkTold) → count ≡ length items → section ≡ heading ++ flat_map write items ++ ending
    → (text : List ℕ) × IsSection heading count (IsTextAt write items) ending text × Writes old mid waited between text
    → Fails fault mid new (between ++ more) → Fails fault old new (waited ++ (section ++ more))
lines_then_fail write items count heading ending section more waited between fault old mid new all is (text, said, writes) rest =
    Fails-then fault old mid new waited between section more
    (subst (Writes old mid waited between) (section_is write items count heading ending text all said ∙ sym is) writes) rest

-- refills that are told are those that are printed
pub told_section : (stock stock' : Stock) (refills refills' : List Refill) → stock ≡ stock' → refills ≡ refills'
    → refills_section stock refills ≡ refills_section stock' refills'
told_section stock stock' refills refills' one other =
    ap (λ (s : Stock). refills_section s refills) one ∙ ap (refills_section stock') other

-- the texts of items are there
pub texts_there : {X : Type 0} (write : X → List ℕ) (items : List X) (count : ℕ) → HaveText (IsTextAt write items) count
texts_there write items count number within = (option_map_or write (slice_get items number) [], refl)

-- a section of one text alone is that text
pub one_text : {X : Type 0} (write : X → List ℕ) (item : X) → write item ≡ [] ++ flat_map write (item ∷ []) ++ []
one_text write item = sym (append-nil (flat_map write (item ∷ [])) ∙ append-nil (write item))

-- the first sheets are those of the first parts
first_sheets : (history : History) (terms : Terms) (sent : List Sent) (count : ℕ) (text : List ℕ)
    → AreParts (IsSheetAt history terms sent) count text → GrowsBy (AreSheets history terms (sent_waves (take count sent)) (plans_of (take count sent))) [] text
first_sheets history terms sent zero text are = subst (GrowsBy (AreSheets history terms [] []) []) (sym are) (grown_by_none history terms [])
first_sheets history terms sent (suc last) text (before, are, (sheet, (one, there, is), grown)) =
    let next : last + 1 ≡ suc last = omega arith in
    subst (λ (n : ℕ). GrowsBy (AreSheets history terms (sent_waves (take n sent)) (plans_of (take n sent))) [] text) next
    (grown_next history terms sent last one [] before text there (first_sheets history terms sent last before are) (sheet, is, grown))

-- a section of sheets
pub sheets_are : (history : History) (terms : Terms) (sent : List Sent) (count : ℕ) (text : List ℕ) → count ≡ length sent
    → IsSection [] count (IsSheetAt history terms sent) [] text → AreSheets history terms (sent_waves sent) (plans_of sent) text
sheets_are history terms sent count text all (middle, are, is) =
    let whole : take count sent ≡ sent = ap (λ (n : ℕ). take n sent) all ∙ take_all sent in
    let grown = subst (λ (s : List Sent). GrowsBy (AreSheets history terms (sent_waves s) (plans_of s)) [] middle) whole
    (first_sheets history terms sent count middle are) in
    subst (AreSheets history terms (sent_waves sent) (plans_of sent)) (sym (is ∙ (append-nil middle ∙ grown.2))) grown.1

-- a wave that went out and has a good plan has a sheet
pub sheets_there : (layout : Layout) (history : History) (terms : Terms) (sent : List Sent) (count : ℕ) → count ≡ length sent
    → ArePlanned layout history.opening terms sent → HaveText (IsSheetAt history terms sent) count
sheets_there layout history terms sent count all planned number within =
    let one = within_some sent number (omega (arith, within, all)) in
    let is = All-at (IsPlanned layout history.opening terms) sent number one.0 planned one.1 in
    let sheet = sheet_of_plan layout history.opening one.0.wave terms is.plan (is_cancelled_later history one.0.wave) is.released is.good in
    (sheet.0, (one.0, one.1, (is.plan, is.there, sheet.1)))

-- so waves that went out have sheets together
pub any_sheets : (layout : Layout) (history : History) (terms : Terms) (sent : List Sent) → ArePlanned layout history.opening terms sent
    → (sheets : List ℕ) × AreSheets history terms (sent_waves sent) (plans_of sent) sheets
any_sheets layout history terms [] planned = ([], refl)
any_sheets layout history terms (one ∷ sent) planned =
    let is = All-head (IsPlanned layout history.opening terms) one sent planned in
    let first = sheet_of_plan layout history.opening one.wave terms is.plan (is_cancelled_later history one.wave) is.released is.good in
    let others = any_sheets layout history terms sent (All-tail (IsPlanned layout history.opening terms) one sent planned) in
    rw is.there (first.0 ++ others.0, (first.0, others.0, first.1, others.1, refl))
