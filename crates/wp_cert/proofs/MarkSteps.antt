-- Steps of a visit, as the marks are read one by one.
use Rattle.std.proofs.Common.{◌≡◌, ℕ, suc, ◌+◌, Bool, List, ◌∷◌, drop, arith, ap, ◌∙◌, ⊎_elim, ◌⊎◌}
use Rattle.std.specs.Prelude.{Some, slice_get}
use Rattle.std.proofs.Math.Seq.{drop-cons}
use Rattle.std.proofs.lemmas.Option.{get_or_from_slice_get, slice_get_within}
use Rattle.wp_pairs.specs.Permitted.{IsPermitted, Pairing}
use Rattle.wp_cert.specs.declared.tree.CertWhy.{CertWhy}
use Rattle.wp_cert.specs.declared.tree.CertWhy.TheVariants as why
use Rattle.wp_cert.specs.Refusals.{IsRefusedVisit}
use Rattle.wp_cert.specs.Terms.{Terms}
use Rattle.wp_cert.specs.Trees.{IsMarkedVisit}
use Rattle.wp_cert.specs.declared.tree.Own.{Own}
use Rattle.wp_lengths.specs.Visits.{AddsItem, Children, Due, IsItem, Place, TooMuch, Visit, Wrong}
use Rattle.wp_cuts.specs.PricedVisits.{no_item, not_permitted, refused_batch, refused_mark}

-- the marks from a place on begin with the mark there
pub mark_first : (marks : List Bool) (next : ℕ) (mark : Bool) → slice_get marks next ≡ Some mark → drop next marks ≡ mark ∷ drop (next + 1) marks
mark_first marks next mark is =
    let within = slice_get_within marks next mark is in
    let e : suc next ≡ next + 1 = omega arith in
    drop-cons marks next mark within
    ∙ (ap (λ (m : Bool). m ∷ drop (suc next) marks) (get_or_from_slice_get marks next mark mark is) ∙ ap (λ (k : ℕ). mark ∷ drop k marks) e)

-- what follows for one visit follows for its refusal
pub refused_so : (terms : Terms) (pairing : Pairing) (own : Own) (due then : Due) (marks from_there : List Bool) (fault : CertWhy)
    → ((visit : Visit) → IsMarkedVisit terms pairing own due marks visit → IsMarkedVisit terms pairing own then from_there visit)
    → IsRefusedVisit terms pairing own due marks fault → IsRefusedVisit terms pairing own then from_there fault
refused_so terms pairing own due then marks from_there (why.NotFeasible batch) so refused = so (TooMuch batch) refused
refused_so terms pairing own due then marks from_there why.BadMarks so refused = so Wrong refused
refused_so terms pairing own due then marks from_there _ so refused = absurd refused

-- a child that is refused ends the visit of the children
pub refused_child : (terms : Terms) (pairing : Pairing) (own : Own) (place batch : List ℕ) (from : ℕ) (marks : List Bool) (fault : CertWhy) → IsItem pairing from
    → AddsItem pairing place from batch → IsPermitted pairing batch → IsRefusedVisit terms pairing own (Place batch (from + 1)) marks fault
    → IsRefusedVisit terms pairing own (Children place from) marks fault
refused_child terms pairing own place batch from marks (why.NotFeasible most) item adds permitted refused = refused_batch item adds permitted refused
refused_child terms pairing own place batch from marks why.BadMarks item adds permitted refused = refused_mark item adds permitted refused
refused_child terms pairing own place batch from marks _ item adds permitted refused = absurd refused

-- an item that makes no child is passed over
pub passed_over : (terms : Terms) (pairing : Pairing) (own : Own) (place : List ℕ) (from : ℕ) (marks : List Bool) (visit : Visit)
    → ((IsItem pairing from → ⊥) ⊎ ((batch : List ℕ) × AddsItem pairing place from batch × (IsPermitted pairing batch → ⊥)))
    → IsMarkedVisit terms pairing own (Children place (from + 1)) marks visit → IsMarkedVisit terms pairing own (Children place from) marks visit
passed_over terms pairing own place from marks visit none rest =
    ⊎_elim (λ never. no_item never rest) (λ union. not_permitted {batch = union.0} union.1 union.2 rest) none
