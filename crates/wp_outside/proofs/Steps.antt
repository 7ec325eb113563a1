-- Steps of writing, one after the other.
use Rattle.std.proofs.Common.{◌≡◌, ◌∙◌, refl, sym, ap, subst, ℕ, ◌+◌, List, [], ◌++◌, append_assoc, append-nil, Result}
use Rattle.std.proofs.lemmas.Result.{err_from_is_err_and}
use Rattle.std.specs.Result.{IfErr, IsErrAnd}
use Rattle.wp_outside.specs.Outside.{Grows, SinkTold, TookPart, TookPrefix}
use Rattle.wp_outside.specs.declared.sink.SinkFault.{SinkFault}
use Rattle.wp_outside.specs.declared.sink.SinkFault.TheVariants.{Memory}
use Rattle.wp_outside.proofs.Taking.{Grows-append, Grows-nothing, TookPrefix-first, TookPrefix-nothing, TookPrefix-second}
use Rattle.wp_outside.specs.Writing.{Fails, Writes}
use Rattle.wp_outside.proofs.Taking.{TookPart-first, TookPart-second}

-- a text that is added to what waits is written by no sink yet
pub Writes-waiting : (told : SinkTold) (waited text : List ℕ) → Writes told told waited (waited ++ text) text
Writes-waiting told waited text = record {
  written = [];
  all = refl;
  took = Grows-nothing told.taken;
  faults = refl;
  stopped = refl;
  early = λ _. refl;
}

-- nothing to be written
pub Writes-nothing : (told : SinkTold) (waited : List ℕ) → Writes told told waited waited []
Writes-nothing told waited = subst (λ (waits : List ℕ). Writes told told waited waits []) (append-nil waited) (Writes-waiting told waited [])

-- one step and then another write both texts
pub Writes-then : (one two three : SinkTold) (waited between waits first second : List ℕ) → Writes one two waited between first
    → Writes two three between waits second → Writes one three waited waits (first ++ second)
Writes-then one two three waited between waits first second a b = record {
  written = a.written ++ b.written;
  all = append_assoc a.written b.written waits ∙ (ap (λ (text : List ℕ). a.written ++ text) b.all ∙ (sym (append_assoc a.written between second)
      ∙ (ap (λ (text : List ℕ). text ++ second) a.all ∙ append_assoc waited first second)));
  took = Grows-append one.taken two.taken three.taken a.written b.written a.took b.took;
  faults = b.faults ∙ a.faults;
  stopped = b.stopped ∙ a.stopped;
  early = λ none. b.early (a.stopped ∙ none) ∙ a.early none;
}

-- where nothing waited and nothing waits, the sink took the whole text
pub Writes-whole : (old new : SinkTold) (text : List ℕ) → Writes old new [] [] text → Grows old.taken new.taken text
Writes-whole old new text a = subst (Grows old.taken new.taken) (sym (append-nil a.written) ∙ a.all) a.took

-- there was no memory for a text, of which nothing was taken
pub Fails-memory : (told : SinkTold) (text : List ℕ) → Fails Memory told told text
Fails-memory told text = record {
  prefix = TookPrefix-nothing told.taken text;
  part = λ failed. absurd (cc failed);
  counted = λ failed. absurd (cc failed);
  uncounted = λ _. refl;
  early = λ _. refl;
}

-- a step that fails fails in each longer text
pub Fails-longer : (fault : SinkFault) (old new : SinkTold) (text more : List ℕ) → Fails fault old new text → Fails fault old new (text ++ more)
Fails-longer fault old new text more a = record {
  prefix = TookPrefix-first old.taken new.taken text more a.prefix;
  part = λ failed. TookPart-first old.taken new.taken text more (a.part failed);
  counted = a.counted;
  uncounted = a.uncounted;
  early = a.early;
}

-- the same, where some waited before the text
pub Fails-before : (fault : SinkFault) (old new : SinkTold) (waited text more : List ℕ) → Fails fault old new (waited ++ text)
    → Fails fault old new (waited ++ (text ++ more))
Fails-before fault old new waited text more a =
    subst (Fails fault old new) (append_assoc waited text more) (Fails-longer fault old new (waited ++ text) more a)

-- a step that goes well, and then one that fails, fail in both texts
pub Fails-then : (fault : SinkFault) (one two three : SinkTold) (waited between first second : List ℕ) → Writes one two waited between first
    → Fails fault two three (between ++ second) → Fails fault one three (waited ++ (first ++ second))
Fails-then fault one two three waited between first second a b =
    let both : a.written ++ (between ++ second) ≡ waited ++ (first ++ second) =
    sym (append_assoc a.written between second) ∙ (ap (λ (text : List ℕ). text ++ second) a.all ∙ append_assoc waited first second) in record {
      prefix = subst (TookPrefix one.taken three.taken) both
          (TookPrefix-second one.taken two.taken three.taken a.written (between ++ second) a.took b.prefix);
      part = λ failed. subst (TookPart one.taken three.taken) both
          (TookPart-second one.taken two.taken three.taken a.written (between ++ second) a.took (b.part failed));
      counted = λ failed. b.counted failed ∙ ap (λ (n : ℕ). n + 1) a.faults;
      uncounted = λ other. b.uncounted other ∙ a.faults;
      early = λ none. b.early (a.stopped ∙ none) ∙ a.early none;
    }

-- what holds of a fault holds of what a step gives that passes it on
pub passed_on : {T : Type 0} (given : Result T SinkFault) (fault : SinkFault) (Q : SinkFault → Type 0) → IsErrAnd given (λ other. other ≡ fault) → Q fault
    → IfErr given Q
passed_on given fault Q same holds =
    let failed = err_from_is_err_and given same in
    rw failed.1 (subst Q (sym failed.2) holds)
