use Rattle.std.proofs.Common.{◌≡◌, ◌∙◌, ap, ℕ, List, [], ◌∷◌, ◌++◌, append_assoc, length}
use Rattle.std.specs.Fmt.{decimal}
use Rattle.std.specs.Prelude.{codes}
use Rattle.wp_outgoing.specs.Lines.{greatest_rank, least_rank, wave_told}
use Rattle.wp_waves.specs.declared.open_orders.OpenOrder.{OpenOrder}
use Rattle.wp_outgoing.proofs.Written.{told}
use Rattle.wp_outgoing.proofs.lines.append_wave.Goals as goal

-- the words of a wave's line
words : (old new name : List ℕ) (a b c d e : List ℕ)
    → new ≡ old ++ (codes "wave " ++ (name ++ (codes " orders " ++ (a ++ (codes " ranks " ++ (b ++ (codes " " ++ (c ++ (codes " start " ++ (d ++ e))))))))))
    → new ≡ old ++ ((codes "wave" ++ (32 ∷ name) ++ codes " orders" ++ (32 ∷ a) ++ codes " ranks" ++ (32 ∷ b) ++ (32 ∷ c) ++ codes " start" ++ (32 ∷ d)) ++ e)
words old new name a b c d e is = is ∙ simp append_assoc

pub returns : goal.returns
returns c =
    let wave = c.args.wave.now in
    let old = c.args.text.now.items in
    told c.writeln.result _ c.or.result c.or.ensures c.writeln.ensures.bytes (λ is.
    words old c.writeln.new.self.items wave.name (decimal (length c.as_slice-orders.result.now)) (decimal c.least_rank-least.result)
    (decimal c.greatest_rank-greatest.result) (decimal wave.start) (10 ∷ []) is
    ∙ (ap (λ (n : ℕ). old ++ wave_told wave.name n c.least_rank-least.result c.greatest_rank-greatest.result wave.start)
    (ap (λ (l : List OpenOrder). length l) c.as_slice-orders.ensures.value)
    ∙ (ap (λ (n : ℕ). old ++ wave_told wave.name (length wave.orders.items) n c.greatest_rank-greatest.result wave.start)
    (c.least_rank-least.ensures ∙ ap least_rank c.as_slice-orders.ensures.value)
    ∙ ap (λ (n : ℕ). old ++ wave_told wave.name (length wave.orders.items) (least_rank wave.orders.items) n wave.start)
    (c.greatest_rank-greatest.ensures ∙ ap greatest_rank c.as_slice-orders.ensures.value))))
