-- The load, with one bidder more.
use Rattle.std.proofs.Common.{◌≡◌, ℕ, ◌+◌, List, ◌++◌, refl, ap, ◌∙◌, append_assoc, add-one}
use Rattle.nomos_words.specs.BenchLoad.{bid, bidder_lines, bidders_lines, drawn_at, next_draw}

pub drawn_at-more : (seed k : ℕ) → drawn_at seed (k + 1) ≡ next_draw (drawn_at seed k)
drawn_at-more seed k = rw (add-one k) refl

pub bidders_lines-more : (seed k : ℕ)
    → bidders_lines seed (k + 1) ≡ bidders_lines seed k ++ bidder_lines (k + 1) (bid seed (k + 1))
bidders_lines-more seed k = rw (add-one k) refl

-- three texts that are appended one after another
pub three_appended : (t u v w a b c : List ℕ) → u ≡ t ++ a → v ≡ u ++ b → w ≡ v ++ c → w ≡ t ++ ((a ++ b) ++ c)
three_appended t u v w a b c ua vb wc =
    wc ∙ ap (λ x. x ++ c) (vb ∙ ap (λ x. x ++ b) ua ∙ append_assoc t a b) ∙ append_assoc t (a ++ b) c
