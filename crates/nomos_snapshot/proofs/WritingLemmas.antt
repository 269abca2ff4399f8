-- Words that are written one behind another.
use Rattle.std.proofs.Common.{◌≡◌, ℕ, ◌+◌, ◌<◌, List, [], ◌∷◌, ◌++◌, length, map, take, get_or, refl, sym, ◌∙◌, ap, append_assoc}
use Rattle.std.proofs.lemmas.List.{map-append, take_more}
use Rattle.nomos_snapshot.specs.LineWords.{joined}

-- a word more
joined-more : (first : List ℕ) (ws : List (List ℕ)) (w : List ℕ)
    → joined (first ∷ (ws ++ w ∷ [])) ≡ joined (first ∷ ws) ++ 32 ∷ w
joined-more first [] w = refl
joined-more first (u ∷ ws) w =
    ap (λ (t : List ℕ). first ++ 32 ∷ t) (joined-more u ws w)
    ∙ sym (append_assoc first (32 ∷ joined (u ∷ ws)) (32 ∷ w))

-- is written behind those before it
pub word-written : {W : Type 0} (text_of : W → List ℕ) (old text blank new first : List ℕ) (words : List W) (i : ℕ)
    (w : W)
    → i < length words → w ≡ get_or words i w → text ≡ old ++ joined (first ∷ map text_of (take i words))
    → blank ≡ text ++ 32 ∷ [] → new ≡ blank ++ text_of w
    → new ≡ old ++ joined (first ∷ map text_of (take (i + 1) words))
word-written {W = W} text_of old text blank new first words i w within item before blank_is new_is =
    let ws = map text_of (take i words) in
    let more : map text_of (take (i + 1) words) ≡ ws ++ text_of w ∷ [] =
    ap (map text_of) (take_more words i w within ∙ ap (λ (x : W). take i words ++ x ∷ []) (sym item))
    ∙ map-append text_of (take i words) (w ∷ []) in
    new_is ∙ ap (λ (t : List ℕ). t ++ text_of w) (blank_is ∙ ap (λ (t : List ℕ). t ++ 32 ∷ []) before)
    ∙ append_assoc (old ++ joined (first ∷ ws)) (32 ∷ []) (text_of w)
    ∙ append_assoc old (joined (first ∷ ws)) (32 ∷ text_of w)
    ∙ ap (λ (t : List ℕ). old ++ t) (sym (joined-more first ws (text_of w)))
    ∙ ap (λ (vs : List (List ℕ)). old ++ joined (first ∷ vs)) (sym more)
