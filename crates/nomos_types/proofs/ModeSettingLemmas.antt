-- Setting modes one after another in a table.
use Rattle.std.proofs.Common.{◌≡◌, ◌<◌, ℕ, ◌+◌, List, [], ◌∷◌, ◌++◌, map, take, length, get_or, refl, sym, ap, ◌∙◌, append-nil}
use Rattle.std.specs.Prelude.{slice_set}
use Rattle.std.specs.List.{flat_map}
use Rattle.std.proofs.lemmas.List.{take_more, map_more, length-set}
use Rattle.std.proofs.lemmas.Grind.{flat_map-append}
use Rattle.nomos_ir.specs.declared.ids.TypeId.{TypeId}
use Rattle.nomos_ir.specs.declared.mode.Mode.{Mode}
use Rattle.nomos_types.specs.mirror.ModeSetting.{with_modes}

-- modes that are set after others
pub with_modes-append : (ps qs : List (TypeId × Mode)) (modes : List Mode)
    → with_modes (ps ++ qs) modes ≡ with_modes qs (with_modes ps modes)
with_modes-append [] qs modes = refl
with_modes-append (p ∷ ps) qs modes = with_modes-append ps qs (slice_set modes p.0.0 p.1)

-- one more item of a list that is mapped to modes
pub with_modes-more : {X : Type 0} (f : X → TypeId × Mode) (xs : List X) (i : ℕ) (d : X) (modes : List Mode)
    → i < length xs → with_modes (map f (take (i + 1) xs)) modes
    ≡ with_modes (f (get_or xs i d) ∷ []) (with_modes (map f (take i xs)) modes)
with_modes-more f xs i d modes inside =
    ap (λ ps. with_modes ps modes) (map_more f xs i d inside)
    ∙ with_modes-append (map f (take i xs)) (f (get_or xs i d) ∷ []) modes

-- the same, of an item that stands there
pub with_modes-more_item : {X : Type 0} (f : X → TypeId × Mode) (xs : List X) (i : ℕ) (x : X) (modes : List Mode)
    → x ≡ get_or xs i x → i < length xs
    → with_modes (map f (take (i + 1) xs)) modes ≡ with_modes (f x ∷ []) (with_modes (map f (take i xs)) modes)
with_modes-more_item f xs i x modes is_there inside =
    with_modes-more f xs i x modes inside
    ∙ ap (λ y. with_modes (f y ∷ []) (with_modes (map f (take i xs)) modes)) (sym is_there)

-- one more item of a list that each gives several modes
pub with_modes-more_each : {X : Type 0} (f : X → List (TypeId × Mode)) (xs : List X) (i : ℕ) (x : X) (modes : List Mode)
    → x ≡ get_or xs i x → i < length xs
    → with_modes (flat_map f (take (i + 1) xs)) modes ≡ with_modes (f x) (with_modes (flat_map f (take i xs)) modes)
with_modes-more_each f xs i x modes is_there inside =
    let taken : flat_map f (take (i + 1) xs) ≡ flat_map f (take i xs) ++ f (get_or xs i x) =
    ap (flat_map f) (take_more xs i x inside)
    ∙ flat_map-append f (take i xs) (get_or xs i x ∷ [])
    ∙ ap (λ ys. flat_map f (take i xs) ++ ys) (append-nil (f (get_or xs i x)))
    in
    ap (λ ps. with_modes ps modes) taken
    ∙ with_modes-append (flat_map f (take i xs)) (f (get_or xs i x)) modes
    ∙ ap (λ y. with_modes (f y) (with_modes (flat_map f (take i xs)) modes)) (sym is_there)

-- a table keeps its length
pub length-with_modes : (ps : List (TypeId × Mode)) (modes : List Mode) → length (with_modes ps modes) ≡ length modes
length-with_modes [] modes = refl
length-with_modes (p ∷ ps) modes = length-with_modes ps (slice_set modes p.0.0 p.1) ∙ length-set modes p.0.0 p.1
