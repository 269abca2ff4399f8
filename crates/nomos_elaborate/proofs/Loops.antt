-- What holds of a loop over a list that gives something for each item.
use Rattle.std.proofs.Common.{◌≡◌, ℕ, ◌+◌, ◌<◌, ◌≤◌, List, [], ◌∷◌, ◌++◌, length, map, take, drop, get_or, refl, sym, ap, ◌∙◌}
use Rattle.std.proofs.lemmas.List.{drop_more, take_all, take_more, take-append-drop}
use Rattle.nomos_elaborate.specs.declared.elab_error.ElabError.{ElabError}
use Rattle.nomos_elaborate.specs.declared.elab_error.ElabError.TheVariants as stop
use Rattle.nomos_elaborate.specs.mirror.Checked.{Checked, found, broken, Stops, ◌>>=◌}
use Rattle.nomos_elaborate.specs.mirror.Each.{each}

-- what comes behind what was given, and one more thing ahead
abbrev pub behind : {W Y : Type 0} → List Y → Checked (W × List Y) → Checked (W × List Y)
behind ys rest = do
  b ← rest
  found (b.0, ys ++ b.1)

abbrev pub ahead : {W Y : Type 0} → Y → W × List Y → Checked (W × List Y)
ahead y b = found (b.0, y ∷ b.1)

-- the items that are left begin with this one
pub items-left : {X : Type 0} (xs : List X) (i : ℕ) (x : X) → i < length xs → x ≡ get_or xs i x
    → drop i xs ≡ x ∷ drop (i + 1) xs
items-left xs i x below item = drop_more xs i x below ∙ ap (λ v. v ∷ drop (i + 1) xs) (sym item)

module _ {W X Y : Type 0} (check : W → X → Checked (W × Y)) where
  -- what is given for more items, behind what was given
  abbrev then_each : List X → W × List Y → Checked (W × List Y)
  then_each more a = behind a.1 (each check a.0 more)

  -- two lists in a row
  pub each-append : (w : W) (xs more : List X) → each check w (xs ++ more) ≡ (each check w xs >>= then_each more)
  unfolding each
  each-append w [] more = by (each check w more)
    where
      by : (c : Checked (W × List Y)) → c ≡ behind [] c
      by (found b) = refl
      by (broken at) = refl
  each-append w (x ∷ xs) more = by (check w x) (λ v. each-append v xs more)
    where
      last : (y : Y) (ys : List Y) (c : Checked (W × List Y)) → (behind ys c >>= ahead y) ≡ behind (y ∷ ys) c
      last y ys (found b) = refl
      last y ys (broken at) = refl

      inner : (y : Y) (c : Checked (W × List Y))
          → ((c >>= then_each more) >>= ahead y) ≡ ((c >>= ahead y) >>= then_each more)
      inner y (found a) = last y a.1 (each check a.0 more)
      inner y (broken at) = refl

      by : (c : Checked (W × Y)) → ((v : W) → each check v (xs ++ more) ≡ (each check v xs >>= then_each more))
          → (c >>= (λ a. each check a.0 (xs ++ more) >>= ahead a.1))
          ≡ ((c >>= (λ a. each check a.0 xs >>= ahead a.1)) >>= then_each more)
      by (found a) ih = ap (λ d. d >>= ahead a.1) (ih a.0) ∙ inner a.1 (each check a.0 xs)
      by (broken at) ih = refl

  module _ (first : W) (xs : List X) (i : ℕ) (w : W) (ys : List Y) (x : X) (below : i < length xs)
      (item : x ≡ get_or xs i x) (held : each check first (take i xs) ≡ found (w, ys)) where
    front : take (i + 1) xs ≡ take i xs ++ x ∷ []
    front = take_more xs i x below ∙ ap (λ v. take i xs ++ v ∷ []) (sym item)

    -- one more item
    pub each-more : (v : W) (y : Y) → check w x ≡ found (v, y)
        → each check first (take (i + 1) xs) ≡ found (v, ys ++ y ∷ [])
    unfolding each
    each-more v y e = ap (each check first) front ∙ each-append first (take i xs) (x ∷ []) ∙ rw (held, e) refl

    -- an item with a broken claim, or no memory
    pub each-stop : (at : ℕ) → check w x ≡ broken at → each check first xs ≡ broken at
    unfolding each
    each-stop at e =
        let whole : take (i + 1) xs ++ drop (i + 1) xs ≡ xs = take-append-drop (i + 1) xs in
        let begun : each check first (take (i + 1) xs)
        ≡ broken at = ap (each check first) front ∙ each-append first (take i xs) (x ∷ []) ∙ rw (held, e) refl in
        ap (each check first) (sym whole) ∙ each-append first (take (i + 1) xs) (drop (i + 1) xs) ∙ rw begun refl

    pub each-stops : (e : ElabError) (c : Checked (W × List Y)) → c ≡ each check first xs → Stops e (check w x)
        → Stops e c
    each-stops (stop.Name at) c is h = is ∙ each-stop at h
    each-stops (stop.Cost at) c is h = absurd h
    each-stops stop.NoMemory c is h = tt

  -- no more items
  pub each-all : (first : W) (xs : List X) (i : ℕ) (c : Checked (W × List Y)) → length xs ≤ i
      → each check first (take i xs) ≡ c → each check first xs ≡ c
  each-all first xs i c all held = ap (each check first) (sym (take_all i xs all)) ∙ held

-- a list of what others show
module _ {W X Z Y : Type 0} (check : W → Z → Checked (W × Y)) (shown : X → Z) where
  pub each-map : (w : W) (xs : List X) → each check w (map shown xs) ≡ each (λ v x. check v (shown x)) w xs
  unfolding each
  each-map w [] = refl
  each-map w (x ∷ xs) = by (check w (shown x)) (λ v. each-map v xs)
    where
      by : (c : Checked (W × Y)) → ((v : W) → each check v (map shown xs) ≡ each (λ v x. check v (shown x)) v xs)
          → (c >>= (λ a. each check a.0 (map shown xs) >>= ahead a.1))
          ≡ (c >>= (λ a. each (λ v x. check v (shown x)) a.0 xs >>= ahead a.1))
      by (found a) ih = ap (λ d. d >>= ahead a.1) (ih a.0)
      by (broken at) ih = refl
