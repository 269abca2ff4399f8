-- Items one after another, as a loop reads them.
use Rattle.std.proofs.Common.{◌≡◌, ℕ, suc, ◌+◌, ◌-◌, ◌<◌, ◌≤◌, Bool, true, false, List, [], ◌∷◌, ◌++◌, map, Option, refl, sym, ap, ◌∙◌, arith}
use Rattle.nomos_reader.specs.mirror.Front.{Reader, front_at, front_kind, is_comma, is_list, is_list_end, read_lists, read_parted, read_until, rest_of}
use Rattle.nomos_syntax.specs.declared.token.TokenKind.{TokenKind}
use Rattle.nomos_syntax.specs.Lexeme.{Placed}

-- what is mapped behind the others
pub mapped-end : {X A : Type 0} (f : X → A) (xs : List X) (x : X) → map f (xs ++ x ∷ []) ≡ map f xs ++ f x ∷ []
mapped-end f [] x = refl
mapped-end f (y ∷ xs) x = ap (λ l. f y ∷ l) (mapped-end f xs x)

module _ {X A : Type 0} (f : X → A) (item : Reader A) (between : Option TokenKind → Bool) (n i : ℕ) (xs : List X)
    (tokens : List Placed)
    (total : List A × List Placed) where
  pub last_item : (x : X) (rest : List Placed) (ys : List X) → i < n → (f x, rest) ≡ item tokens
      → between (front_kind rest) ≡ false → ys ≡ xs ++ x ∷ [] →
      read_parted item between (n - i) (map f xs) tokens ≡ total → (map f ys, rest) ≡ total
  unfolding read_parted
  last_item x rest ys lt read ends pushed so_far =
      let k : n - i ≡ suc (n - (i + 1)) = omega arith in
      let one : read_parted item between (n - i) (map f xs) tokens
      ≡ (map f xs ++ f x ∷ [], rest) = rw (k, ← read, ends) refl in
      rw (pushed, mapped-end f xs x) (sym one ∙ so_far)

  pub next_item : (x : X) (rest : List Placed) (ys : List X) (others : List Placed) → i < n → (f x, rest) ≡ item tokens
      → between (front_kind rest) ≡ true →
      ys ≡ xs ++ x ∷ [] → others ≡ rest_of rest →
      read_parted item between (n - i) (map f xs) tokens ≡ total
      → read_parted item between (n - (i + 1)) (map f ys) others ≡ total
  unfolding read_parted
  next_item x rest ys others lt read goes_on pushed left so_far =
      let k : n - i ≡ suc (n - (i + 1)) = omega arith in
      let one : read_parted item between (n - i) (map f xs) tokens
      ≡ read_parted item between (n - (i + 1)) (map f xs ++ f x ∷ []) (rest_of rest) = rw (k, ← read, goes_on)
      refl in
      rw (pushed, left, mapped-end f xs x) (sym one ∙ so_far)

  pub no_item : n ≤ i → read_parted item between (n - i) (map f xs) tokens ≡ total → (map f xs, tokens) ≡ total
  unfolding read_parted
  no_item le so_far =
      let k : n - i ≡ 0 = omega arith in
      let one : read_parted item between (n - i) (map f xs) tokens ≡ (map f xs, tokens) = rw k refl in
      sym one ∙ so_far

-- the same of items that are read as they are

module _ {A : Type 0} (item : Reader A) (between : Option TokenKind → Bool) (n i : ℕ) (xs : List A)
    (tokens : List Placed)
    (total : List A × List Placed) where
  pub last_plain : (x : A) (rest : List Placed) (ys : List A) → i < n → (x, rest) ≡ item tokens
      → between (front_kind rest) ≡ false →
      ys ≡ xs ++ x ∷ [] → read_parted item between (n - i) xs tokens ≡ total → (ys, rest) ≡ total
  unfolding read_parted
  last_plain x rest ys lt read ends pushed so_far =
      let k : n - i ≡ suc (n - (i + 1)) = omega arith in
      let one : read_parted item between (n - i) xs tokens ≡ (xs ++ x ∷ [], rest) = rw (k, ← read, ends) refl in
      rw pushed (sym one ∙ so_far)

  pub next_plain : (x : A) (rest : List Placed) (ys : List A) (others : List Placed) → i < n → (x, rest) ≡ item tokens →
      between (front_kind rest) ≡ true → ys ≡ xs ++ x ∷ [] → others ≡ rest_of rest →
      read_parted item between (n - i) xs tokens ≡ total → read_parted item between (n - (i + 1)) ys others ≡ total
  unfolding read_parted
  next_plain x rest ys others lt read goes_on pushed left so_far =
      let k : n - i ≡ suc (n - (i + 1)) = omega arith in
      let one : read_parted item between (n - i) xs tokens
      ≡ read_parted item between (n - (i + 1)) (xs ++ x ∷ []) (rest_of rest) =
      rw (k, ← read, goes_on) refl in
      rw (pushed, left) (sym one ∙ so_far)

  pub no_plain : n ≤ i → read_parted item between (n - i) xs tokens ≡ total → (xs, tokens) ≡ total
  unfolding read_parted
  no_plain le so_far =
      let k : n - i ≡ 0 = omega arith in
      let one : read_parted item between (n - i) xs tokens ≡ (xs, tokens) = rw k refl in
      sym one ∙ so_far

-- one more word `list`
pub more_lists : (lists : List ℕ) (tokens : List Placed) → is_list (front_kind tokens) ≡ true →
    read_lists lists tokens ≡ read_lists (lists ++ front_at tokens ∷ []) (rest_of tokens)
unfolding read_lists
more_lists lists [] e = cc
more_lists lists (x ∷ rest) e = rw e refl

-- no more words `list`
pub no_lists : (lists : List ℕ) (tokens : List Placed) → is_list (front_kind tokens) ≡ false
    → read_lists lists tokens ≡ (lists, tokens)
unfolding read_lists
no_lists lists [] e = refl
no_lists lists (x ∷ rest) e = rw e refl

-- no items before the end of their list
pub until_none : {A : Type 0} (item : Reader A) (n : ℕ) (tokens : List Placed) → is_list_end (front_kind tokens) ≡ true
    →
    read_until item n tokens ≡ ([], tokens)
unfolding read_until
until_none item n tokens e = rw e refl

-- one item or more
pub until_some : {A : Type 0} (item : Reader A) (n : ℕ) (tokens : List Placed) → is_list_end (front_kind tokens) ≡ false
    →
    read_until item n tokens ≡ read_parted item is_comma n [] tokens
unfolding read_until
until_some item n tokens e = rw e refl
