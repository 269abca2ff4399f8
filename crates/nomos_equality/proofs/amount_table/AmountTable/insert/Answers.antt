use Rattle.std.proofs.Common.{◌≡◌, ℕ, List, Bool, Contains, subst, true, false, sym, ap, ◌∙◌, refl, map, is_some, ◌++◌, ◌∷◌, []}
use Rattle.std.specs.Map.{lookup}
use Rattle.std.proofs.lemmas.List.{map-append}
use Rattle.std.proofs.lemmas.List.Elements.{All-push}
use Rattle.indexmap.specs.IndexMap.{insert_entry}
use Rattle.nomos_ir.specs.declared.amount.Amount.{Amount}
use Rattle.nomos_equality.specs.mirror.PairTables.{pair_key, HasKeys}
use Rattle.nomos_equality.proofs.TableLemmas.{keys_eq, keys-exact, keys-same, pairs-apart, found-item, absent-item, put-last}
use Rattle.nomos_equality.proofs.amount_table.AmountTable.insert.Goals as goal

abbrev Key : Type 0
Key = (Bool × ℕ) × (Bool × ℕ)

abbrev Entries : Type 0
Entries = List (Key × (Amount × Amount))

-- an absent item is put at the end
put-absent : (es made : Entries) (x : Amount × Amount) (key : Key) (old : List (Amount × Amount)) → HasKeys es
    → map (λ e. e.1) es ≡ old → key ≡ pair_key x → is_some (lookup (keys_eq key) es) ≡ false
    → made ≡ insert_entry keys_eq es key x → HasKeys made × (¬ (Contains old x)) × (map (λ e. e.1) made ≡ old ++ x ∷ [])
put-absent es made x key old keyed view is absent kept =
    let out : is_some (lookup (keys_eq (pair_key x)) es)
    ≡ false = subst (λ (k : Key). is_some (lookup (keys_eq k) es) ≡ false) is absent in
    let last : made ≡ es ++ (pair_key x, x) ∷ [] =
    subst (λ (k : Key). made ≡ insert_entry keys_eq es k x) is kept
    ∙ put-last keys_eq keys-exact keys-same pair_key pairs-apart x es out
    in (
      subst HasKeys (sym last) (All-push (λ (e : Key × (Amount × Amount)). e.0 ≡ pair_key e.1) es (pair_key x, x) keyed
          refl),
      subst (λ (xs : List (Amount × Amount)). ¬ (Contains xs x)) view
          (absent-item keys_eq keys-exact keys-same pair_key pairs-apart x es keyed out),
      ap (map (λ e. e.1)) last ∙ map-append (λ e. e.1) es ((pair_key x, x) ∷ [])
          ∙ ap (λ (xs : List (Amount × Amount)). xs ++ x ∷ []) view,
    )

put-found : (es : Entries) (x : Amount × Amount) (key : Key) (old : List (Amount × Amount)) → HasKeys es
    → map (λ e. e.1) es ≡ old → key ≡ pair_key x → is_some (lookup (keys_eq key) es) ≡ true → Contains old x
put-found es x key old keyed view is found =
    let inside : is_some (lookup (keys_eq (pair_key x)) es)
    ≡ true = subst (λ (k : Key). is_some (lookup (keys_eq k) es) ≡ true) is found in
    subst (λ (xs : List (Amount × Amount)). Contains xs x) view
    (found-item keys_eq keys-exact keys-same pair_key pairs-apart x es keyed inside)

pub returns-then-contains_key-clause-ok : goal.returns-then-contains_key-clause-ok
returns-then-contains_key-clause-ok c = (
  put-found c.self.inside.pairs.entries (c.args.left, c.args.right) c.pair_key-key.result c.args.self.now
      c.self.invariant c.self.view_is c.pair_key-key.ensures (sym c.contains_key.ensures ∙ c.if-contains_key.true),
  refl,
)

pub invariant_of-self-2 : goal.invariant_of-self-2
invariant_of-self-2 c =
    (put-absent c.self.inside.pairs.entries c.insert.new.self.entries (c.args.left, c.args.right) c.pair_key-key.result
    c.args.self.now c.self.invariant c.self.view_is c.pair_key-key.ensures
    (sym c.contains_key.ensures ∙ c.if-contains_key.false) c.in_ok-insert.ensures.entries).0

pub returns-clause-ok : goal.returns-clause-ok
returns-clause-ok c =
    let p = put-absent c.self.inside.pairs.entries c.insert.new.self.entries (c.args.left, c.args.right)
    c.pair_key-key.result c.args.self.now c.self.invariant c.self.view_is c.pair_key-key.ensures
    (sym c.contains_key.ensures ∙ c.if-contains_key.false) c.in_ok-insert.ensures.entries in
    (p.1, p.2)
