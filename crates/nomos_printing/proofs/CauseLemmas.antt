-- Causes that are read behind their first word.
use Rattle.std.proofs.Common.{◌≡◌, ◌≢◌, ℕ, ◌<◌, ◌^◌, List, ◌∷◌, ◌++◌, drop, get_or, subst, Option, Some, None, IfSome, refl, sym, ◌∙◌, ap, arith, append_assoc, IsTrue}
use Rattle.std.specs.Prelude.{codes}
use Rattle.std.proofs.lemmas.Bool.{false≢true}
use Rattle.std.proofs.lemmas.List.Elements.{All-weaker}
use Rattle.nomos_base.specs.Gas.{gas_text}
use Rattle.nomos_ir.specs.Name.{is_word_byte}
use Rattle.nomos_script.specs.ScriptNames.{IsScriptName}
use Rattle.nomos_legal.specs.declared.refusal.Refusal.{Refusal}
use Rattle.nomos_legal.specs.declared.refusal.Refusal.TheVariants as refusal
use Rattle.nomos_printing.specs.declared.cause.Shortage.{Shortage}
use Rattle.nomos_printing.specs.Cause.{cause_text, IsCause}
use Rattle.nomos_printing.specs.Number.{ReadsGas}
use Rattle.nomos_printing.specs.ReadAs.{ReadsAs}
use Rattle.nomos_printing.specs.Splitting.{Lacks, ComesApart}
use Rattle.nomos_printing.specs.mirror.Shortages.{IsShortage, shortage_text}
use Rattle.nomos_printing.proofs.GasLemmas.{Lacks-gas_text}
use Rattle.nomos_printing.proofs.ReadingLaws.{ReadsAs-none}
use Rattle.nomos_printing.proofs.SplittingLaws.{Lacks-apart, ComesApart-parts}

-- a name has no blank
pub Lacks-name : (name : List ℕ) → IsScriptName name → Lacks 32 name
Lacks-name name is =
    All-weaker (λ byte. IsTrue (is_word_byte byte)) (λ byte. byte ≢ 32)
    (λ byte word e. let P : ℕ → Type 0 = λ b. IsTrue (is_word_byte b) in false≢true (subst P e word)) name is.word.each

-- ---- amounts that are short

-- what stands behind the first word
has_parts : (unit : ℕ) (rest : List ℕ) (s : Shortage) → codes "has " ++ rest ≡ shortage_text unit s
    → rest ≡ gas_text s.has unit ++ 32 ∷ (codes "needs " ++ gas_text s.needs unit)
has_parts unit rest s same =
    let behind : rest ≡ (gas_text s.has unit ++ codes " needs ") ++ gas_text s.needs unit = ap (λ t. drop 4 t) same in
    behind ∙ append_assoc (gas_text s.has unit) (codes " needs ") (gas_text s.needs unit)

shortage_parts : (unit : ℕ) → unit < 2 ^ 32 → (rest front back : List ℕ) (s : Shortage) → IsShortage s
    → codes "has " ++ rest ≡ shortage_text unit s → ComesApart 32 rest front back
    → (front ≡ gas_text s.has unit) × (back ≡ codes "needs " ++ gas_text s.needs unit)
shortage_parts unit small rest front back s is same apart =
    ComesApart-parts 32 rest front back (gas_text s.has unit) (codes "needs " ++ gas_text s.needs unit) apart
    (Lacks-gas_text unit s.has small is.0) (has_parts unit rest s same)

-- without a blank behind what there is
pub shortage_whole : (unit : ℕ) → unit < 2 ^ 32 → (text rest : List ℕ) → text ≡ codes "has " ++ rest → Lacks 32 rest
    → ReadsAs IsShortage (shortage_text unit) text None
shortage_whole unit small text rest front lacks =
    ReadsAs-none text (λ s is same.
    let parts = has_parts unit rest s (sym front ∙ same) in
    let lacks' : Lacks 32 (gas_text s.has unit ++ 32 ∷ (codes "needs " ++ gas_text s.needs unit)) =
    rw (← parts) lacks in
    Lacks-apart 32 (gas_text s.has unit) (codes "needs " ++ gas_text s.needs unit) lacks')

-- without what there is
pub shortage_has : (unit : ℕ) → unit < 2 ^ 32 → (text rest front back : List ℕ) → text ≡ codes "has " ++ rest
    → ComesApart 32 rest front back → ReadsGas unit front None → ReadsAs IsShortage (shortage_text unit) text None
shortage_has unit small text rest front back begins apart reads =
    ReadsAs-none text (λ s is same.
    let none = reads.each s.has is.0 (shortage_parts unit small rest front back s is (sym begins ∙ same) apart).0 in
    cc)

-- without the second word
pub shortage_word : (unit : ℕ) → unit < 2 ^ 32 → (text rest front back : List ℕ) → text ≡ codes "has " ++ rest
    → ComesApart 32 rest front back → ((r : List ℕ) → back ≢ codes "needs " ++ r)
    → ReadsAs IsShortage (shortage_text unit) text None
shortage_word unit small text rest front back begins apart other =
    ReadsAs-none text (λ s is same.
    other (gas_text s.needs unit) (shortage_parts unit small rest front back s is (sym begins ∙ same) apart).1)

-- what stands behind the second word
needs_part : (unit : ℕ) → unit < 2 ^ 32 → (rest front back last : List ℕ) (s : Shortage) → IsShortage s
    → codes "has " ++ rest ≡ shortage_text unit s → ComesApart 32 rest front back → back ≡ codes "needs " ++ last
    → last ≡ gas_text s.needs unit
needs_part unit small rest front back last s is same apart behind =
    let parts : codes "needs " ++ last ≡ codes "needs " ++ gas_text s.needs unit =
    sym behind ∙ (shortage_parts unit small rest front back s is same apart).1 in
    ap (λ t. drop 6 t) parts

-- without what is needed
pub shortage_needs : (unit : ℕ) → unit < 2 ^ 32 → (text rest front back last : List ℕ) → text ≡ codes "has " ++ rest
    → ComesApart 32 rest front back → back ≡ codes "needs " ++ last → ReadsGas unit last None
    → ReadsAs IsShortage (shortage_text unit) text None
shortage_needs unit small text rest front back last begins apart behind reads =
    ReadsAs-none text (λ s is same.
    let none = reads.each s.needs is.1 (needs_part unit small rest front back last s is (sym begins ∙ same) apart
    behind) in
    cc)

-- with both
pub shortage_both : (unit : ℕ) → unit < 2 ^ 32 → (text rest front back last : List ℕ) (has needs : ℕ)
    → text ≡ codes "has " ++ rest
    → ComesApart 32 rest front back → back ≡ codes "needs " ++ last → ReadsGas unit front (Some has)
    → ReadsGas unit last (Some needs)
    → ReadsAs IsShortage (shortage_text unit) text (Some (record { has = has; needs = needs }))
shortage_both unit small text rest front back last has needs begins apart behind has_reads needs_reads =
    let here : rest ≡ (gas_text has unit ++ codes " needs ") ++ gas_text needs unit =
    rw (append_assoc, ← has_reads.found.1, ← needs_reads.found.1, apart.joined, behind) refl in
    record {
      found = ((has_reads.found.0, needs_reads.found.0), begins ∙ ap (λ r. codes "has " ++ r) here);
      each = λ s is same.
          let has_is = has_reads.each s.has is.0
          (shortage_parts unit small rest front back s is (sym begins ∙ same) apart).0 in
          let needs_is = needs_reads.each s.needs is.1
          (needs_part unit small rest front back last s is (sym begins ∙ same) apart behind) in
          let a : has ≡ s.has = cc in
          let b : needs ≡ s.needs = cc in
          rw (a, b) refl;
    }

-- ---- an account with too little gas

-- a name and two amounts, with the words between them put together in another order
pub three_parts : (n g h : List ℕ) → (((n ++ codes " has ") ++ g) ++ codes " needs ") ++ h
    ≡ n ++ 32 ∷ (((codes "has " ++ g) ++ codes " needs ") ++ h)
three_parts n g h =
    append_assoc ((n ++ codes " has ") ++ g) (codes " needs ") h
    ∙ append_assoc (n ++ codes " has ") g (codes " needs " ++ h)
    ∙ append_assoc n (codes " has ") (g ++ (codes " needs " ++ h))
    ∙ ap (λ t. n ++ (codes " has " ++ t)) (sym (append_assoc g (codes " needs ") h))

record Lacking (unit : ℕ) (rest : List ℕ) (e : Refusal) : Type 0 where
  name : List ℕ
  has : ℕ
  needs : ℕ
  named : IsScriptName name
  small : IsShortage (record { has = has; needs = needs })
  is : e ≡ refusal.NoGas name has needs
  parts : rest ≡ name ++ 32 ∷ shortage_text unit (record { has = has; needs = needs })

lacking : (unit : ℕ) (rest : List ℕ) (e : Refusal) → IsCause e → codes "NoGas " ++ rest ≡ cause_text unit e
    → Lacking unit rest e
lacking unit rest (refusal.NoAccount name) is same = absurd (omega (arith, ap (λ t. get_or t 2 0) same))
lacking unit rest (refusal.NoProcess name) is same = absurd (omega (arith, ap (λ t. get_or t 2 0) same))
lacking unit rest (refusal.BadArguments name) is same = absurd (omega (arith, ap (λ t. get_or t 2 0) same))
lacking unit rest (refusal.NameTaken name) is same = absurd (omega (arith, ap (λ t. get_or t 2 0) same))
lacking unit rest (refusal.NoGas name has needs) is same =
    let behind : rest ≡ (((name ++ codes " has ") ++ gas_text has unit) ++ codes " needs ") ++ gas_text needs unit =
    ap (λ t. drop 6 t) same in
    record {
      name = name;
      has = has;
      needs = needs;
      named = is.0;
      small = (is.1, is.2);
      is = refl;
      parts = behind ∙ three_parts name (gas_text has unit) (gas_text needs unit);
    }
lacking unit rest refusal.TooMuchGas is same = absurd (omega (arith, ap (λ t. get_or t 2 0) same))

-- the name and the amounts
lacking_parts : (unit : ℕ) (rest front back : List ℕ) (e : Refusal) (l : Lacking unit rest e)
    → ComesApart 32 rest front back
    → (front ≡ l.name) × (back ≡ shortage_text unit (record { has = l.has; needs = l.needs }))
lacking_parts unit rest front back e l apart =
    ComesApart-parts 32 rest front back l.name (shortage_text unit (record { has = l.has; needs = l.needs })) apart
    (Lacks-name l.name l.named) l.parts

-- without a blank
pub no_gas_whole : (unit : ℕ) (rest : List ℕ) → Lacks 32 rest
    → ReadsAs IsCause (cause_text unit) (codes "NoGas " ++ rest) None
no_gas_whole unit rest lacks =
    ReadsAs-none (codes "NoGas " ++ rest) (λ e is same.
    let l = lacking unit rest e is same in
    let lacks' : Lacks 32 (l.name ++ 32 ∷ shortage_text unit (record { has = l.has; needs = l.needs })) =
    rw (← l.parts) lacks in
    Lacks-apart 32 l.name (shortage_text unit (record { has = l.has; needs = l.needs })) lacks')

-- without amounts
pub no_gas_amounts : (unit : ℕ) (rest front back : List ℕ) → ComesApart 32 rest front back
    → ReadsAs IsShortage (shortage_text unit) back None
    → ReadsAs IsCause (cause_text unit) (codes "NoGas " ++ rest) None
no_gas_amounts unit rest front back apart reads =
    ReadsAs-none (codes "NoGas " ++ rest) (λ e is same.
    let l = lacking unit rest e is same in
    let none = reads.each (record { has = l.has; needs = l.needs }) l.small
    (lacking_parts unit rest front back e l apart).1 in
    cc)

-- without a name
pub no_gas_name : (unit : ℕ) (rest front back : List ℕ) → ComesApart 32 rest front back
    → ReadsAs IsScriptName (λ n. n) front None → ReadsAs IsCause (cause_text unit) (codes "NoGas " ++ rest) None
no_gas_name unit rest front back apart reads =
    ReadsAs-none (codes "NoGas " ++ rest) (λ e is same.
    let l = lacking unit rest e is same in
    let none = reads.each l.name l.named (lacking_parts unit rest front back e l apart).0 in
    cc)

-- an amount of a shortage, or none
abbrev amount_in : (Shortage → ℕ) → Option Shortage → ℕ
amount_in part None = 0
amount_in part (Some s) = part s

-- with all of them
pub no_gas_all : (unit : ℕ) (rest front back name : List ℕ) (has needs : ℕ) → ComesApart 32 rest front back
    → ReadsAs IsShortage (shortage_text unit) back (Some (record { has = has; needs = needs }))
    → ReadsAs IsScriptName (λ n. n) front (Some name)
    → ReadsAs IsCause (cause_text unit) (codes "NoGas " ++ rest) (Some (refusal.NoGas name has needs))
no_gas_all unit rest front back name has needs apart amounts named =
    let here : rest ≡ (((name ++ codes " has ") ++ gas_text has unit) ++ codes " needs ") ++ gas_text needs unit =
    apart.joined ∙ ap (λ t. t ++ 32 ∷ back) named.found.1 ∙ ap (λ t. name ++ 32 ∷ t) amounts.found.1
    ∙ sym (three_parts name (gas_text has unit) (gas_text needs unit)) in
    record {
      found = ((named.found.0, amounts.found.0.0, amounts.found.0.1), ap (λ r. codes "NoGas " ++ r) here);
      each = λ e is same.
          let l = lacking unit rest e is same in
          let parts = lacking_parts unit rest front back e l apart in
          let amounts_are = amounts.each (record { has = l.has; needs = l.needs }) l.small parts.1 in
          let name_is = named.each l.name l.named parts.0 in
          let has_is : has ≡ l.has = ap (λ o. amount_in (λ s. s.has) o) amounts_are in
          let needs_is : needs ≡ l.needs = ap (λ o. amount_in (λ s. s.needs) o) amounts_are in
          let named_is : name ≡ l.name = cc name_is in
          rw (l.is, named_is, has_is, needs_is) refl;
    }

-- ---- all causes

lone_each : (unit : ℕ) (text : List ℕ) (answer : Option Refusal)
    → ((rest : List ℕ) → text ≢ codes "NoAccount " ++ rest) → ((rest : List ℕ) → text ≢ codes "NoProcess " ++ rest)
    → ((rest : List ℕ) → text ≢ codes "BadArguments " ++ rest) → ((rest : List ℕ) → text ≢ codes "NameTaken " ++ rest)
    → ((rest : List ℕ) → text ≢ codes "NoGas " ++ rest) → (text ≡ codes "TooMuchGas" → answer ≡ Some refusal.TooMuchGas)
    → (e : Refusal) → text ≡ cause_text unit e → answer ≡ Some e
lone_each unit text answer no_account no_process no_arguments no_taken no_gas lone (refusal.NoAccount name) same =
    absurd (no_account name same)
lone_each unit text answer no_account no_process no_arguments no_taken no_gas lone (refusal.NoProcess name) same =
    absurd (no_process name same)
lone_each unit text answer no_account no_process no_arguments no_taken no_gas lone (refusal.BadArguments name) same =
    absurd (no_arguments name same)
lone_each unit text answer no_account no_process no_arguments no_taken no_gas lone (refusal.NameTaken name) same =
    absurd (no_taken name same)
lone_each unit text answer no_account no_process no_arguments no_taken no_gas lone (refusal.NoGas name has needs) same =
    absurd (no_gas ((((name ++ codes " has ") ++ gas_text has unit) ++ codes " needs ") ++ gas_text needs unit) same)
lone_each unit text answer no_account no_process no_arguments no_taken no_gas lone refusal.TooMuchGas same =
    lone same

-- a text that begins with no word behind which something stands says that there is too much gas, or nothing
pub lone_reads : (unit : ℕ) (text : List ℕ) (answer : Option Refusal)
    → ((rest : List ℕ) → text ≢ codes "NoAccount " ++ rest) → ((rest : List ℕ) → text ≢ codes "NoProcess " ++ rest)
    → ((rest : List ℕ) → text ≢ codes "BadArguments " ++ rest) → ((rest : List ℕ) → text ≢ codes "NameTaken " ++ rest)
    → ((rest : List ℕ) → text ≢ codes "NoGas " ++ rest)
    → IfSome answer (λ e. IsCause e × (text ≡ cause_text unit e))
    → (text ≡ codes "TooMuchGas" → answer ≡ Some refusal.TooMuchGas)
    → ReadsAs IsCause (cause_text unit) text answer
lone_reads unit text answer no_account no_process no_arguments no_taken no_gas found lone =
    record {
      found = found;
      each = λ e is same. lone_each unit text answer no_account no_process no_arguments no_taken no_gas lone e same;
    }
