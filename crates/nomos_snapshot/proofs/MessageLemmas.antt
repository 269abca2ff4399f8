-- The words of a message come off one part after another.
use Rattle.std.proofs.Common.{◌≡◌, ◌≢◌, ℕ, ◌+◌, ◌*◌, List, [], ◌∷◌, ◌++◌, drop, get_or, Result, Ok, Err, Option, Some, None, IfOk, sym, ◌∙◌, ap, arith}
use Rattle.std.specs.Prelude.{MatchOption, codes, decimal}
use Rattle.nomos_ir.specs.declared.lists.ProgramLists.{ProgramLists}
use Rattle.nomos_machine.specs.declared.object.Message.{Message}
use Rattle.nomos_machine.specs.declared.object.Payload.{Payload}
use Rattle.nomos_machine.specs.declared.object.Payload.TheVariants as payload
use Rattle.nomos_snapshot.specs.Line.{IsGas, IsLinePayload, IsMessageLine, line_words, payload_words}
use Rattle.nomos_snapshot.specs.declared.line.SnapshotLine.{SnapshotLine}
use Rattle.nomos_snapshot.specs.declared.line.SnapshotLine.TheVariants as line
use Rattle.nomos_snapshot.specs.declared.message_lines.MessageHead.{MessageHead}
use Rattle.nomos_snapshot.specs.mirror.LineKinds.{IsMessageHead, IsMessageOf, head_words}

-- ---- what is brought

-- the first word says how many there are
rest-sign : List (List ℕ) → ℕ
rest-sign ws = get_or (get_or ws 0 []) 0 0 * 256 + get_or (get_or ws 0 []) 1 0

payload-rest : (lists : ProgramLists) (p q : Payload) (ws vs : List (List ℕ))
    → payload_words lists p ++ ws ≡ payload_words lists q ++ vs → ws ≡ vs
unfolding rest-sign
payload-rest lists (payload.Label l) (payload.Label m) ws vs e = cc
payload-rest lists (payload.Value v) (payload.Value w) ws vs e = cc
payload-rest lists (payload.Channel m) (payload.Channel n) ws vs e = cc
payload-rest lists payload.Pay payload.Pay ws vs e = cc
payload-rest lists payload.Close payload.Close ws vs e = cc
payload-rest lists (payload.Label l) q ws vs e = absurd (omega (arith, ap rest-sign e))
payload-rest lists (payload.Value v) q ws vs e = absurd (omega (arith, ap rest-sign e))
payload-rest lists (payload.Channel n) q ws vs e = absurd (omega (arith, ap rest-sign e))
payload-rest lists payload.Pay q ws vs e = absurd (omega (arith, ap rest-sign e))
payload-rest lists payload.Close q ws vs e = absurd (omega (arith, ap rest-sign e))

-- one word and another
not-brought : (lists : ProgramLists) (words : List (List ℕ)) (k word : List ℕ) (rest : List (List ℕ))
    → words ≡ k ∷ word ∷ rest → k ≢ codes "pay" → k ≢ codes "close"
    → ((p : Payload) → IsLinePayload lists p → k ∷ word ∷ [] ≢ payload_words lists p)
    → (p : Payload) (others : List (List ℕ)) → IsLinePayload lists p → words ≢ payload_words lists p ++ others
not-brought lists words k word rest are no_pay no_close none (payload.Label l) others is e =
    let both : k ∷ word ∷ [] ≡ payload_words lists (payload.Label l) = cc in
    none (payload.Label l) is both
not-brought lists words k word rest are no_pay no_close none (payload.Value v) others is e =
    let both : k ∷ word ∷ [] ≡ payload_words lists (payload.Value v) = cc in
    none (payload.Value v) is both
not-brought lists words k word rest are no_pay no_close none (payload.Channel n) others is e =
    let both : k ∷ word ∷ [] ≡ payload_words lists (payload.Channel n) = cc in
    none (payload.Channel n) is both
not-brought lists words k word rest are no_pay no_close none payload.Pay others is e =
    let same : k ≡ codes "pay" = cc in
    no_pay same
not-brought lists words k word rest are no_pay no_close none payload.Close others is e =
    let same : k ≡ codes "close" = cc in
    no_close same

pub brought-reads : {E : Type 0} (lists : ProgramLists) (words : List (List ℕ)) (k word : List ℕ) (rest : List (List ℕ))
    (result : Result (Option Payload) E) → words ≡ k ∷ word ∷ rest → k ≢ codes "pay" → k ≢ codes "close"
    → IfOk result (λ found. MatchOption found
    ((p : Payload) → IsLinePayload lists p → k ∷ word ∷ [] ≢ payload_words lists p)
    (λ p. IsLinePayload lists p × (k ∷ word ∷ [] ≡ payload_words lists p)))
    → IfOk result (λ found. MatchOption found
    ((p : Payload) (others : List (List ℕ)) → IsLinePayload lists p → words ≢ payload_words lists p ++ others)
    (λ p. IsLinePayload lists p × (words ≡ payload_words lists p ++ rest)))
brought-reads lists words k word rest (Err e) are no_pay no_close told = tt
brought-reads lists words k word rest (Ok None) are no_pay no_close told =
    not-brought lists words k word rest are no_pay no_close told
brought-reads lists words k word rest (Ok (Some p)) are no_pay no_close told =
    (told.0, are ∙ ap (λ (ws : List (List ℕ)). ws ++ rest) told.1)

-- ---- the line

head_of : Message → MessageHead
head_of m = record { number = m.number; to_client = m.to_client; from = m.from; next = m.next }

-- the words of the line of a message, behind the first one
record MessageWords (lists : ProgramLists) (words : List (List ℕ)) : Type 0 where
  message : Message
  is : IsMessageLine lists message
  head : IsMessageHead (head_of message)
  joined : words
      ≡ head_words (head_of message) (payload_words lists message.payload ++ codes "purse" ∷ decimal message.purse ∷ [])

message-words : (lists : ProgramLists) (words : List (List ℕ)) (l : SnapshotLine) → IsMessageOf lists l
    → words ≡ drop 1 (line_words lists l) → MessageWords lists words
unfolding head_of
message-words lists words (line.Message m) is e = record {
  message = m;
  is = is;
  head = record { number = is.number; from = is.from; next = is.next };
  joined = e;
}
message-words lists words l is e = absurd is

pub head-none : (lists : ProgramLists) (words : List (List ℕ))
    → ((h : MessageHead) (rest : List (List ℕ)) → IsMessageHead h → words ≢ head_words h rest)
    → (l : SnapshotLine) → IsMessageOf lists l → words ≢ drop 1 (line_words lists l)
head-none lists words none l is e =
    let m = message-words lists words l is e in
    none (head_of m.message) (payload_words lists m.message.payload ++ codes "purse" ∷ decimal m.message.purse ∷ [])
    m.head
    m.joined

-- what stands behind the head
behind-head : (lists : ProgramLists) (words rest : List (List ℕ)) (h : MessageHead) → words ≡ head_words h rest
    → (m : MessageWords lists words)
    → rest ≡ payload_words lists m.message.payload ++ codes "purse" ∷ decimal m.message.purse ∷ []
behind-head lists words rest h are m = let joined = m.joined in cc

pub payload-none : (lists : ProgramLists) (words rest : List (List ℕ)) (h : MessageHead) → words ≡ head_words h rest
    → ((p : Payload) (others : List (List ℕ)) → IsLinePayload lists p → rest ≢ payload_words lists p ++ others)
    → (l : SnapshotLine) → IsMessageOf lists l → words ≢ drop 1 (line_words lists l)
payload-none lists words rest h are none l is e =
    let m = message-words lists words l is e in
    none m.message.payload (codes "purse" ∷ decimal m.message.purse ∷ []) m.is.payload_is
    (behind-head lists words rest h are m)

pub purse-none : (lists : ProgramLists) (words rest last : List (List ℕ)) (h : MessageHead) (p : Payload)
    → words ≡ head_words h rest → rest ≡ payload_words lists p ++ last
    → ((n : ℕ) → IsGas n → last ≢ codes "purse" ∷ decimal n ∷ [])
    → (l : SnapshotLine) → IsMessageOf lists l → words ≢ drop 1 (line_words lists l)
purse-none lists words rest last h p are brings none l is e =
    let m = message-words lists words l is e in
    none m.message.purse m.is.purse
    (payload-rest lists p m.message.payload last (codes "purse" ∷ decimal m.message.purse ∷ [])
    (sym brings ∙ behind-head lists words rest h are m))
