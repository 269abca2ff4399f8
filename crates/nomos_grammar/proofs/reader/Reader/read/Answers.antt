-- The token breaks a rule, or keeps to all.
use Rattle.std.proofs.Common.{◌≡◌, ◌≤◌, true, false, [], ◌∷◌, ◌++◌, Option, sym, subst, ◌∙◌}
use Rattle.nomos_syntax.specs.TextLimits.{node_limit}
use Rattle.nomos_grammar.specs.declared.offence.Which.{Which}
use Rattle.nomos_grammar.specs.CountedPlaces.{Counts}
use Rattle.nomos_grammar.specs.Offence.{nodes_before, Keeps}
use Rattle.nomos_grammar.specs.mirror.ReaderStates.{IsReady, HasRead, PassesItself}
use Rattle.nomos_grammar.specs.mirror.Tallies.{counts_of}
use Rattle.nomos_grammar.proofs.OutcomeLemmas.{
  standing,
  failing,
  breaks_before,
  keeps_before,
  fails_before,
  breaks_itself,
  breaks_syntax,
  breaks_count,
  keeps_all,
  last_read,
  ready_again,
}
use Rattle.nomos_grammar.proofs.StandLemmas.{read_on}
use Rattle.nomos_grammar.proofs.reader.Reader.read.Goals as goal
use Rattle.nomos_grammar.proofs.reader.Reader.read.Goals.{
  else-may_stand-via-then-may_stand+else-self-gt-NODE_LIMIT,
  else-may_stand-via-else-may_stand,
}

pub returns-then-self-gt-NODE_LIMIT-clause-reads : goal.returns-then-self-gt-NODE_LIMIT-clause-reads
returns-then-self-gt-NODE_LIMIT-clause-reads c = λ front x seen behind.
    let rest = c.next_terminal.new.parts in
    let d = counts_of c.next_terminal.new.tally in
    let s = standing front x c.args.self.now.parts (counts_of c.args.self.now.tally) c.args.sight.terminal
    c.in_ok-asked.asked rest d
    behind.read c.in_ok-asked.ensures.settles seen.terminal (sym c.fits-may_stand.ensures ∙ c.if-may_stand.true) in
    breaks_before front x rest d c.args.self.now.last s c.if-self-gt-NODE_LIMIT.true behind.last

pub returns-in-Some-clause-reads : goal.returns-in-Some-clause-reads
returns-in-Some-clause-reads c = λ front x seen behind.
    let rest = c.next_terminal.new.parts in
    let d = counts_of c.next_terminal.new.tally in
    let kept : Keeps front x nodes_before = elim c.else-may_stand.branch [
      | else-may_stand-via-then-may_stand+else-self-gt-NODE_LIMIT w ↦
          keeps_before front x rest d
          (standing front x c.args.self.now.parts (counts_of c.args.self.now.tally) c.args.sight.terminal
          c.in_ok-asked.asked rest d
          behind.read c.in_ok-asked.ensures.settles seen.terminal (sym c.fits-may_stand.ensures ∙ w.if-may_stand.true))
          w.if-self-gt-NODE_LIMIT.false
      | else-may_stand-via-else-may_stand w ↦
          fails_before front x
          (failing front x c.args.self.now.parts (counts_of c.args.self.now.tally) c.args.sight.terminal
          c.in_ok-asked.asked rest d
          behind.read c.in_ok-asked.ensures.settles seen.terminal (sym c.fits-may_stand.ensures ∙ w.if-may_stand.false))
    ] in
    breaks_itself front x c.in-Some.which c.args.sight.at kept
    (subst (λ (o : Option Which). PassesItself x.lexeme o) c.in-Some.is seen.passed) seen.at

pub returns-then-not-may_stand-clause-reads : goal.returns-then-not-may_stand-clause-reads
returns-then-not-may_stand-clause-reads c = λ front x seen behind.
    let rest = c.next_terminal.new.parts in
    let d = counts_of c.next_terminal.new.tally in
    let fails = failing front x c.args.self.now.parts (counts_of c.args.self.now.tally) c.args.sight.terminal
    c.in_ok-asked.asked rest d
    behind.read c.in_ok-asked.ensures.settles seen.terminal (sym c.fits-may_stand.ensures ∙ c.if-not-may_stand.true) in
    breaks_syntax front x c.args.sight.at fails
    (subst (λ (o : Option Which). PassesItself x.lexeme o) c.in_default.is seen.passed) seen.at

pub returns-in-Some-passed-clause-reads : goal.returns-in-Some-passed-clause-reads
returns-in-Some-passed-clause-reads c = λ front x seen behind.
    let rest = c.next_terminal.new.parts in
    let d = counts_of c.next_terminal.new.tally in
    let s = standing front x c.args.self.now.parts (counts_of c.args.self.now.tally) c.args.sight.terminal
    c.in_ok-asked.asked rest d
    behind.read c.in_ok-asked.ensures.settles seen.terminal (sym c.fits-may_stand.ensures ∙ c.if-not-may_stand.false) in
    let within : d.before ≤ node_limit = elim c.else-may_stand.branch [
      | else-may_stand-via-then-may_stand+else-self-gt-NODE_LIMIT w ↦ w.if-self-gt-NODE_LIMIT.false
      | else-may_stand-via-else-may_stand w ↦ let clash : true ≡ false =
          sym c.if-not-may_stand.false ∙ w.if-may_stand.false in cc
    ] in
    breaks_count front x rest d c.args.sight.at s within
    (subst (λ (o : Option Which). PassesItself x.lexeme o) c.in_default.is seen.passed) seen.at
    c.in-Some-passed.which (sym c.in-Some-passed.ensures)

pub returns-clause-reads : goal.returns-clause-reads
returns-clause-reads c = λ front x seen behind.
    let rest = c.next_terminal.new.parts in
    let d = counts_of c.next_terminal.new.tally in
    let s = standing front x c.args.self.now.parts (counts_of c.args.self.now.tally) c.args.sight.terminal
    c.in_ok-asked.asked rest d
    behind.read c.in_ok-asked.ensures.settles seen.terminal (sym c.fits-may_stand.ensures ∙ c.if-not-may_stand.false) in
    let within : d.before ≤ node_limit = elim c.else-may_stand.branch [
      | else-may_stand-via-then-may_stand+else-self-gt-NODE_LIMIT w ↦ w.if-self-gt-NODE_LIMIT.false
      | else-may_stand-via-else-may_stand w ↦ let clash : true ≡ false =
          sym c.if-not-may_stand.false ∙ w.if-may_stand.false in cc
    ] in (
      keeps_all front x rest d c.args.sight.at s within
          (subst (λ (o : Option Which). PassesItself x.lexeme o) c.in_default.is seen.passed) seen.at
          (sym c.passed.ensures ∙ c.in_default-passed.is),
      record {
        read =
            subst (λ (k : Counts). HasRead (front ++ x ∷ []) rest k) (sym c.add_token.ensures.counted)
            (read_on front x s.terminal rest d s.comes s.fits);
        last = seen.at ∙ sym (last_read front x);
      },
    )

pub returns-clause-steady : goal.returns-clause-steady
returns-clause-steady c =
    let rest = c.next_terminal.new.parts in
    let d = counts_of c.next_terminal.new.tally in
    record {
      kept = c.add_token.ensures.kept;
      ready = subst (λ (k : Counts). IsReady rest k) (sym c.add_token.ensures.counted)
          (ready_again c.in_ok-asked.asked c.args.sight.terminal rest d c.in_ok-asked.ensures.settles.leads.ready
          (sym c.fits-may_stand.ensures ∙ c.if-not-may_stand.false) (sym c.passed.ensures ∙ c.in_default-passed.is));
    }
