-- Nothing is read, and a file has to follow.
use Rattle.std.proofs.Common.{◌≡◌, List, [], ◌∷◌, refl, sym, ap, subst, ◌∙◌}
use Rattle.nomos_grammar.specs.declared.part.Nonterminal.TheVariants.{File}
use Rattle.nomos_grammar.specs.declared.part.Part.{Part}
use Rattle.nomos_grammar.specs.declared.part.Part.TheVariants as part
use Rattle.nomos_grammar.specs.CountedPlaces.{Counts, nothing_counted}
use Rattle.nomos_grammar.specs.Producing.{file}
use Rattle.nomos_grammar.specs.mirror.ReaderStates.{IsReady, HasRead}
use Rattle.nomos_grammar.specs.mirror.Tallies.{counts_of}
use Rattle.nomos_grammar.proofs.OutcomeLemmas.{ready_first}
use Rattle.nomos_grammar.proofs.StandLemmas.{nothing_read}
use Rattle.nomos_grammar.proofs.reader.Reader.new.Goals as goal

pub returns : goal.returns
returns c =
    let parts : c.push.new.self ≡ file = c.in_ok-push.ensures
    ∙ ap (λ (rest : List Part). part.Nonterminal File ∷ rest) c.new-parts.ensures in
    let none : counts_of c.new.result ≡ nothing_counted = c.new.ensures.counted in
    record {
      steady = record {
        kept = c.new.ensures.kept;
        ready =
            subst (λ (p : List Part). IsReady p (counts_of c.new.result)) (sym parts)
            (subst (λ (k : Counts). IsReady file k) (sym none) ready_first);
      };
      behind = record {
        read =
            subst (λ (p : List Part). HasRead [] p (counts_of c.new.result)) (sym parts)
            (subst (λ (k : Counts). HasRead [] file k) (sym none) nothing_read);
        last = refl;
      };
    }
