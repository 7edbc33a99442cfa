-- `field::named` meets its contract: `find` gives the first field whose name is the word. Assumes nothing.
use borrow.Author.Rules.{rules}
use borrow.Author.Tests.{tests}
use mathlib.Core.Path.{◌≡◌, ap, ◌∙◌}
use Rattle.std.proofs.lemmas.Iterator.{YieldsList-from_slice, first_from_find}
use Rattle.std.proofs.lemmas.Iterator.Consumers.{YieldsList-from_copied}
use Rattle.consolecommands.proofs.NameLaws.{placed}
use Rattle.consolecommands.proofs.field.named.Goals as goal

pub returns-clause-place : goal.returns-clause-place
returns-clause-place g c =
    let name = g.F.Field.name_of in
    let word = c.args.word.now in
    let rest = ap (λ s. s.rest.now) c.copied.ensures.source ∙ c.iter.ensures.rest ∙ c.all.ensures.value in
    placed name word g.F.Field.all_of c.find.result
    (first_from_find _ _ _ (λ f. name f ≡ word) (λ f. name f ≡ word → ⊥) c.find.ensures.ran
    (YieldsList-from_copied (YieldsList-from_slice g.F.Field.all_of rest)) (λ x q k. search (rules, tests)) (λ x q k. search (rules, tests)))
