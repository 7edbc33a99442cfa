-- `text::words::next` meets its contract: a word stands behind the spaces of the line, or there are spaces alone.
-- Assumes nothing.
use mathlib.Core.Path.{sym, ap, ◌∙◌}
use Rattle.std.proofs.Common.{rules, tests, ◌≡◌, not, nat_eq, take, drop, length}
use Rattle.std.specs.Prelude.{position, Option, ℕ, ◌-◌}
use Rattle.std.specs.Option.{unwrap_or}
use Rattle.std.proofs.lemmas.Iterator.{YieldsList-from_slice}
use Rattle.std.proofs.lemmas.Iterator.Search.{position_from_yields_List}
use Rattle.text.proofs.WordLaws.{words_none, rest_whole, stands}
use Rattle.text.proofs.words.next.Goals as goal

pub returns-in_err-start : goal.returns-in_err-start
returns-in_err-start c =
    let l = c.args.line.now in
    let begun : c.position.result ≡ position (λ x. not (nat_eq x 32)) l =
    position_from_yields_List (λ x. not (nat_eq x 32)) _ _ c.position.result c.position.ensures.ran
    (YieldsList-from_slice _ c.iter.ensures.rest) (λ x b q k. search (rules, tests)) in
    rw c.from_residual.ensures (words_none l (sym begun ∙ c.in_err-start.was))

pub returns : goal.returns
returns c =
    let l = c.args.line.now in
    let i = c.in_ok-start.start in
    let begun : c.position.result ≡ position (λ x. not (nat_eq x 32)) l =
    position_from_yields_List (λ x. not (nat_eq x 32)) _ _ c.position.result c.position.ensures.ran
    (YieldsList-from_slice _ c.iter.ensures.rest) (λ x b q k. search (rules, tests)) in
    let behind = take (length l - i) (drop i l) in
    let ended : c.position-2.result ≡ position (λ x. nat_eq x 32) behind =
    position_from_yields_List (λ x. nat_eq x 32) _ _ c.position-2.result c.position-2.ensures.ran
    (YieldsList-from_slice _ c.iter-2.ensures.rest) (λ x b q k. search (rules, tests)) in
    stands l i behind c.unwrap_or-end.result (rest_whole l i) (sym begun ∙ c.in_ok-start.was)
    (c.unwrap_or-end.ensures ∙ ap (λ (o : Option ℕ). unwrap_or o (length behind)) ended)
    c.split_at.ensures.front c.split_at.ensures.back c.split_at.ensures.front_len c.split_at.ensures.back_len
