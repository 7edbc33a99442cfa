-- `frame::build` meets its contract: BuildLaws says what its loop keeps. Assumes nothing.
use borrow.Author.Rules.{rules}
use native.Mathlib.Omega.{arith}
use Prim.Native.Nat.{ℕ}
use mathlib.Core.List.{List}
use mathlib.Core.Path.{◌≡◌, refl, ap, subst, ◌∙◌}
use lib.ListN.{get_or, length-set}
use Rattle.std.specs.Int.{w16, to_le_bytes}
use Rattle.frame.specs.Frame.{odd_symbol}
use Rattle.frame.proofs.BuildLaws.{Building, build_more, build_last}
use Rattle.frame.proofs.build.Goals as goal

pub loop-place-preserved : goal.loop-place-preserved
loop-place-preserved c =
    let at = c.loop-place in (
      length-set at.symbols at.place c.symbol_of.result ∙ at.invariant.0,
      build_more c.args.bytes at.symbols at.place c.symbol_of.result (search rules) at.invariant.0 (search rules)
          c.symbol_of.ensures at.invariant.1,
    )

pub returns : goal.returns
returns c =
    let at = c.loop-place in
    build_last c.args.bytes at.symbols c.crc.result c.symbol_of-2.result c.symbol_of-3.result (search rules)
    at.invariant.0 c.crc.ensures (c.symbol_of-2.ensures ∙ byte 0 refl) (c.symbol_of-3.ensures ∙ byte 1 refl)
    (subst (Building c.args.bytes at.symbols) ten at.invariant.1)
  where
    ten : c.loop-place.place ≡ 10
    ten = omega (arith, c.loop-place-test.false, c.loop-place.auto.place-end)

    byte : (i : ℕ) {n : ℕ} → get_or (to_le_bytes w16 c.crc.result) i 0 ≡ n → odd_symbol (get_or c.to_le_bytes.result i 0) ≡ odd_symbol n
    byte i e = ap (λ (l : List ℕ). odd_symbol (get_or l i 0)) c.to_le_bytes.ensures ∙ ap odd_symbol e
