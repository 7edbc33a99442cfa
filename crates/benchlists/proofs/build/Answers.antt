-- `benchlists::build` meets its contract.
-- Assumes nothing.
use Rattle.std.proofs.Common.{◌≡◌, ◌++◌, [], ◌∷◌, eqb, get_or, rules, take}
use Rattle.benchlists.proofs.Symbols.{symbols_none, symbols_next}
use Rattle.text.specs.Printed.{closing_of, hex_of}
use Rattle.benchlists.proofs.build.Goals as goal

pub loop-i-init : goal.loop-i-init
loop-i-init c = (search rules, search rules, search rules, symbols_none c.build.result _)

pub loop-i-preserved : goal.loop-i-preserved
loop-i-preserved c =
    let i = c.loop-i.i in
    let l = c.build.result in
    let x = take c.args.out.now.at c.args.out.now.bytes.now in
    let y = take c.loop-i.out.at c.loop-i.out.bytes.now in
    let z = take c.hex.new.self.at c.hex.new.self.bytes.now in
    let w = take c.closing.new.self.at c.closing.new.self.bytes.now in
    let digits : z ≡ y ++ hex_of 3 (get_or l i 0) = search rules in
    let closed : w ≡ z ++ (closing_of (eqb i 11) ∷ []) = search rules in
    (search rules, search rules, search rules, symbols_next i l x y z w c.loop-i.invariant.3 digits closed)
