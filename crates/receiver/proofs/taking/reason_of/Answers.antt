-- `taking::reason_of` meets its contract. Each return knows the tests that led to it. Assumes nothing.
use mathlib.Core.Bool.{false}
use mathlib.Core.Path.{◌≡◌}
use borrow.Author.Tests.{le-leb, lt-leb, eq-eqb, ne_eqb}
use lib.Dec.{eqb}
use Rattle.frame.specs.Frame.{even}
use Rattle.laws.proofs.Bools.{hence}
use Rattle.receiver.proofs.taking.reason_of.Goals as goal
use Rattle.receiver.proofs.taking.reason_of.Goals.{Else-had-eq0}

-- past the first test the collection is not empty
some : (c : Else-had-eq0) → eqb c.args.before.count 0 ≡ false
some c = ne_eqb _ 0 c.if-had-eq0.false

pub returns-then-had-eq0 : goal.returns-then-had-eq0
returns-then-had-eq0 c = rw (eq-eqb _ 0 c.if-had-eq0.true)

pub returns-then-symbol-ge-MARKED : goal.returns-then-symbol-ge-MARKED
returns-then-symbol-ge-MARKED c = rw (some (goal.at.returns-then-symbol-ge-MARKED c).Else-had-eq0, le-leb 512 _ c.if-symbol-ge-MARKED.true)

pub returns-then-crc_right : goal.returns-then-crc_right
unfolding even
returns-then-crc_right c =
    let q = c in
    let p = q in
    rw (some (goal.at.returns-then-crc_right p).Else-had-eq0, lt-leb 512 _ p.if-symbol-ge-MARKED.false)
    (rw (hence p.parity.ensures q.if-parity.true, eq-eqb _ 11 c.if-had-eq11.true)
    (rw (hence c.crc_right.ensures c.if-crc_right.true)))

pub returns-then-had-eq11 : goal.returns-then-had-eq11
unfolding even
returns-then-had-eq11 c =
    let q = c in
    let p = q in
    rw (some (goal.at.returns-then-had-eq11 p).Else-had-eq0, lt-leb 512 _ p.if-symbol-ge-MARKED.false)
    (rw (hence p.parity.ensures q.if-parity.true, eq-eqb _ 11 c.if-had-eq11.true)
    (rw (hence c.crc_right.ensures c.if-crc_right.false)))

pub returns-then-parity : goal.returns-then-parity
unfolding even
returns-then-parity c =
    let q = c in
    let p = q in
    rw (some (goal.at.returns-then-parity p).Else-had-eq0, lt-leb 512 _ p.if-symbol-ge-MARKED.false)
    (rw (hence p.parity.ensures q.if-parity.true, ne_eqb _ 11 c.if-had-eq11.false))

pub returns : goal.returns
unfolding even
returns c =
    let p = c in
    rw (some (goal.at.returns p).Else-had-eq0, lt-leb 512 _ p.if-symbol-ge-MARKED.false)
    (rw (hence p.parity.ensures c.if-parity.false))
