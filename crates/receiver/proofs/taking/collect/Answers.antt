-- `taking::collect` meets its contract. Each return knows the tests that led to it. Assumes nothing.
use borrow.Author.Tests.{le-leb, lt-leb, eq-eqb, ne_eqb}
use Rattle.frame.specs.Frame.{even}
use Rattle.laws.proofs.Bools.{hence}
use Rattle.receiver.proofs.Laws.{count_is}
use Rattle.receiver.proofs.taking.collect.Goals as goal

pub returns-then-symbol-ge-MARKED : goal.returns-then-symbol-ge-MARKED
returns-then-symbol-ge-MARKED c = rw (le-leb 512 _ c.if-symbol-ge-MARKED.true)

pub returns-then-count-eq0 : goal.returns-then-count-eq0
unfolding even
returns-then-count-eq0 c =
    let p = c in
    rw (lt-leb 512 _ p.if-symbol-ge-MARKED.false, hence p.parity.ensures c.if-parity.true)
    (rw (eq-eqb _ 0 c.if-count-eq0.true) (count_is _ 0 c.if-count-eq0.true))

pub returns-then-count-eq11 : goal.returns-then-count-eq11
unfolding even
returns-then-count-eq11 c =
    let p = c in
    rw (lt-leb 512 _ p.if-symbol-ge-MARKED.false, hence p.parity.ensures c.if-parity.true)
    (rw (c.from-place.ensures, ne_eqb _ 0 c.if-count-eq0.false, eq-eqb _ 11 c.if-count-eq11.true))

pub returns-then-parity : goal.returns-then-parity
unfolding even
returns-then-parity c =
    let p = c in
    rw (lt-leb 512 _ p.if-symbol-ge-MARKED.false, hence p.parity.ensures c.if-parity.true)
    (rw (c.from-place.ensures, ne_eqb _ 0 c.if-count-eq0.false, ne_eqb _ 11 c.if-count-eq11.false))

pub returns : goal.returns
unfolding even
returns c =
    let p = c in
    rw (lt-leb 512 _ p.if-symbol-ge-MARKED.false, hence p.parity.ensures c.if-parity.false)
