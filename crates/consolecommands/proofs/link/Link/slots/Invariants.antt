-- `consolecommands::link::Link::slots` meets its contract. Assumes nothing.
use Rattle.std.proofs.Common.{◌≡◌, ◌+◌, ◌%◌, ◌^◌}
use Rattle.consolecommands.specs.Slots.{state, Slots}
use Rattle.consolecommands.proofs.link.Link.slots.Given as goal

abbrev pub invariant-loop : goal.invariant-loop
invariant-loop g l =
    let x = l.initial.self in
    let y = l.self in
    (l.slots ≡ y.slots)
    × (y.slots ≡ (x.slots + l.counter) % 2 ^ 64)
    × (y.to_a.delay ≡ x.to_a.delay)
    × (y.to_b.delay ≡ x.to_b.delay)
    × Slots g.C.Channel.sends g.C.Channel.takes g.C.Channel.marks l.counter
    (state x.a x.b x.to_a x.to_b x.slots x.kept_a.now x.kept_b.now)
    (state y.a y.b y.to_a y.to_b y.slots y.kept_a.now y.kept_b.now)
