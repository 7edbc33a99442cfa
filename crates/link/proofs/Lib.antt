-- The proofs of what specs/ states, from the bottom up. Beside a folder stands a file of its name: what it comes to.
--   Line        what a side has sent, as cells of frames: their words, the next one, what arrives, a collection on it
--   Invariant   what is true after every run: one way, and both
--   Kept        each step keeps it, and so does every run
--   Taken       what else is true where the host that takes keeps the rule
--   Shows       what 3.2308 shows of acknowledgements
--   PartOne     demand 3, first part, and the facts on the log
--   PartTwo     demand 3, second part: a message's progress, slot by slot
--   Rule        the rule of a run, in document 01's words
--   Computed    runs that are computed: the cases, and that no number of demand 3 can be smaller
-- Assumes nothing.
pub mod Line
pub mod Invariant
pub mod Kept
pub mod Taken
pub mod Shows
pub mod PartOne
pub mod PartTwo
pub mod Rule
pub mod Computed
