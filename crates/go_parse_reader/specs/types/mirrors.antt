-- Definitions that follow the code step by step, for its proof. The clauses of this crate are about reading itself and name them; what
-- go_parse_core says of a text does not, but for which of P1 and P2 a text without a tree has.
pub mod EntryShapes
pub mod Giving
pub mod Marks
pub mod TypeReading
