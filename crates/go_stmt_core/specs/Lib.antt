pub mod statement
pub mod piece
pub mod toplevel
pub mod denote_core
pub mod expr_core
pub mod inline_core
pub mod operand_core
