pub mod Ends
pub mod PieceIdents
