-- Definitions that follow the code step by step, for its proof. No statement that a caller rests on needs them, but the one of
-- specs/Refusing.antt that says which of P1 and P2 a text without a tree has: by `file_at` of FileReading.
pub mod FileReading
pub mod Stopping
