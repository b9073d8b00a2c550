mod Counting
mod Differing
mod EditedParts
mod KeptParts
