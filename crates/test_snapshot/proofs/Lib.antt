mod Fitting
mod FunctionsPlaced
mod LikeFiles
mod NamesSeen
