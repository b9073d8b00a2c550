mod OpenBlocks
mod ShowFileNames
