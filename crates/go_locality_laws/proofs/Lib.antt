mod Checking
mod Meanings
mod Parting
mod Seeing
mod Standing
mod Staying
mod Valuing
