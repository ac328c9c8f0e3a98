mod OldPlaces
mod Refusals
mod Staying
mod TeamLines
