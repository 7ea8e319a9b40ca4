mod Decoding
mod Damaging
