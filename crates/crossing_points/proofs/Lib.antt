mod Stretches
mod Rowwise
