pub mod Inclusion
pub mod Vertices
pub mod Pieces
pub mod Triangles
pub mod Operation
pub mod Origin
