pub mod Left
pub mod Asked
pub mod Positions
pub mod Cursor
pub mod CursorMoves
