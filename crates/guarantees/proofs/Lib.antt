-- The statements hold of what the definitions give; a call that answers as they give has what is owed of it.
pub mod Typing
pub mod Nodes
pub mod Blocks
pub mod Owed
