-- A call that answers as the definitions give has what is owed of it.
pub mod Promised
