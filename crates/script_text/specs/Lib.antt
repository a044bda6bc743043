pub mod Words
pub mod LineText
pub mod Commands
pub mod ScriptForm
pub mod EventText
pub mod ScriptText
