pub mod Fields
pub mod EventWords
pub mod ScriptLines
pub mod ScriptCauses
