pub mod Below
pub mod GoodLemmas
pub mod PickLemmas
pub mod ScriptLemmas
