pub mod KeyLemmas
pub mod MoverLemmas
