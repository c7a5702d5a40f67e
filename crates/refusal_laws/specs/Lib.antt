pub mod RefusalFacts
