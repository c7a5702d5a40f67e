pub mod SentFacts
