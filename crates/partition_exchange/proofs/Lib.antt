pub mod KeptCopies
