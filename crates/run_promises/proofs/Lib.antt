pub mod RunPromises
