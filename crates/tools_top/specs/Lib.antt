pub mod ToolWords
pub mod ToolsEnd
