pub mod MatrixArguments
pub mod GivenCommands
pub mod GeneratedWords
