pub mod CollectedArguments
