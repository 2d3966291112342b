pub mod FoundArguments
