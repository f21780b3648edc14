pub mod Headline
pub mod SimPort
pub mod Stack
