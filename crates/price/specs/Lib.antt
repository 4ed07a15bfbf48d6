pub mod Laws
pub mod Amounts
pub mod Rates
pub mod Lex
