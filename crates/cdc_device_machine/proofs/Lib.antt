mod Codings
mod Transfers
